use Rattle.std.proofs.Common.{◌≡◌, ℕ, ◌%◌, List, length, get_or, replicate, ◌∙◌, arith, bit_and}
use Rattle.std.proofs.lemmas.Nat.{and_mask}
use Rattle.std.specs.Simd.Lanes.{zip2}
use Rattle.yr_lanes.specs.Lanes.{HasLanes}
use Rattle.yr_lanes.proofs.LaneLemmas.{HasLanes-splat, SwzOk-halves, HasLanes-look_up}
use Rattle.yr_lanes.proofs.lanes.by_lower_half.Goals as goal

lower : (v : List ℕ) → length v ≡ 16 → HasLanes (zip2 bit_and v (replicate 16 15)) (λ k. get_or v k 0 % 16)
lower v long =
    let h = HasLanes-splat bit_and v 15 long in
    record { long = h.long; each = λ k l. h.each k l ∙ and_mask (get_or v k 0) 4 }

pub swizzle : goal.swizzle
swizzle c = SwzOk-halves c.args.table.now _ _ (lower c.args.block c.fits-block.0) (λ k l. omega arith)

pub returns : goal.returns
returns c = HasLanes-look_up c.args.table.now _ _ (lower c.args.block c.fits-block.0) (λ k l. omega arith)
