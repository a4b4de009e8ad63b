use Rattle.std.proofs.Common.{◌≡◌, ◌%◌, ◌^◌, ap, ◌∙◌}
use Rattle.std.specs.Prelude.{pos, ◌*ℤ◌, FitsSigned}
use Rattle.std.specs.Int.{w64, int_shl}
use Rattle.std.proofs.Math.Nat.{mod-eq_of_lt}
use Rattle.std.proofs.Math.Pow.{pow-lt}
use Rattle.std.proofs.Math.Facts.{to_z-of_z}
use Rattle.yr_values.specs.Numbers.{in_64_bits}
use Rattle.yr_values.proofs.NumberLemmas.{int_shl-is, of_z-small}
use Rattle.yr_values.proofs.number.doubled.Goals as goal

pub returns : goal.returns
returns c =
    let r : c.wrapping_shl.result ≡ in_64_bits (c.args.x *ℤ pos (2 ^ c.args.times)) =
    c.wrapping_shl.ensures
    ∙ ap (λ z. int_shl w64 z (c.args.times % 64)) (to_z-of_z c.ranges.x)
    ∙ ap (int_shl w64 c.args.x) (mod-eq_of_lt c.requires)
    ∙ int_shl-is c.args.x c.args.times c.ranges.x (pow-lt c.requires) (of_z-small c.args.x c.ranges.x) in
    let f : FitsSigned w64 c.wrapping_shl.result = record { sfits = c.wrapping_shl.type_inv } in
    to_z-of_z f ∙ r
