-- A walk costs no more than to take many hits apart one by one.
use Rattle.std.proofs.Common.{◌≡◌, ◌≢◌, ℕ, ◌+◌, ◌*◌, ◌≤◌, ◌==◌, Bool, true, false, refl, ap, arith}
use Rattle.std.specs.Prelude.{if◌then◌else◌}
use Rattle.std.proofs.Math.Nat.{mul_comm, mul-add, mul-le-mul_left}
use Rattle.std.proofs.lemmas.Bool.Decides.{Decides-eqb}
use Rattle.yr_image.specs.Image.{Image}
use Rattle.yr_machine.specs.Budget.{moves_count, side_moves}

pub side_is : (image : Image) (kind place : ℕ) → kind ≡ 2 → side_moves image kind place ≡ moves_count image place
side_is image kind place e = ap (λ k. side_moves image k place) e

pub side_none : (image : Image) (kind place : ℕ) → kind ≢ 2 → side_moves image kind place ≡ 0
side_none image kind place other = at (kind == 2) (λ e. other ((Decides-eqb kind 2).0 e))
  where
    at : (b : Bool) → (b ≡ true → ⊥) → (if b then moves_count image place else 0) ≡ 0
    at true not_there = absurd (not_there refl)
    at false not_there = refl

-- four times a hit's cost pays a walk, and a hit's share is less than what is left of its cost
pub walk_fits : (size moves each per count before now : ℕ) → now ≤ before + each * size + per * count → each ≤ (moves + moves) + (moves + moves) → per ≤ 2 → 4 ≤ count
    → now + count ≤ before + (3 + size * moves) * count
walk_fits size moves each per count before now paid small share many =
    let one = mul-le-mul_left size small in
    let half : size * (moves + moves) ≡ size * moves + size * moves = mul-add size moves moves in
    let whole : size * ((moves + moves) + (moves + moves)) ≡ size * (moves + moves) + size * (moves + moves) = mul-add size (moves + moves) (moves + moves) in
    let turned = mul_comm each size in
    let fours = mul-le-mul_left (size * moves) many in
    let shares = mul-le-mul_left count share in
    let turned_share = mul_comm per count in
    let cost : (3 + size * moves) * count ≡ count * (3 + size * moves) = mul_comm (3 + size * moves) count in
    let parts : count * (3 + size * moves) ≡ count * 3 + count * (size * moves) = mul-add count 3 (size * moves) in
    let product : (size * moves) * count ≡ count * (size * moves) = mul_comm (size * moves) count in
    omega (arith, paid, one, half, whole, turned, fours, shares, turned_share, cost, parts, product)
