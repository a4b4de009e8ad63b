-- The first of what a function gives.
use Rattle.std.proofs.Common.{◌≡◌, ℕ, zero, suc, ◌+◌, ◌<◌, ◌≤◌, Option, None, Some, refl, sym, ap, subst, ◌∙◌, arith, inl, inr}
use Rattle.std.specs.Option.{option_or}
use Rattle.std.proofs.Math.Nat.{eq-or-lt_of_le}
use Rattle.std.proofs.Math.Numerals.{suc-eq-add-one}
use Rattle.yr_modules.specs.Elf.EntryPoint.{first_below}

pub first_below-zero : (f : ℕ → Option ℕ) → first_below f 0 ≡ None
unfolding first_below
first_below-zero f = refl

-- one more that is not there
pub first_below-none : (f : ℕ → Option ℕ) (k : ℕ) → first_below f k ≡ None → f k ≡ None → first_below f (k + 1) ≡ None
first_below-none f k none at =
    let step : first_below f (suc k) ≡ None = unfold first_below in ap (λ o. option_or o (f k)) none ∙ at in
    ap (first_below f) (sym (suc-eq-add-one k)) ∙ step

-- the one at which none was there before is the first
pub first_below-found : (f : ℕ → Option ℕ) (n k x : ℕ) → k < n → first_below f k ≡ None → f k ≡ Some x → first_below f n ≡ Some x
unfolding first_below
first_below-found f zero k x lt none at = absurd (omega arith)
first_below-found f (suc n) k x lt none at =
    let low : k ≤ n = omega arith in
    elim (eq-or-lt_of_le low) [
      | inl e ↦ subst (λ (m : ℕ). first_below f (suc m) ≡ Some x) e (ap (λ o. option_or o (f k)) none ∙ at)
      | inr h ↦ ap (λ o. option_or o (f n)) (first_below-found f n k x h none at)
    ]
