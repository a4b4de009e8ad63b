-- The next of the turns that are left.
use Rattle.std.proofs.Common.{◌≡◌, ℕ, zero, suc, ◌+◌, ◌-◌, ◌<◌, ◌≤◌, ℤ, pos, ◌+ℤ◌, List, [], ◌∷◌, length, take, drop, get_or, Option, Some, None, refl, sym, ap, ◌∙◌, arith}
use Rattle.std.specs.Prelude.{slice_get, nat_le, true, if◌then◌else◌, ◌-ℤ◌}
use Rattle.std.proofs.Math.Seq.{drop-cons}
use Rattle.std.proofs.lemmas.List.{length-map, length-drop, length-take-le}
use Rattle.std.proofs.lemmas.Option.{slice_get_within, get_or_from_slice_get, slice_get-get_or}
use Rattle.yr_values.specs.Values.{Number}
use Rattle.std.proofs.lemmas.Bool.Decides.{nat_tests}
use Rattle.yr_answer.specs.Turns.{Turn, Item, Member, turns_from, string_turns, turns_between, range_size, range_limit}

pub numbers-next : (x : ℤ) (n : ℕ) → 0 < n → turns_from x n ≡ Item (Number x) ∷ turns_from (x +ℤ pos 1) (n - 1)
numbers-next x zero lt = absurd (omega arith)
numbers-next x (suc n) lt = let same : n ≡ suc n - 1 = omega arith in ap (λ k. Item (Number x) ∷ turns_from (x +ℤ pos 1) k) same

module _ {A : Type 0} where
  take-next : (xs : List A) (n : ℕ) (x : A) → 0 < n → take n (x ∷ xs) ≡ x ∷ take (n - 1) xs
  take-next xs zero x lt = absurd (omega arith)
  take-next xs (suc n) x lt = let same : n ≡ suc n - 1 = omega arith in ap (λ k. x ∷ take k xs) same

  pub window-next : (xs : List A) (from n : ℕ) (x : A) → 0 < n → slice_get xs from ≡ Some x →
      take n (drop from xs) ≡ x ∷ take (n - 1) (drop (from + 1) xs)
  window-next xs from n x lt e =
      let one : suc from ≡ from + 1 = omega arith in
      ap (take n) (drop-cons xs from x (slice_get_within xs from x e))
      ∙ ap (λ y. take n (y ∷ drop (suc from) xs)) (get_or_from_slice_get xs from x x e)
      ∙ take-next (drop (suc from) xs) n x lt ∙ ap (λ k. x ∷ take (n - 1) (drop k xs)) one

  pub window-none : (xs : List A) (from n : ℕ) → slice_get xs from ≡ None → take n (drop from xs) ≡ []
  window-none [] zero zero e = refl
  window-none [] zero (suc n) e = refl
  window-none [] (suc from) zero e = refl
  window-none [] (suc from) (suc n) e = refl
  window-none (x ∷ xs) zero n e = cc
  window-none (x ∷ xs) (suc from) n e = window-none xs from n e

within : (n : ℕ) → n ≤ 268435456 → nat_le (n + 1) range_limit ≡ true
within n le = grind (arith, nat_tests)

-- the turns of a range whose last number is so much above its first
pub between : (x y : ℤ) (n : ℕ) → range_size (y -ℤ x) ≡ n + 1 → n ≤ 268435456 →
    Some (Item (Number x) ∷ turns_from (x +ℤ pos 1) n) ≡ turns_between (x, y)
between x y n e le =
    let one : n + 1 ≡ suc n = omega arith in
    sym (ap (λ m. if nat_le m range_limit then Some (turns_from x m) else None) e
    ∙ ap (λ b. if b then Some (turns_from x (n + 1)) else None) (within n le)
    ∙ ap (λ m. Some (turns_from x m)) one)

turns-length : (x : ℤ) (n : ℕ) → length (turns_from x n) ≡ n
turns-length x zero = refl
turns-length x (suc n) = ap suc (turns-length (x +ℤ pos 1) n)

pub turns-counted : (x : ℤ) (n : ℕ) → length (turns_from x n) + 1 ≡ n + 1
turns-counted x n = ap (λ k. k + 1) (turns-length x n)

pub members-counted : (lists : List ℕ) (row n total : ℕ) → row + n ≤ length lists → n + 1 ≡ total →
    length (string_turns (take n (drop row lists))) + 1 ≡ total
members-counted lists row n total le e =
    let fits : n ≤ length (drop row lists) = omega (arith, length-drop row lists, le) in
    omega (arith, length-map (take n (drop row lists)) Member, length-take-le n (drop row lists) fits, e)
