-- Ranges of numbers, one number longer.
use Rattle.std.proofs.Common.{◌≡◌, ℕ, ◌+◌, ◌-◌, ◌≤◌, List, [], ◌∷◌, ◌++◌, map, zero, suc, sym, ap, ◌∙◌, arith, add-zero, add-one, append-nil}
use Rattle.std.specs.List.{flat_map, range_with_len}
use Rattle.std.proofs.lemmas.List.{map-append}
use Rattle.std.proofs.lemmas.List.Concat.{flat_map-append}

-- one more number
pub range-suc : (a n : ℕ) → range_with_len a (suc n) ≡ range_with_len a n ++ (a + n) ∷ []
range-suc a zero = ap (λ x. x ∷ []) (sym (add-zero a))
range-suc a (suc n) =
    ap (λ l. a ∷ l) (range-suc (a + 1) n ∙ ap (λ x. range_with_len (a + 1) n ++ x ∷ []) (omega arith))

-- what the numbers from 0 give, and what one more gives
pub flat_map-range : {A : Type 0} (f : ℕ → List A) (n : ℕ) → flat_map f (range_with_len 0 (n + 1)) ≡ flat_map f (range_with_len 0 n) ++ f n
flat_map-range f n =
    ap (λ m. flat_map f (range_with_len 0 m)) (add-one n)
    ∙ ap (flat_map f) (range-suc 0 n ∙ ap (λ x. range_with_len 0 n ++ x ∷ []) (omega arith))
    ∙ flat_map-append f (range_with_len 0 n) (n ∷ [])
    ∙ ap (λ l. flat_map f (range_with_len 0 n) ++ l) (append-nil (f n))

-- what the numbers from low to before key give, and what the key gives
pub map-range : {A : Type 0} (f : ℕ → A) (low key : ℕ) → low ≤ key → map f (range_with_len low (key + 1 - low)) ≡ map f (range_with_len low (key - low)) ++ f key ∷ []
map-range f low key h =
    let e : key + 1 - low ≡ suc (key - low) = omega arith in
    let at : low + (key - low) ≡ key = omega arith in
    ap (λ n. map f (range_with_len low n)) e
    ∙ ap (map f) (range-suc low (key - low) ∙ ap (λ x. range_with_len low (key - low) ++ x ∷ []) at)
    ∙ map-append f (range_with_len low (key - low)) (key ∷ [])
