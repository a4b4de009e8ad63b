-- The rows of a list from one number to another.
use Rattle.std.proofs.Common.{◌≡◌, ℕ, suc, ◌+◌, ◌-◌, ◌<◌, ◌≤◌, min, List, [], ◌∷◌, length, take, drop, Some, inl, inr, refl, sym, ap, ap₂, ◌∙◌, arith}
use Rattle.std.specs.Prelude.{slice_get}
use Rattle.std.proofs.Math.Seq.{drop-cons}
use Rattle.std.proofs.lemmas.List.{length-drop, drop_min, take_min}
use Rattle.std.proofs.lemmas.Option.{slice_get_within, slice_get_cases, get_or_from_slice_get}

pub drop-none : {A : Type 0} (rows : List A) → drop 0 rows ≡ rows
drop-none [] = refl
drop-none (x ∷ rows) = refl

pub take-none : {A : Type 0} (rows : List A) → take 0 rows ≡ []
take-none [] = refl
take-none (x ∷ rows) = refl

pub there : {A : Type 0} (rows : List A) (k : ℕ) → k < length rows → (row : A) × (slice_get rows k ≡ Some row)
there rows k lt =
    elim (slice_get_cases rows k).1 [
      | inl h ↦ (h.0, h.2)
      | inr h ↦ absurd (omega (arith, lt, h.0))
    ]

-- the row is the first of those from its number on
pub drop-next : {A : Type 0} (rows : List A) (k : ℕ) (row : A) → slice_get rows k ≡ Some row → drop k rows ≡ row ∷ drop (k + 1) rows
drop-next rows k row e =
    let one : suc k ≡ k + 1 = omega arith in
    drop-cons rows k row (slice_get_within rows k row e) ∙ ap₂ (λ r l. r ∷ l) (get_or_from_slice_get rows k row row e) (ap (λ n. drop n rows) one)

abbrev pub between : {A : Type 0} → (k end : ℕ) → List A → List A
between k end rows = take (end - k) (drop k rows)

take-next : {A : Type 0} (n m : ℕ) (row : A) (rows : List A) → n ≡ suc m → take n (row ∷ rows) ≡ row ∷ take m rows
take-next n m row rows e = ap (λ k. take k (row ∷ rows)) e

pub between-next : {A : Type 0} (rows : List A) (k end : ℕ) (row : A) → k < end → slice_get rows k ≡ Some row → between k end rows ≡ row ∷ between (k + 1) end rows
between-next rows k end row lt e =
    ap (λ l. take (end - k) l) (drop-next rows k row e) ∙ take-next (end - k) (end - (k + 1)) row (drop (k + 1) rows) (omega (arith, lt))

pub between-none : {A : Type 0} (rows : List A) (k end : ℕ) → end ≤ k → between k end rows ≡ []
between-none rows k end le = let none : end - k ≡ 0 = omega (arith, le) in ap (λ n. take n (drop k rows)) none ∙ take-none (drop k rows)

pub between-all : {A : Type 0} (rows : List A) (first count end : ℕ) → end ≡ first + count → between first end rows ≡ take count (drop first rows)
between-all rows first count end e = let size : end - first ≡ count = omega (arith, e) in ap (λ n. take n (drop first rows)) size

-- a range has those bytes alone that are there
pub clipped : (first count all : ℕ) (bytes : List ℕ) → length bytes ≡ all → take (min count (all - min first all)) (drop (min first all) bytes) ≡ take count (drop first bytes)
clipped first count all bytes e =
    let left : all - min first all ≡ length (drop first bytes) = omega (arith, length-drop first bytes, e) in
    ap (λ n. take (min count (all - min first all)) (drop (min first n) bytes)) (sym e) ∙ ap (take (min count (all - min first all))) (drop_min first bytes)
    ∙ ap (λ n. take (min count n) (drop first bytes)) left ∙ take_min count (drop first bytes)
