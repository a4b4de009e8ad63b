-- Ranges of rows that are read in place.
use Rattle.std.proofs.Common.{◌≡◌, ℕ, zero, suc, ◌+◌, ◌-◌, ◌<◌, ◌≤◌, List, [], ◌∷◌, length, take, drop, refl, sym, ap, ◌∙◌, arith, min}
use Rattle.std.specs.Prelude.{slice_get}
use Rattle.std.proofs.lemmas.List.{length-drop, length-take-le, take_min, drop_min}

module _ {A : Type 0} where
  -- a place of a range
  pub range_place : (n first count : ℕ) (rows : List A) → n < count → slice_get (take count (drop first rows)) n ≡ slice_get rows (first + n)
  range_place n first zero [] lt = absurd (omega (arith, lt))
  range_place n (suc first) (suc count) [] lt = refl
  range_place n zero (suc count) [] lt = refl
  range_place n zero zero (x ∷ rows) lt = absurd (omega (arith, lt))
  range_place zero zero (suc count) (x ∷ rows) lt = refl
  range_place (suc n) zero (suc count) (x ∷ rows) lt =
      let none : 0 + suc n ≡ suc (0 + n) = omega arith in
      range_place n zero count rows (omega (arith, lt)) ∙ ap (slice_get (x ∷ rows)) (sym none)
  range_place n (suc first) count (x ∷ rows) lt =
      let more : suc first + n ≡ suc (first + n) = omega arith in
      range_place n first count rows lt ∙ ap (slice_get (x ∷ rows)) (sym more)

  pub range_length : (first count : ℕ) (rows : List A) → first + count ≤ length rows → length (take count (drop first rows)) ≡ count
  range_length first count rows fits = length-take-le count (drop first rows) (omega (arith, fits, length-drop first rows))

  -- a range has those rows alone that are there
  pub range_clipped : (first count all : ℕ) (rows : List A) → length rows ≡ all →
      take (min count (all - min first all)) (drop (min first all) rows) ≡ take count (drop first rows)
  range_clipped first count all rows e =
      let left : all - min first all ≡ length (drop first rows) = omega (arith, length-drop first rows, e) in
      ap (λ n. take (min count (all - min first all)) (drop (min first n) rows)) (sym e) ∙ ap (take (min count (all - min first all))) (drop_min first rows)
      ∙ ap (λ n. take (min count n) (drop first rows)) left ∙ take_min count (drop first rows)
