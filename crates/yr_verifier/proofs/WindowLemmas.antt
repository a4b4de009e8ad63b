-- Window after window.
use Rattle.std.proofs.Common.{◌≡◌, ℕ, ◌+◌, ◌<◌, ◌≤◌, ⊎_elim, length, Option, Some, None, sym, ap, ◌∙◌, subst, arith}
use Rattle.std.specs.Prelude.{unwrap_or}
use Rattle.std.proofs.lemmas.Bool.{cases_order}
use Rattle.yr_image.specs.Image.{Image}
use Rattle.yr_verifier.specs.Names.{name_at, IsNew, FindsRepeat}
use Rattle.yr_verifier.specs.Windows.{AreDistinct, Repeats, IsOther, FindsIn, AreDone}
use Rattle.yr_verifier.proofs.NewLemmas.{new_from, new_says}

module _ (image : Image) where
  -- one more name of a window
  pub distinct_more : (from k : ℕ) → AreDistinct image from k → IsOther image from k k → AreDistinct image from (k + 1)
  distinct_more from k distinct other j i low less high same =
      ⊎_elim (λ e. other j low (omega (arith, less, e)) (same ∙ ap (name_at image) e))
      (⊎_elim (λ lt. distinct j i low less lt same) (λ gt. absurd (omega (arith, gt, high)))) (cases_order i k)

  -- a name that repeats one is not new
  pub repeats_old : (from k : ℕ) → k < length image.externals → Repeats image from k → IsNew image k → ⊥
  repeats_old from k here r new = new_says image k here new r.0 r.2 r.3

  pub repeats_before : (from k : ℕ) → Repeats image from k → from < k
  repeats_before from k r = omega (arith, r.1, r.2)

  -- the first repeat stands in a window
  pub repeat_in : (from k bound end : ℕ) → end ≤ length image.externals → AreDone image from bound end → k < bound → Repeats image from k → AreDistinct image from k
      → FindsRepeat image end (Some k)
  repeat_in from k bound end all done lt r distinct = (
    omega (arith, lt, done.inside),
    repeats_old from k (omega (arith, lt, done.inside, all)) r,
    λ i less. new_from image i (λ j before same.
        ⊎_elim (λ e. distinct j i (omega (arith, e)) before less same)
        (⊎_elim (λ low. done.other j i low before (omega (arith, less, lt)) same) (λ high. distinct j i (omega (arith, high)) before less same)) (cases_order j from)),
  )

  -- the window after the ones that are done
  pub done_more : (from to bound next end : ℕ) (o : Option ℕ) → AreDone image from bound end → AreDistinct image from to → FindsIn image from to bound o → next ≡ unwrap_or o bound
      → AreDone image to next end
  done_more from to bound next end None done distinct found e = record {
    inside = omega (arith, e, done.inside);
    other = λ j i low before high same.
        ⊎_elim (λ eq. inner j i low before (omega (arith, high, e)) (omega (arith, eq)) same)
        (⊎_elim (λ lt. done.other j i lt before (omega (arith, high, e)) same) (λ gt. inner j i low before (omega (arith, high, e)) (omega (arith, gt)) same)) (cases_order j from);
    repeats = λ lt. subst (Repeats image 0) (sym e) (done.repeats (omega (arith, lt, e)));
  }
    where
      inner : (j i : ℕ) → j < to → j < i → i < bound → from ≤ j → name_at image j ≡ name_at image i → ⊥
      inner j i low before high first same =
          ⊎_elim (λ eq. found i (omega (arith, eq)) high j first low same)
          (⊎_elim (λ lt. distinct j i first before lt same) (λ gt. found i (omega (arith, gt)) high j first low same)) (cases_order i to)
  done_more from to bound next end (Some k) done distinct found e = record {
    inside = omega (arith, e, found.1, done.inside);
    other = λ j i low before high same.
        ⊎_elim (λ eq. inner j i low before (omega (arith, high, e)) (omega (arith, eq)) same)
        (⊎_elim (λ lt. done.other j i lt before (omega (arith, high, e, found.1)) same) (λ gt. inner j i low before (omega (arith, high, e)) (omega (arith, gt)) same)) (cases_order j from);
    repeats = λ lt. subst (Repeats image 0) (sym e) (found.2.0, omega arith, found.2.2, found.2.3);
  }
    where
      inner : (j i : ℕ) → j < to → j < i → i < k → from ≤ j → name_at image j ≡ name_at image i → ⊥
      inner j i low before high first same =
          ⊎_elim (λ eq. found.3 i (omega (arith, eq)) high j first low same)
          (⊎_elim (λ lt. distinct j i first before lt same) (λ gt. found.3 i (omega (arith, gt)) high j first low same)) (cases_order i to)

  -- all windows are done
  pub all_new : (from bound end : ℕ) → AreDone image from bound end → bound ≤ from → (i : ℕ) → i < bound → IsNew image i
  all_new from bound end done le i lt = new_from image i (λ j before same. done.other j i (omega (arith, before, lt, le)) before lt same)

  pub done_first : (end : ℕ) → AreDone image 0 end end
  done_first end = record {
    inside = omega arith;
    other = λ j i low before high same. absurd (omega (arith, low));
    repeats = λ lt. absurd (omega (arith, lt));
  }
