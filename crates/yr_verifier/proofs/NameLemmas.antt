-- Names of rows, and names that are new.
use Rattle.std.proofs.Common.{◌≡◌, ℕ, ◌<◌, ◌≤◌, List, length, Option, Some, None, refl, sym, ap, ◌∙◌, subst, arith, ⊎_elim, Bool, true, ◌&&◌}
use Rattle.std.specs.Prelude.{slice_get, ◌==◌, IfSome, IfNone}
use Rattle.std.specs.Option.{option_map_or}
use Rattle.std.proofs.lemmas.Bool.{eqb-true}
use Rattle.std.proofs.lemmas.Bool.Decides.{leb_tells}
use Rattle.yr_image.specs.Image.{Image, namespace_of}
use Rattle.yr_image.specs.Sections.{HasSections, rows_of}
use Rattle.yr_image.specs.Reading.{image_in}
use Rattle.yr_machine.specs.Rows.{row_passes}
use Rattle.yr_machine.specs.Names.{At, is_name, is_string_name, rule_name, note_name, string_name, NamePasses}
use Rattle.yr_verifier.proofs.CountLemmas.{rules_counted, notes_counted, externals_counted, strings_counted}
use Rattle.yr_verifier.specs.Firsts.{Finds}
use Rattle.yr_verifier.specs.Names.{IsNew, FindsRepeat}
use Rattle.yr_verifier.proofs.NewLemmas.{new_beyond}
use Rattle.yr_verifier.specs.Named.{is_named}
use Rattle.yr_verifier.proofs.RowLemmas.{either, row_missing}

pub row_passes_at : {A : Type 0} (image : Image) (test : A → Bool) (rows : List A) (k : ℕ) → row_passes image test rows k ≡ true → At (λ row. test row ≡ true) rows k
row_passes_at image test rows k e row at = sym (ap (λ o. option_map_or test o true) at) ∙ e

at_row_passes : {A : Type 0} (image : Image) (test : A → Bool) (rows : List A) (k : ℕ) → At (λ row. test row ≡ true) rows k → row_passes image test rows k ≡ true
at_row_passes {A} image test rows k h = by (slice_get rows k) refl
  where
    by : (o : Option A) → slice_get rows k ≡ o → option_map_or test o true ≡ true
    by None e = refl
    by (Some row) e = h row e

-- what is found of one thing is found of another that holds with it
pub finds_same : (P Q : ℕ → Type 0) → ((k : ℕ) → P k → Q k) → ((k : ℕ) → Q k → P k) → (o : Option ℕ) → Finds P o → Finds Q o
finds_same P Q to back None found = λ k. to k (found k)
finds_same P Q to back (Some k) found = (λ q. found.0 (back k q), λ j lt. to j (found.1 j lt))

module _ (bytes : List ℕ) (fits : HasSections bytes) (section k : ℕ) (le : rows_of bytes section ≤ k) where
  past : (n count : ℕ) → (section == n) ≡ true → count ≡ rows_of bytes n → count ≤ k
  past n count e c = let same : section ≡ n = eqb-true section n e in omega (arith, c, ap (rows_of bytes) same, le)

  pub named_beyond : is_named (image_in bytes) section k ≡ true
  named_beyond =
      let image = image_in bytes in
      either (section == 0) _ _
      (λ e. row_missing image (λ row. is_name (rule_name image row) && is_name (namespace_of image row)) image.rules k (past 0 _ e (rules_counted bytes fits)))
      (λ _. either (section == 1) _ _ (λ e. row_missing image (λ row. is_name (note_name image row)) image.notes k (past 1 _ e (notes_counted bytes fits)))
      (λ _. either (section == 2) _ _ (λ e. row_missing image (λ row. is_name (note_name image row)) image.externals k (past 2 _ e (externals_counted bytes fits)))
      (λ _. either (section == 3) _ _ (λ e. row_missing image (λ row. is_string_name (string_name image row)) image.strings k (past 3 _ e (strings_counted bytes fits)))
      (λ _. refl))))

module _ (image : Image) where
  pub named_passes : (section k : ℕ) → is_named image section k ≡ true → (section ≡ 2 → IsNew image k) → NamePasses image section k
  named_passes section k h new =
      let at : (n : ℕ) → section ≡ n → is_named image n k ≡ true = λ n e. subst (λ s. is_named image s k ≡ true) e h in
      record {
        rules = λ e. row_passes_at image (λ row. is_name (rule_name image row) && is_name (namespace_of image row)) image.rules k (at 0 e);
        notes = λ e. row_passes_at image (λ row. is_name (note_name image row)) image.notes k (at 1 e);
        externals = λ e row there. (row_passes_at image (λ row. is_name (note_name image row)) image.externals k (at 2 e) row there, new e row there);
        strings = λ e. row_passes_at image (λ row. is_string_name (string_name image row)) image.strings k (at 3 e);
      }

  pub passes_named : (section k : ℕ) → NamePasses image section k → is_named image section k ≡ true
  passes_named section k p =
      either (section == 0) _ _
      (λ e. at_row_passes image (λ row. is_name (rule_name image row) && is_name (namespace_of image row)) image.rules k (p.rules (eqb-true section 0 e)))
      (λ _. either (section == 1) _ _ (λ e. at_row_passes image (λ row. is_name (note_name image row)) image.notes k (p.notes (eqb-true section 1 e)))
      (λ _. either (section == 2) _ _
      (λ e. at_row_passes image (λ row. is_name (note_name image row)) image.externals k (λ row at. (p.externals (eqb-true section 2 e) row at).0))
      (λ _. either (section == 3) _ _ (λ e. at_row_passes image (λ row. is_string_name (string_name image row)) image.strings k (p.strings (eqb-true section 3 e)))
      (λ _. refl))))

  pub passes_new : (k : ℕ) → NamePasses image 2 k → IsNew image k
  passes_new k p row at = (p.externals refl row at).1

  -- below the first bad name, or where there is none
  pub named_below : (bad : Option ℕ) (end : ℕ) → Finds (λ k. is_named image 2 k ≡ true) bad → IfSome bad (λ k. end ≡ k) → (j : ℕ) → j < end → is_named image 2 j ≡ true
  named_below None end found e j lt = found j
  named_below (Some b) end found e j lt = found.1 j (omega (arith, lt, e))

  -- the first repeated name stands before the first bad one
  pub repeat_found : (bad : Option ℕ) (end k : ℕ) → Finds (λ k. is_named image 2 k ≡ true) bad → IfSome bad (λ k. end ≡ k) → FindsRepeat image end (Some k) → Finds (NamePasses image 2) (Some k)
  repeat_found bad end k found e r =
      (λ p. r.1 (passes_new k p), λ j lt. named_passes 2 j (named_below bad end found e j (omega (arith, lt, r.0))) (λ _. r.2 j lt))

  pub bad_found : (bad : Option ℕ) (end count : ℕ) → Finds (λ k. is_named image 2 k ≡ true) bad → IfSome bad (λ k. end ≡ k) → IfNone bad (end ≡ count) → count ≡ length image.externals
      → FindsRepeat image end None → Finds (NamePasses image 2) bad
  bad_found None end count found e all n r = λ k. named_passes 2 k (found k)
      (λ _. ⊎_elim (λ t. new_beyond image k (omega (arith, t.1, all, n))) (λ t. r k (omega (arith, t.1))) (leb_tells end k))
  bad_found (Some b) end count found e all n r =
      (λ p. found.0 (passes_named 2 b p), λ j lt. named_passes 2 j (found.1 j lt) (λ _. r j (omega (arith, lt, e))))

  -- a bad name is that of an external variable that is there
  pub end_inside : (bad : Option ℕ) (end count : ℕ) → Finds (λ k. is_named image 2 k ≡ true) bad → IfSome bad (λ k. end ≡ k) → IfNone bad (end ≡ count) → count ≡ length image.externals
      → end ≤ length image.externals
  end_inside None end count found e all n = omega (arith, all, n)
  end_inside (Some b) end count found e all n =
      ⊎_elim (λ t. absurd (found.0 (row_missing image (λ row. is_name (note_name image row)) image.externals b t.1))) (λ t. omega (arith, t.1, e))
      (leb_tells (length image.externals) b)
