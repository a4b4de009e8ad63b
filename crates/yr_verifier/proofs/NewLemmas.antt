-- Names that are new.
use Rattle.std.proofs.Common.{◌≡◌, ◌≢◌, ℕ, zero, suc, ◌<◌, ◌≤◌, List, [], ◌∷◌, length, Some, refl, sym, ap, ◌∙◌, arith}
use Rattle.std.specs.Prelude.{slice_get}
use Rattle.std.specs.Option.{option_map_or}
use Rattle.std.proofs.lemmas.Option.{slice_get_past}
use Rattle.yr_image.specs.declared.rows.NoteRow.{NoteRow}
use Rattle.yr_image.specs.Image.{Image}
use Rattle.yr_machine.specs.Names.{note_name}
use Rattle.yr_verifier.specs.Names.{IsNew, name_at}

pub row_there : {A : Type 0} (rows : List A) (k : ℕ) → k < length rows → (row : A) × (slice_get rows k ≡ Some row)
row_there [] k lt = absurd (omega (arith, lt))
row_there (row ∷ rows) zero lt = (row, refl)
row_there (row ∷ rows) (suc k) lt = row_there rows k (omega (arith, lt))

module _ (image : Image) where
  -- past the external variables there is none that is not new
  pub new_beyond : (k : ℕ) → length image.externals ≤ k → IsNew image k
  new_beyond k le row at = let none = slice_get_past image.externals k le in cc (none, at)

  named_at : (k : ℕ) (row : NoteRow) → slice_get image.externals k ≡ Some row → name_at image k ≡ note_name image row
  named_at k row at = ap (λ o. option_map_or (note_name image) o []) at

  -- a name is new where no earlier one is the same
  pub new_from : (k : ℕ) → ((j : ℕ) → j < k → name_at image j ≢ name_at image k) → IsNew image k
  new_from k h row at j lt other there same = h j lt (named_at j other there ∙ same ∙ sym (named_at k row at))

  pub new_says : (k : ℕ) → k < length image.externals → IsNew image k → (j : ℕ) → j < k → name_at image j ≢ name_at image k
  new_says k here new j lt same =
      let row = row_there image.externals k here in
      let other = row_there image.externals j (omega (arith, lt, here)) in
      new row.0 row.1 j lt other.0 other.1 (sym (named_at j other.0 other.1) ∙ same ∙ named_at k row.0 row.1)
