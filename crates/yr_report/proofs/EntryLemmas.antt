-- Entries with commas between them, and the brackets around them.
use Rattle.std.proofs.Common.{◌≡◌, ℕ, Bool, true, false, cond, List, [], ◌∷◌, ◌++◌, map, filter, flat_map, refl, sym, ap}
use Rattle.std.specs.Prelude.{codes}
use Rattle.std.specs.List.{join_by}
use Rattle.std.proofs.lemmas.List.Folds.{flat_map-map}
use Rattle.yr_answer.specs.Report.{on_request, bracketed, entry_text}
use Rattle.yr_image.specs.Image.{Image}
use Rattle.yr_image.specs.declared.rows.NoteRow.{NoteRow}
use Rattle.yr_image.specs.declared.rows.RuleRow.{RuleRow}
use Rattle.yr_machine.specs.Names.{note_name}
use Rattle.yr_machine.specs.Listing.{is_tag, listed_meta, listed_rule, notes_of}
use Rattle.yr_report.specs.Entries.{is_asked, note_text, entries}

join-map : {A B : Type 0} (text : B → List ℕ) (f : A → B) (sep : List ℕ) (xs : List A) → join_by text sep (map f xs) ≡ join_by (λ x. text (f x)) sep xs
join-map text f sep [] = refl
join-map text f sep (x ∷ xs) = ap (λ (l : List ℕ). text (f x) ++ l) (flat_map-map (λ y. sep ++ text y) f xs)

module _ (test : NoteRow → Bool) (text : NoteRow → List ℕ) where
  abbrev more : NoteRow → List ℕ
  more note = codes "," ++ text note

  next : (b : Bool) (note : NoteRow) (rest : List ℕ) (notes : List NoteRow) → rest ≡ flat_map more notes
      → on_request b (more note) ++ rest ≡ flat_map more (cond b (note ∷ notes) notes)
  next true note rest notes e = ap (λ (l : List ℕ). more note ++ l) e
  next false note rest notes e = e

  after : (notes : List NoteRow) → entries test text true notes ≡ flat_map more (filter test notes)
  after [] = refl
  after (note ∷ notes) = next (test note) note (entries test text true notes) (filter test notes) (after notes)

  first : (b : Bool) (note : NoteRow) (notes : List NoteRow) → entries test text false notes ≡ join_by text (codes ",") (filter test notes)
      → on_request b (text note) ++ entries test text b notes ≡ join_by text (codes ",") (cond b (note ∷ filter test notes) (filter test notes))
  first true note notes e = ap (λ (l : List ℕ). text note ++ l) (after notes)
  first false note notes e = e

  pub joined : (notes : List NoteRow) → entries test text false notes ≡ join_by text (codes ",") (filter test notes)
  joined [] = refl
  joined (note ∷ notes) = first (test note) note notes (joined notes)

  pub in_brackets : (notes : List NoteRow) → bracketed text (filter test notes) ≡ codes " [" ++ (entries test text false notes ++ codes "]")
  in_brackets notes = ap (λ (l : List ℕ). codes " [" ++ (l ++ codes "]")) (sym (joined notes))

-- the tags and the meta of a rule
pub tags_are : (image : Image) (rule : RuleRow) → bracketed (note_text image true) (filter (is_asked true) (notes_of image rule)) ≡ bracketed (λ tag. tag) (listed_rule image rule).tags
tags_are image rule =
    ap (λ (l : List ℕ). codes " [" ++ (l ++ codes "]")) (sym (join-map (λ tag. tag) (note_name image) (codes ",") (filter is_tag (notes_of image rule))))

pub meta_is : (image : Image) (rule : RuleRow) → bracketed (note_text image false) (filter (is_asked false) (notes_of image rule)) ≡ bracketed entry_text (listed_rule image rule).meta
meta_is image rule =
    ap (λ (l : List ℕ). codes " [" ++ (l ++ codes "]")) (sym (join-map entry_text (listed_meta image) (codes ",") (filter (is_asked false) (notes_of image rule))))
