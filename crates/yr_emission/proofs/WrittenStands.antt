-- Rows that were written for a rule stand in the image, and stay so as it grows.
use Rattle.std.proofs.Common.{◌≡◌, ℕ, ◌+◌, false, List, [], ◌∷◌, ◌++◌, length, Option, Some, slice_get, refl, sym, ap, ◌∙◌, subst, arith, append_assoc, length-append}
use Rattle.std.specs.Option.{option_and_then}
use Rattle.yr_image.specs.declared.rows.CodeRow.{CodeRow}
use Rattle.yr_image.specs.declared.instruction.Instruction.{Instruction}
use Rattle.yr_image.specs.Image.{Image}
use Rattle.yr_image.specs.Instructions.{instruction_of}
use Rattle.yr_machine.specs.Machine.{instruction_at}
use Rattle.yr_draft.specs.Growing.{BeginsAs, Grows}
use Rattle.yr_draft.proofs.GrowLemmas.{program_grows, kept_at}
use Rattle.yr_emission.specs.Parts.{Part, Line, exactly, gives_text, asks}
use Rattle.yr_emission.specs.Sayable.{LineIsSayable, AreSayable}
use Rattle.yr_emission.specs.Standing.{HasAt, Fulfils, Says, Stands}
use Rattle.yr_emission.specs.Written.{Tells, TellAll, Written}
use Rattle.yr_emission.proofs.CanSay.{CanSay}
use Rattle.yr_emission.proofs.WrittenLemmas.{text_grows}

-- ---- rows that tell lines say them

there : {X : Type 0} (front more : List X) (x : X) (b : ℕ) → b ≡ length front → slice_get (front ++ x ∷ more) b ≡ Some x
there [] more x b e = ap (slice_get (x ∷ more)) e
there (y ∷ front) more x b e = ap (slice_get (y ∷ (front ++ x ∷ more))) e ∙ there front more x (length front) refl

fulfilled : (image : Image) (l : Line) (row : CodeRow) (o : Option Instruction) → o ≡ instruction_of row → LineIsSayable l → Tells image l row → Fulfils image l o
fulfilled image (exactly r) row o e s t = e ∙ t s
fulfilled image (gives_text text) row o e s t = (t.0, e ∙ t.1, t.2)
fulfilled image (asks p) row o e s t = (t.0, e ∙ t.1, t.2)

said : (image : Image) (front : List CodeRow) (ls : List Line) (rs : List CodeRow) (b : ℕ) → b ≡ length front → AreSayable ls → TellAll image ls rs → Says image (front ++ rs) b ls
said image front [] [] b e s t = tt
said image front [] (r ∷ rs) b e s t = absurd t
said image front (l ∷ ls) [] b e s t = absurd t
said image front (l ∷ ls) (r ∷ rs) b e s t =
    let here : instruction_at (front ++ r ∷ rs) b ≡ instruction_of r = ap (option_and_then instruction_of) (there front rs r b e) in
    let count : b + 1 ≡ length (front ++ r ∷ []) = omega (arith, e, length-append front (r ∷ [])) in (
      fulfilled image l r (instruction_at (front ++ r ∷ rs) b) here s.0 t.0,
      subst (λ rows. Says image rows (b + 1) ls) (append_assoc front (r ∷ []) rs) (said image (front ++ r ∷ []) ls rs (b + 1) count s.1 t.1),
    )

added_at : (front xs : List ℕ) (a : ℕ) → a ≡ length front → HasAt (front ++ xs) a xs
added_at front [] a e = tt
added_at front (x ∷ xs) a e =
    let count : a + 1 ≡ length (front ++ x ∷ []) = omega (arith, e, length-append front (x ∷ [])) in
    (there front xs x a e, subst (λ l. HasAt l (a + 1) xs) (append_assoc front (x ∷ []) xs) (added_at (front ++ x ∷ []) xs (a + 1) count))

pub written_stands : (x : Part) (rows : List CodeRow) (old new : Image) → CanSay x → Written x [] rows old new → Stands new rows x 0 (length old.lists)
written_stands x rows old new s w = record {
  code = subst (λ l. Says new l 0 (x.rows 0 (length old.lists))) (sym w.rows) (said new [] (x.rows 0 (length old.lists)) w.more 0 refl (s.each 0 (length old.lists)) w.tell);
  items = subst (λ l. HasAt l (length old.lists) x.lists) (sym w.lists) (added_at old.lists x.lists (length old.lists) refl);
}

-- ---- as the image grows

fulfils_grow : (old new : Image) → Grows old new → (l : Line) (o : Option Instruction) → Fulfils old l o → Fulfils new l o
fulfils_grow old new g (exactly r) o f = f
fulfils_grow old new g (gives_text text) o f = (f.0, f.1, text_grows old new g text f.0 f.2)
fulfils_grow old new g (asks p) o f = (f.0, f.1, program_grows old new false p f.0 g f.2)

says_grow : (old new : Image) → Grows old new → (rows : List CodeRow) (b : ℕ) (ls : List Line) → Says old rows b ls → Says new rows b ls
says_grow old new g rows b [] s = tt
says_grow old new g rows b (l ∷ ls) s = (fulfils_grow old new g l (instruction_at rows b) s.0, says_grow old new g rows (b + 1) ls s.1)

items_grow : (old new : List ℕ) → BeginsAs old new → (a : ℕ) (xs : List ℕ) → HasAt old a xs → HasAt new a xs
items_grow old new g a [] h = tt
items_grow old new g a (x ∷ xs) h = (kept_at old new a x g h.0, items_grow old new g (a + 1) xs h.1)

pub stands_grows : (old new : Image) → Grows old new → BeginsAs old.lists new.lists → (rows : List CodeRow) (x : Part) (b a : ℕ) → Stands old rows x b a → Stands new rows x b a
stands_grows old new g l rows x b a s = record { code = says_grow old new g rows b (x.rows b a) s.code; items = items_grow old.lists new.lists l a x.lists s.items }
