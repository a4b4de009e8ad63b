-- Where a part stands in a text, and texts in either case.
use Rattle.std.proofs.Common.{◌≡◌, ℕ, zero, suc, ◌+◌, ◌-◌, ◌≤◌, Bool, true, false, ◌||◌, List, [], ◌∷◌, length, take, drop, map, Option, None, Some, refl, sym, ap, ◌∙◌, arith, ⊎_elim}
use Rattle.std.specs.Prelude.{is_some}
use Rattle.std.specs.Str.{bytes_eq}
use Rattle.std.proofs.lemmas.Bool.{cases_Bool}
use Rattle.std.proofs.lemmas.List.{take-map, drop-map, length-map, length-take, length-drop}
use Rattle.std.proofs.Math.Seq.{take-length}
use Rattle.std.proofs.lemmas.Slice.Eq.{bytes_eq-Decides}
use Rattle.memchr.specs.Find.{FindsNeedle}
use Rattle.memchr.proofs.lemmas.MatchLemmas.{OccursAt-part, OccursAt-from_part}
use Rattle.yr_base.specs.Bytes.{lowered}
use Rattle.yr_values.specs.Texts.{begins_with, ends_with, has_inside, in_either_case}

or_right : (a b : Bool) → b ≡ true → (a || b) ≡ true
or_right true b e = refl
or_right false b e = e

or_false : (a b : Bool) → a ≡ false → (a || b) ≡ true → b ≡ true
or_false a b e h = sym (ap (λ v. v || b) e) ∙ h

-- a place at which a part stands
abbrev StandsAt : List ℕ → List ℕ → ℕ → Type 0
StandsAt text part k = (k + length part ≤ length text) × (take (length part) (drop k text) ≡ part)

-- a part that stands at a place stands somewhere
has_inside-at : (text part : List ℕ) (k : ℕ) → k + length part ≤ length text → take (length part) (drop k text) ≡ part → has_inside text part ≡ true
has_inside-at [] part k fits e =
    let none : k ≡ 0 = omega arith in
    (bytes_eq-Decides (take (length part) []) part).1 (ap (λ i. take (length part) (drop i [])) (sym none) ∙ e)
has_inside-at (b ∷ bs) part zero fits e = ap (λ v. v || has_inside bs part) ((bytes_eq-Decides (take (length part) (b ∷ bs)) part).1 e)
has_inside-at (b ∷ bs) part (suc k) fits e = or_right (begins_with (b ∷ bs) part) (has_inside bs part) (has_inside-at bs part k (omega arith) e)

-- a part that stands somewhere stands at a place
front_place : (text part : List ℕ) → begins_with text part ≡ true → (k : ℕ) × StandsAt text part k
front_place text part h =
    let e = (bytes_eq-Decides (take (length part) text) part).0 h in
    (0, (omega (arith, ap length e, length-take (length part) text), e))

place_of : (text part : List ℕ) → has_inside text part ≡ true → (k : ℕ) × StandsAt text part k
place_of [] part h = front_place [] part h
place_of (b ∷ bs) part h =
    ⊎_elim
    (λ front. front_place (b ∷ bs) part front)
    (λ not_front.
    let later = place_of bs part (or_false (begins_with (b ∷ bs) part) (has_inside bs part) not_front h) in
    (suc later.0, (omega (arith, later.1.0), later.1.1)))
    (cases_Bool (begins_with (b ∷ bs) part))

-- what a search for the first place says
pub has_inside-first : (text part : List ℕ) (r : Option ℕ) → FindsNeedle text part 0 r → is_some r ≡ has_inside text part
has_inside-first text part None h =
    ⊎_elim
    (λ there.
    let p = place_of text part there in
    absurd (h p.0 (omega arith) (omega (arith, p.1.0)) (OccursAt-from_part text part p.0 p.1.0 p.1.1)))
    (λ nowhere. sym nowhere)
    (cases_Bool (has_inside text part))
has_inside-first text part (Some k) h = sym (has_inside-at text part k h.1.fits (OccursAt-part text part k h.1))

-- nothing stands everywhere
has_inside-empty : (text : List ℕ) → has_inside text [] ≡ true
has_inside-empty [] = refl
has_inside-empty (b ∷ bs) = refl

pub has_inside-none : (text part : List ℕ) → length part ≡ 0 → true ≡ in_either_case has_inside text part
has_inside-none text [] e = sym (has_inside-empty (map lowered text))
has_inside-none text (b ∷ bs) e = absurd (omega arith)

-- the rest of a text, cut at its length
pub rest-whole : (text : List ℕ) (k : ℕ) → take (length text - k) (drop k text) ≡ drop k text
rest-whole text k = ap (λ n. take n (drop k text)) (sym (length-drop k text)) ∙ take-length (drop k text)

-- the front and the end of a text in either case
pub begins-in_either : (text part : List ℕ) → in_either_case bytes_eq (take (length part) text) part ≡ in_either_case begins_with text part
begins-in_either text part =
    ap (λ l. bytes_eq l (map lowered part)) (sym (take-map lowered (length part) text) ∙ ap (λ n. take n (map lowered text)) (sym (length-map part lowered)))

pub ends-in_either : (text part : List ℕ) → in_either_case bytes_eq (drop (length text - length part) text) part ≡ in_either_case ends_with text part
ends-in_either text part =
    ap (λ l. bytes_eq l (map lowered part))
    (sym (drop-map lowered (length text - length part) text)
    ∙ ap (λ n. drop (n - length part) (map lowered text)) (sym (length-map text lowered))
    ∙ ap (λ n. drop (length (map lowered text) - n) (map lowered text)) (sym (length-map part lowered)))
