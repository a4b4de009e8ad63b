-- What a program accepts, as a context knows it and as its rows tell.
use Rattle.std.proofs.Common.{◌≡◌, ℕ, ◌+◌, ◌*◌, ◌<◌, ◌≤◌, Bool, true, false, IsTrue, ◌↔◌, List, [], ◌∷◌, length, Option, Some, None, refl, sym, ap, ◌∙◌, subst, arith, inl, inr}
use Rattle.std.specs.Prelude.{slice_get}
use Rattle.std.proofs.Math.Nat.{mul-le-mul_left}
use Rattle.std.proofs.lemmas.Option.{slice_get_cases}
use Rattle.yr_rows.specs.declared.moves.MoveRow.{MoveRow}
use Rattle.yr_moves.specs.declared.rows.ProgramRows.{ProgramRows}
use Rattle.yr_moves.specs.Programs as programs
use Rattle.yr_moves.specs.Walks as walks
use Rattle.yr_values.specs.Values.{Value, Undefined, Number, Flag, Text}
use Rattle.yr_values.specs.Operators.{text_in}
use Rattle.yr_image.specs.Image.{Image, moves_of}
use Rattle.yr_machine.specs.Budget.{text_length}
use Rattle.yr_machine.specs.ImageRun.{Occurs, KnowsPrograms}
use Rattle.yr_machine.specs.Operations.{Context}
use Rattle.yr_hits.specs.Programs.{IsProgramOf}

there : {A : Type 0} → (xs : List A) (k : ℕ) → k < length xs → (x : A) × (slice_get xs k ≡ Some x)
there xs k lt = elim (slice_get_cases xs k).1 [ inl h ↦ (h.0, h.2) | inr h ↦ absurd (omega (arith, lt, h.0)) ]

same-truth : (a b : Bool) → (IsTrue a → IsTrue b) → (IsTrue b → IsTrue a) → a ≡ b
same-truth true true f g = refl
same-truth true false f g = sym (f refl)
same-truth false true f g = g refl
same-truth false false f g = refl

module _ (image : Image) (c : ℕ) (text : List ℕ) (rows : ProgramRows) (is : IsProgramOf image c rows) where
  abbrev OccursIn : List MoveRow → List (List ℕ) → Type 0
  OccursIn moves sets = walks.Occurs moves sets text

  to-image : c < length image.programs → OccursIn (programs.moves_of rows) (programs.sets_of rows) → Occurs image c text
  to-image lt o =
      let row = there image.programs c lt in
      let p : OccursIn (moves_of image row.0) image.sets =
      subst (λ sets. OccursIn (moves_of image row.0) sets) is.sets (subst (λ moves. OccursIn moves (programs.sets_of rows)) (is.moves row.0 row.1) o) in
      (row.0, row.1, p.0, p.1, p.2, p.3)

  from-image : Occurs image c text → OccursIn (programs.moves_of rows) (programs.sets_of rows)
  from-image o =
      let p : OccursIn (moves_of image o.0) image.sets = (o.2, o.3, o.4, o.5) in
      subst (λ moves. OccursIn moves (programs.sets_of rows)) (sym (is.moves o.0 o.1))
      (subst (λ sets. OccursIn (moves_of image o.0) sets) (sym is.sets) p)

-- a context that knows the programs gives what the rows tell
pub occurs-known : (context : Context) (image : Image) (c : ℕ) (text : List ℕ) (rows : ProgramRows) (found : Bool) →
    context.image ≡ image → KnowsPrograms context → IsProgramOf image c rows → c < length image.programs →
    IsTrue found ↔ walks.Occurs (programs.moves_of rows) (programs.sets_of rows) text → found ≡ context.occurs c text
occurs-known context image c text rows found same knows is lt told =
    let h : IsTrue (context.occurs c text) ↔ Occurs image c text =
    subst (λ (i : Image). IsTrue (context.occurs c text) ↔ Occurs i c text) same (knows c text) in
    same-truth found (context.occurs c text)
    (λ t. h.1 (to-image image c text rows is lt (told.0 t)))
    (λ t. told.1 (from-image image c text rows is (h.0 t)))

-- a text that is there has its length
text-has : (v : Value) (t : List ℕ) → text_in v ≡ Some t → text_length v ≡ length t
text-has Undefined t e = cc
text-has (Number n) t e = cc
text-has (Flag b) t e = cc
text-has (Text s) t e = let same : s ≡ t = cc in ap length same

first-same : (a b : Value) → (a ∷ []) ≡ (b ∷ []) → a ≡ b
first-same a b e = cc

-- a program on a text that is no longer than x
pub cost-fits : (moves now before x : ℕ) (v w : Value) (t : List ℕ) → (w ∷ []) ≡ (v ∷ []) → text_length v ≤ x → text_in w ≡ Some t →
    now ≤ before + moves * (length t + 1) → now ≤ before + moves * (x + 1)
cost-fits moves now before x v w t same le is h =
    let long : length t ≤ x = omega (arith, le, ap text_length (first-same w v same), text-has w t is) in
    let more : length t + 1 ≤ x + 1 = omega (arith, long) in
    omega (arith, h, mul-le-mul_left moves more)
