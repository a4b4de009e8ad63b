-- Rows that say moves do what the moves do.
use Rattle.std.proofs.Common.{◌≡◌, ℕ, zero, suc, Bool, List, [], ◌∷◌, Option, Some, None, refl, sym, ap, ◌∙◌, subst, arith}
use Rattle.std.specs.Prelude.{slice_get, option_and_then}
use Rattle.std.proofs.lemmas.Bool.Decides.{nat_tests}
use Rattle.yr_pattern.specs.Set.{has_bit, Has}
use Rattle.yr_rows.specs.Moves.{move_of, row_of}
use Rattle.yr_rows.specs.Accepts as r
use Rattle.yr_rows.specs.Accepts.{HasByte, AcceptsBy}
use Rattle.yr_rows.specs.declared.moves.MoveRow.{MoveRow}
use Rattle.yr_rows.specs.declared.moves.Move.{Move}
use Rattle.yr_rows.specs.declared.moves.Move.TheVariants.{Accept, Set, Fork, Test}
use Rattle.yr_rows.proofs.MoveLemmas.{move_of-row_of}
use Rattle.yr_program.specs.Acts.{Act, Stop, Read, Branch, Ask, Does, Run, Reaches}
use Rattle.yr_program.specs.Written.{Says, AllSay}

-- the move of a row that says a known one
same_move : (row : MoveRow) (v w : Move) → row ≡ row_of w → move_of row ≡ Some v → v ≡ w
same_move row v w is says =
    let both : Some v ≡ Some w = sym says ∙ ap move_of is ∙ move_of-row_of w in cc both

-- the row of a move
at_act : (sets : List (List ℕ)) (rows : List MoveRow) (acts : List Act) (m : ℕ) (act : Act) → AllSay sets rows acts → slice_get acts m ≡ Some act →
    (row : MoveRow) × (slice_get rows m ≡ Some row) × Says sets row act
at_act sets [] [] m act h at = cc at
at_act sets [] (a ∷ acts) m act h at = absurd h
at_act sets (row ∷ rows) [] m act h at = absurd h
at_act sets (row ∷ rows) (a ∷ acts) zero act h at =
    let same : a ≡ act = cc at in let P : Act → Type 0 = λ x. Says sets row x in (row, refl, subst P same h.0)
at_act sets (row ∷ rows) (a ∷ acts) (suc m) act h at = at_act sets rows acts m act h.1 at

-- the move of a row
at_row : (sets : List (List ℕ)) (rows : List MoveRow) (acts : List Act) (m : ℕ) (row : MoveRow) → AllSay sets rows acts → slice_get rows m ≡ Some row →
    (act : Act) × (slice_get acts m ≡ Some act) × Says sets row act
at_row sets [] [] m row h at = cc at
at_row sets [] (a ∷ acts) m row h at = absurd h
at_row sets (r ∷ rows) [] m row h at = absurd h
at_row sets (r ∷ rows) (a ∷ acts) zero row h at =
    let same : r ≡ row = cc at in let P : MoveRow → Type 0 = λ x. Says sets x a in (a, refl, subst P same h.0)
at_row sets (r ∷ rows) (a ∷ acts) (suc m) row h at = at_row sets rows acts m row h.1 at

-- a move is that of a row
row_at : (o : Option MoveRow) (v : Move) → option_and_then move_of o ≡ Some v → (row : MoveRow) × (o ≡ Some row) × (move_of row ≡ Some v)
row_at None v h = cc h
row_at (Some row) v h = (row, refl, h)

module _ (read : (ℕ → Bool) → ℕ → ℕ → Type 0) (reads : List ℕ → ℕ → ℕ → Type 0) (to : (bits : List ℕ) (i j : ℕ) → read (has_bit bits) i j → reads bits i j) (from : (bits : List ℕ) (i j : ℕ) → reads bits i j → read (has_bit bits) i j) (sets : List (List ℕ)) (file : List ℕ) where
  does_row : (row : MoveRow) (act : Act) → Says sets row act → (i m j : ℕ) → Does read file act i m j →
      (v : Move) × (move_of row ≡ Some v) × r.Does reads sets file v i m j
  does_row row Stop h i m j d = absurd d
  does_row row (Read next bytes) h i m j d =
      let P : (ℕ → Bool) → Type 0 = λ c. read c i j in
      (Set next h.0, ap move_of h.2 ∙ move_of-row_of (Set next h.0), (d.0, h.1, h.3, to h.1 i j (subst P (sym h.4) d.1)))
  does_row row (Branch next other) h i m j d = (Fork next other, ap move_of h ∙ move_of-row_of (Fork next other), d)
  does_row row (Ask assertion next) h i m j d = (Test assertion next, ap move_of h ∙ move_of-row_of (Test assertion next), d)

  does_act : (row : MoveRow) (act : Act) (v : Move) → Says sets row act → move_of row ≡ Some v → (i m j : ℕ) → r.Does reads sets file v i m j → Does read file act i m j
  does_act row Stop v h says i m j d =
      let D : Move → Type 0 = λ x. r.Does reads sets file x i m j in subst D (same_move row v Accept h says) d
  does_act row (Read next bytes) v h says i m j d =
      let D : Move → Type 0 = λ x. r.Does reads sets file x i m j in
      let e = subst D (same_move row v (Set next h.0) h.2 says) d in
      let both : Some e.1 ≡ Some h.1 = sym e.2 ∙ h.3 in
      let same : e.1 ≡ h.1 = cc both in
      let P : (ℕ → Bool) → Type 0 = λ c. read c i j in
      (e.0, subst P (ap has_bit same ∙ h.4) (from e.1 i j e.3))
  does_act row (Branch next other) v h says i m j d =
      let D : Move → Type 0 = λ x. r.Does reads sets file x i m j in subst D (same_move row v (Fork next other) h says) d
  does_act row (Ask assertion next) v h says i m j d =
      let D : Move → Type 0 = λ x. r.Does reads sets file x i m j in subst D (same_move row v (Test assertion next) h says) d

  -- a row that says Accept is that of the last move
  stops : (row : MoveRow) (act : Act) → Says sets row act → move_of row ≡ Some Accept → act ≡ Stop
  stops row Stop h says = refl
  stops row (Read next bytes) h says = let same = same_move row Accept (Set next h.0) h.2 says in cc same
  stops row (Branch next other) h says = let same = same_move row Accept (Fork next other) h says in cc same
  stops row (Ask assertion next) h says = let same = same_move row Accept (Test assertion next) h says in cc same

  module _ (rows : List MoveRow) (acts : List Act) (all : AllSay sets rows acts) where
    run_rows : (k m i m' j : ℕ) → Run read file acts k m i m' j → r.Run reads sets file rows k m i m' j
    run_rows zero m i m' j h = h
    run_rows (suc k) m i m' j h =
        let at = at_act sets rows acts m h.0 all h.3 in
        let d = does_row at.0 h.0 at.2 i h.1 h.2 h.4 in
        (d.0, h.1, h.2, ap (option_and_then move_of) at.1 ∙ d.1, d.2, run_rows k h.1 h.2 m' j h.5)

    run_acts : (k m i m' j : ℕ) → r.Run reads sets file rows k m i m' j → Run read file acts k m i m' j
    run_acts zero m i m' j h = h
    run_acts (suc k) m i m' j h =
        let row = row_at (slice_get rows m) h.0 h.3 in
        let at = at_row sets rows acts m row.0 all row.1 in
        (at.0, h.1, h.2, at.1, does_act row.0 at.0 h.0 at.2 row.2 i h.1 h.2 h.4, run_acts k h.1 h.2 m' j h.5)

    pub accepts_from_reaches : (i j : ℕ) → Reaches read file acts i j → AcceptsBy reads sets file rows i j
    accepts_from_reaches i j h =
        let at = at_act sets rows acts h.1 Stop all h.3 in
        (h.0, h.1, run_rows h.0 0 i h.1 j h.2, ap (option_and_then move_of) at.1 ∙ ap move_of at.2)

    pub reaches_from_accepts : (i j : ℕ) → AcceptsBy reads sets file rows i j → Reaches read file acts i j
    reaches_from_accepts i j h =
        let row = row_at (slice_get rows h.1) Accept h.3 in
        let at = at_row sets rows acts h.1 row.0 all row.1 in
        (h.0, h.1, run_acts h.0 0 i h.1 j h.2, at.1 ∙ ap Some (stops row.0 at.0 at.2 row.2))

-- a bit that is 1
pub has_byte : (bits : List ℕ) (b : ℕ) → Has (has_bit bits) b → HasByte bits b
has_byte bits b h = grind (arith, nat_tests)

pub byte_had : (bits : List ℕ) (b : ℕ) → HasByte bits b → Has (has_bit bits) b
byte_had bits b h = grind (arith, nat_tests)
