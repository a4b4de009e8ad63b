-- One more move written, and what rows that say moves are.
use Rattle.std.proofs.Common.{◌≡◌, ℕ, ◌+◌, ◌*◌, ◌/◌, ◌≤◌, List, [], ◌∷◌, ◌++◌, length, take, Some, All, refl, sym, ap, ◌∙◌, subst, arith, length-append}
use Rattle.std.specs.Prelude.{slice_get}
use Rattle.std.proofs.Math.Seq.{get_or-append_seam}
use Rattle.std.proofs.lemmas.List.{append-nil, take_all, get_or_append_left}
use Rattle.std.proofs.lemmas.Option.{slice_get-get_or, slice_get_within, get_or_from_slice_get}
use Rattle.std.proofs.lemmas.List.Elements.{All-nil, All-cons, All-head, All-tail}
use Rattle.yr_pattern.specs.Set.{has_bit}
use Rattle.yr_rows.specs.Moves.{move_row, moves_in, sets_in, row_of, IsWellformedMove}
use Rattle.yr_rows.specs.declared.moves.MoveRow.{MoveRow}
use Rattle.yr_rows.specs.declared.moves.Move.TheVariants.{Accept, Set, Fork, Test}
use Rattle.yr_rows.proofs.RowLemmas.{length-rows_in, rows_in-push, move_row-local, set_row-local}
use Rattle.yr_program.specs.Acts.{Act, Stop, Read, Branch, Ask}
use Rattle.yr_program.specs.Drafts.{act_of, numbered, set_bytes}
use Rattle.yr_program.specs.declared.draft.DraftMove.{DraftMove}
use Rattle.yr_program.specs.declared.draft.DraftMove.TheVariants as d
use Rattle.yr_program.specs.Written.{Says, AllSay, count_reads, IsWritten}
use Rattle.yr_program.proofs.Formed.{IsBelow}

-- an element stays where it is when the list grows
kept : {A : Type 0} (xs ys : List A) (k : ℕ) (x : A) → slice_get xs k ≡ Some x → slice_get (xs ++ ys) k ≡ Some x
kept xs ys k x at =
    let lt = slice_get_within xs k x at in
    slice_get-get_or (xs ++ ys) k x (omega (arith, lt, length-append xs ys)) ∙ ap Some (get_or_append_left xs ys x k lt ∙ get_or_from_slice_get xs k x x at)

-- the last element
last : {A : Type 0} (xs : List A) (x : A) → slice_get (xs ++ x ∷ []) (length xs) ≡ Some x
last xs x =
    slice_get-get_or (xs ++ x ∷ []) (length xs) x (omega (arith, length-append xs (x ∷ []))) ∙ ap Some (get_or-append_seam xs x [] x)

module _ (sets extra : List (List ℕ)) where
  says_more : (row : MoveRow) (act : Act) → Says sets row act → Says (sets ++ extra) row act
  says_more row Stop h = h
  says_more row (Read next bytes) h = (h.0, h.1, h.2, kept sets extra h.0 h.1 h.3, h.4)
  says_more row (Branch next other) h = h
  says_more row (Ask assertion next) h = h

  all_more : (rows : List MoveRow) (acts : List Act) → AllSay sets rows acts → AllSay (sets ++ extra) rows acts
  all_more [] [] h = tt
  all_more [] (act ∷ acts) h = absurd h
  all_more (row ∷ rows) [] h = absurd h
  all_more (row ∷ rows) (act ∷ acts) h = (says_more row act h.0, all_more rows acts h.1)

all_last : (sets : List (List ℕ)) (rows : List MoveRow) (acts : List Act) (row : MoveRow) (act : Act) → AllSay sets rows acts → Says sets row act →
    AllSay sets (rows ++ row ∷ []) (acts ++ act ∷ [])
all_last sets [] [] row act h g = (g, tt)
all_last sets [] (a ∷ acts) row act h g = absurd h
all_last sets (r ∷ rows) [] row act h g = absurd h
all_last sets (r ∷ rows) (a ∷ acts) row act h g = (h.0, all_last sets rows acts row act h.1 g)

pub count_reads-append : (xs ys : List Act) → count_reads (xs ++ ys) ≡ count_reads xs + count_reads ys
count_reads-append [] ys = omega arith
count_reads-append (Stop ∷ xs) ys = count_reads-append xs ys
count_reads-append (Read next bytes ∷ xs) ys = omega (arith, count_reads-append xs ys)
count_reads-append (Branch next other ∷ xs) ys = count_reads-append xs ys
count_reads-append (Ask assertion next ∷ xs) ys = count_reads-append xs ys

pub few_reads : (xs : List Act) → count_reads xs ≤ length xs
few_reads [] = omega arith
few_reads (Stop ∷ xs) = omega (arith, few_reads xs)
few_reads (Read next bytes ∷ xs) = omega (arith, few_reads xs)
few_reads (Branch next other ∷ xs) = omega (arith, few_reads xs)
few_reads (Ask assertion next ∷ xs) = omega (arith, few_reads xs)

-- nothing is written yet
pub written_none : IsWritten [] [] []
written_none = record { whole = refl; whole_sets = refl; says = tt }

-- one more row
moves_more : (moves new : List ℕ) (n : ℕ) → length moves ≡ n * 16 → length new ≡ 16 → moves_in (moves ++ new) ≡ moves_in moves ++ move_row new ∷ []
moves_more moves new n whole one =
    rows_in-push 16 move_row move_row-local n moves new (omega (arith, whole)) (omega (arith, whole, one, length-append moves new)) (omega (arith, whole)) one

-- one more set
sets_more : (sets bits : List ℕ) (n : ℕ) → length sets ≡ n * 32 → length bits ≡ 32 → sets_in (sets ++ bits) ≡ sets_in sets ++ bits ∷ []
sets_more sets bits n whole one =
    let all : take 32 bits ≡ bits = take_all 32 bits (omega (arith, one)) in
    rows_in-push 32 (take 32) set_row-local n sets bits (omega (arith, whole)) (omega (arith, whole, one, length-append sets bits)) (omega (arith, whole)) one
    ∙ ap (λ b. sets_in sets ++ b ∷ []) all

-- one more move, which reads no byte
pub written_move : (moves sets new : List ℕ) (acts : List Act) (act : Act) → count_reads (act ∷ []) ≡ 0 → length new ≡ 16 → Says (sets_in sets) (move_row new) act →
    IsWritten moves sets acts → IsWritten (moves ++ new) sets (acts ++ act ∷ [])
written_move moves sets new acts act none one says w = record {
  whole = omega (arith, w.whole, one, length-append moves new, length-append acts (act ∷ []));
  whole_sets = omega (arith, w.whole_sets, count_reads-append acts (act ∷ []), none);
  says =
      let A : List MoveRow → Type 0 = λ rows. AllSay (sets_in sets) rows (acts ++ act ∷ []) in
      subst A (sym (moves_more moves new (length acts) w.whole one)) (all_last (sets_in sets) (moves_in moves) acts (move_row new) act w.says says);
}

-- one more move, which reads a byte of a new set
pub written_set : (moves sets new bits : List ℕ) (acts : List Act) (next set : ℕ) → length new ≡ 16 → length bits ≡ 32 → set ≡ length sets / 32 →
    move_row new ≡ row_of (Set next set) → IsWritten moves sets acts → IsWritten (moves ++ new) (sets ++ bits) (acts ++ Read next (has_bit bits) ∷ [])
written_set moves sets new bits acts next set one wide number row w = record {
  whole = omega (arith, w.whole, one, length-append moves new, length-append acts (act ∷ []));
  whole_sets = omega (arith, w.whole_sets, wide, length-append sets bits, count_reads-append acts (act ∷ []));
  says =
      let more = sets_more sets bits (count_reads acts) w.whole_sets wide in
      let here : set ≡ length (sets_in sets) = number ∙ sym (length-rows_in 32 (take 32) sets) in
      let at : slice_get (sets_in sets ++ bits ∷ []) set ≡ Some bits = ap (slice_get (sets_in sets ++ bits ∷ [])) here ∙ last (sets_in sets) bits in
      let old = all_more (sets_in sets) (bits ∷ []) (moves_in moves) acts w.says in
      let all = all_last (sets_in sets ++ bits ∷ []) (moves_in moves) acts (move_row new) act old (set, bits, row, at, refl) in
      let A : List MoveRow → Type 0 = λ rows. AllSay (sets_in sets ++ bits ∷ []) rows (acts ++ act ∷ []) in
      let B : List (List ℕ) → Type 0 = λ s. AllSay s (moves_in (moves ++ new)) (acts ++ act ∷ []) in
      subst B (sym more) (subst A (sym (moves_more moves new (length acts) w.whole one)) all);
}
  where
    act : Act
    act = Read next (has_bit bits)

-- one more move of a draft
pub written_more : (moves sets : List ℕ) (acts : List Act) (one : DraftMove) (set : ℕ) (new : List ℕ) → set ≡ length sets / 32 → length (set_bytes one) ≡ count_reads (act_of one ∷ []) * 32 →
    length new ≡ 16 → move_row new ≡ row_of (numbered one set) → IsWritten moves sets acts → IsWritten (moves ++ new) (sets ++ set_bytes one) (acts ++ act_of one ∷ [])
written_more moves sets acts d.Accept set new number wide one row w =
    let S : List ℕ → Type 0 = λ s. IsWritten (moves ++ new) s (acts ++ Stop ∷ []) in
    subst S (sym (append-nil sets)) (written_move moves sets new acts Stop refl one row w)
written_more moves sets acts (d.Set next bytes) set new number wide one row w = written_set moves sets new bytes.bits acts next set one wide number row w
written_more moves sets acts (d.Fork next other) set new number wide one row w =
    let S : List ℕ → Type 0 = λ s. IsWritten (moves ++ new) s (acts ++ Branch next other ∷ []) in
    subst S (sym (append-nil sets)) (written_move moves sets new acts (Branch next other) refl one row w)
written_more moves sets acts (d.Test assertion next) set new number wide one row w =
    let S : List ℕ → Type 0 = λ s. IsWritten (moves ++ new) s (acts ++ Ask assertion next ∷ []) in
    subst S (sym (append-nil sets)) (written_move moves sets new acts (Ask assertion next) refl one row w)

-- as many rows as moves, and as many sets as reads
pub written_length : (moves sets : List ℕ) (acts : List Act) → IsWritten moves sets acts → length (moves_in moves) ≡ length acts
written_length moves sets acts w = omega (arith, length-rows_in 16 move_row moves, w.whole)

pub written_sets : (moves sets : List ℕ) (acts : List Act) → IsWritten moves sets acts → length (sets_in sets) ≡ count_reads acts
written_sets moves sets acts w = omega (arith, length-rows_in 32 (take 32) sets, w.whole_sets)

-- rows that say moves which name moves below n are wellformed
module _ (sets : List (List ℕ)) (n : ℕ) where
  formed_row : (row : MoveRow) (act : Act) → Says sets row act → IsBelow n act → IsWellformedMove n (length sets) row
  formed_row row Stop h b = (Accept, h, tt)
  formed_row row (Read next bytes) h b = (Set next h.0, h.2, (b, slice_get_within sets h.0 h.1 h.3))
  formed_row row (Branch next other) h b = (Fork next other, h, b)
  formed_row row (Ask assertion next) h b = (Test assertion next, h, b)

  pub formed_rows : (rows : List MoveRow) (acts : List Act) → AllSay sets rows acts → All (IsBelow n) acts → All (IsWellformedMove n (length sets)) rows
  formed_rows [] [] h b = All-nil (IsWellformedMove n (length sets))
  formed_rows [] (act ∷ acts) h b = absurd h
  formed_rows (row ∷ rows) [] h b = absurd h
  formed_rows (row ∷ rows) (act ∷ acts) h b =
      All-cons (IsWellformedMove n (length sets)) row rows (formed_row row act h.0 (All-head (IsBelow n) act acts b)) (formed_rows rows acts h.1 (All-tail (IsBelow n) act acts b))
