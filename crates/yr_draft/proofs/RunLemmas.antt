-- A program keeps what it accepts where its sets stand among others.
use Rattle.std.proofs.Common.{◌≡◌, ℕ, zero, suc, ◌+◌, ◌<◌, ◌≤◌, ◌↔◌, Bool, true, false, List, [], ◌∷◌, ◌++◌, length, All, Option, Some, None, option_map, slice_get, refl, sym, ap, ap₂, ◌∙◌, subst, true≢false, arith, if◌then◌else◌, ◌==◌}
use Rattle.std.specs.Option.{option_and_then}
use Rattle.std.proofs.lemmas.List.{length-append, length-map}
use Rattle.std.proofs.lemmas.List.Elements.{All-map, All-weaker}
use Rattle.std.proofs.lemmas.Option.{same_Some, none-some, slice_get-map}
use Rattle.yr_pattern.specs.Tree.{Tree}
use Rattle.yr_rows.specs.Moves.{move_at, move_of, row_of, NamesAmong, IsWellformedMove, AreWellformedMoves}
use Rattle.yr_rows.specs.Accepts.{ReadsForwards, ReadsBackwards, Does, Run, AcceptsBy}
use Rattle.yr_rows.specs.declared.moves.MoveRow.{MoveRow}
use Rattle.yr_rows.specs.declared.moves.Assertion.TheVariants.{Start, End, Edge, NotEdge, WideEdge, WideNotEdge}
use Rattle.yr_rows.specs.declared.moves.Move.{Move}
use Rattle.yr_rows.specs.declared.moves.Move.TheVariants.{Accept, Set, Fork, Test}
use Rattle.yr_rows.proofs.MoveLemmas.{move_of-row_of, wellformed_at}
use Rattle.yr_draft.specs.Programs.{AcceptSpans}
use Rattle.yr_draft.specs.Growing.{move_behind, moves_behind}

-- ---- places of longer lists

pub get_left : {X : Type 0} (xs ys : List X) (k : ℕ) → k < length xs → slice_get (xs ++ ys) k ≡ slice_get xs k
get_left [] ys k b = absurd (omega (arith, b))
get_left (x ∷ xs) ys zero b = refl
get_left (x ∷ xs) ys (suc k) b = get_left xs ys k (omega (arith, b))

pub get_right : {X : Type 0} (xs ys : List X) (k : ℕ) → slice_get (xs ++ ys) (k + length xs) ≡ slice_get ys k
get_right [] ys k = ap (λ n. slice_get ys n) (omega arith)
get_right (x ∷ xs) ys k =
    let e : k + length (x ∷ xs) ≡ suc (k + length xs) = omega arith in
    ap (λ n. slice_get (x ∷ (xs ++ ys)) n) e ∙ get_right xs ys k

-- ---- moves behind other sets

-- the move of a row behind so many sets
abbrev set_behind : ℕ → Move → Move
set_behind base Accept = Accept
set_behind base (Set next set) = Set next (set + base)
set_behind base (Fork next other) = Fork next other
set_behind base (Test assertion next) = Test assertion next

row_behind : (base : ℕ) (v : Move) → move_behind base (row_of v) ≡ row_of (set_behind base v)
row_behind base Accept = refl
row_behind base (Set next set) = refl
row_behind base (Fork next other) = refl
row_behind base (Test Start next) = refl
row_behind base (Test End next) = refl
row_behind base (Test Edge next) = refl
row_behind base (Test NotEdge next) = refl
row_behind base (Test WideEdge next) = refl
row_behind base (Test WideNotEdge next) = refl

abbrev is_end : Move → Bool
is_end Accept = true
is_end (Set next set) = false
is_end (Fork next other) = false
is_end (Test assertion next) = false

is_accept : (base : ℕ) (v : Move) → set_behind base v ≡ Accept → v ≡ Accept
is_accept base Accept e = refl
is_accept base (Set next set) e = absurd (true≢false (sym (ap is_end e)))
is_accept base (Fork next other) e = absurd (true≢false (sym (ap is_end e)))
is_accept base (Test assertion next) e = absurd (true≢false (sym (ap is_end e)))

module _ (moves : List MoveRow) (front sets back : List (List ℕ)) (good : AreWellformedMoves moves sets) where
  -- what is there at a place of a program
  record There (m : ℕ) : Type 0 where
    move : Move
    is : move_at moves m ≡ Some move
    behind : move_at (moves_behind (length front) moves) m ≡ Some (set_behind (length front) move)
    names : NamesAmong (length moves) (length sets) move

  there : (m : ℕ) (row : MoveRow) → slice_get moves m ≡ Some row → There m
  there m row h =
      let w : IsWellformedMove (length moves) (length sets) row = wellformed_at moves sets m row good h in
      record {
        move = w.0;
        is = ap (λ o. option_and_then move_of o) h ∙ ap move_of w.1 ∙ move_of-row_of w.0;
        behind = ap (λ o. option_and_then move_of o) (slice_get-map (move_behind (length front)) moves m ∙ ap (λ (o : Option MoveRow). option_map (move_behind (length front)) o) h)
            ∙ ap (λ (r : MoveRow). move_of (move_behind (length front) r)) w.1 ∙ ap move_of (row_behind (length front) w.0) ∙ move_of-row_of (set_behind (length front) w.0);
        names = w.2;
      }

  there_by : (m : ℕ) (v : Move) → move_at moves m ≡ Some v → There m
  there_by m v h = at (slice_get moves m) refl h
    where
      at : (o : Option MoveRow) → slice_get moves m ≡ o → option_and_then move_of o ≡ Some v → There m
      at None e g = absurd (none-some v g)
      at (Some row) e g = there m row e

  there_behind : (m : ℕ) (v : Move) → move_at (moves_behind (length front) moves) m ≡ Some v → There m
  there_behind m v h = at (slice_get moves m) refl (sym (ap (λ (o : Option MoveRow). option_and_then move_of o) (slice_get-map (move_behind (length front)) moves m)) ∙ h)
    where
      at : (o : Option MoveRow) → slice_get moves m ≡ o → option_and_then move_of (option_map (move_behind (length front)) o) ≡ Some v → There m
      at None e g = absurd (none-some v g)
      at (Some row) e g = there m row e

  -- a set of the program among all
  set_there : (set : ℕ) → set < length sets → slice_get (front ++ (sets ++ back)) (set + length front) ≡ slice_get sets set
  set_there set b = get_right front (sets ++ back) set ∙ get_left sets back set b

  module _ (read : List ℕ → ℕ → ℕ → Type 0) (file : List ℕ) where
    does_behind : (v : Move) (i m j : ℕ) → NamesAmong (length moves) (length sets) v → Does read sets file v i m j
        → Does read (front ++ (sets ++ back)) file (set_behind (length front) v) i m j
    does_behind Accept i m j n d = d
    does_behind (Set next set) i m j n d = (d.0, d.1, set_there set n.1 ∙ d.2, d.3)
    does_behind (Fork next other) i m j n d = d
    does_behind (Test assertion next) i m j n d = d

    does_before : (v : Move) (i m j : ℕ) → NamesAmong (length moves) (length sets) v
        → Does read (front ++ (sets ++ back)) file (set_behind (length front) v) i m j → Does read sets file v i m j
    does_before Accept i m j n d = d
    does_before (Set next set) i m j n d = (d.0, d.1, sym (set_there set n.1) ∙ d.2, d.3)
    does_before (Fork next other) i m j n d = d
    does_before (Test assertion next) i m j n d = d

    run_behind : (k m i m' j : ℕ) → Run read sets file moves k m i m' j
        → Run read (front ++ (sets ++ back)) file (moves_behind (length front) moves) k m i m' j
    run_behind zero m i m' j r = r
    run_behind (suc k) m i m' j r =
        let t : There m = there_by m r.0 r.3 in
        let same : r.0 ≡ t.move = same_Some r.0 t.move (sym r.3 ∙ t.is) in
        let P : Move → Type 0 = λ v. Does read sets file v i r.1 r.2 in
        (set_behind (length front) t.move, r.1, r.2, t.behind, does_behind t.move i r.1 r.2 t.names (subst P same r.4), run_behind k r.1 r.2 m' j r.5)

    run_before : (k m i m' j : ℕ) → Run read (front ++ (sets ++ back)) file (moves_behind (length front) moves) k m i m' j
        → Run read sets file moves k m i m' j
    run_before zero m i m' j r = r
    run_before (suc k) m i m' j r =
        let t : There m = there_behind m r.0 r.3 in
        let same : r.0 ≡ set_behind (length front) t.move = same_Some r.0 (set_behind (length front) t.move) (sym r.3 ∙ t.behind) in
        let P : Move → Type 0 = λ v. Does read (front ++ (sets ++ back)) file v i r.1 r.2 in
        (t.move, r.1, r.2, t.is, does_before t.move i r.1 r.2 t.names (subst P same r.4), run_before k r.1 r.2 m' j r.5)

    accept_behind : (m : ℕ) → move_at moves m ≡ Some Accept → move_at (moves_behind (length front) moves) m ≡ Some Accept
    accept_behind m h =
        let t : There m = there_by m Accept h in
        t.behind ∙ ap (λ (v : Move). Some (set_behind (length front) v)) (same_Some t.move Accept (sym t.is ∙ h))

    accept_before : (m : ℕ) → move_at (moves_behind (length front) moves) m ≡ Some Accept → move_at moves m ≡ Some Accept
    accept_before m h =
        let t : There m = there_behind m Accept h in
        t.is ∙ ap (λ (v : Move). Some v) (is_accept (length front) t.move (same_Some (set_behind (length front) t.move) Accept (sym t.behind ∙ h)))

    accepts_behind : (i j : ℕ) → AcceptsBy read sets file moves i j ↔ AcceptsBy read (front ++ (sets ++ back)) file (moves_behind (length front) moves) i j
    accepts_behind i j =
        (λ a. (a.0, a.1, run_behind a.0 0 i a.1 j a.2, accept_behind a.1 a.3), λ a. (a.0, a.1, run_before a.0 0 i a.1 j a.2, accept_before a.1 a.3))

  -- the moves behind other sets accept the same
  pub spans_behind : (backwards : Bool) (tree : Tree) → AcceptSpans backwards moves sets tree
      → AcceptSpans backwards (moves_behind (length front) moves) (front ++ (sets ++ back)) tree
  spans_behind true tree a file i j =
      let same = accepts_behind (ReadsBackwards file) file j i in
      (λ h. (a file i j).0 (same.1 h), λ s. same.0 ((a file i j).1 s))
  spans_behind false tree a file i j =
      let same = accepts_behind (ReadsForwards file) file i j in
      (λ h. (a file i j).0 (same.1 h), λ s. same.0 ((a file i j).1 s))

  names_behind : (v : Move) → NamesAmong (length moves) (length sets) v → NamesAmong (length moves) (length (front ++ (sets ++ back))) (set_behind (length front) v)
  names_behind Accept n = tt
  names_behind (Set next set) n =
      let size : length (front ++ (sets ++ back)) ≡ length front + (length sets + length back) = length-append front (sets ++ back) ∙ ap (λ n. length front + n) (length-append sets back) in
      (n.0, omega (arith, n.1, size))
  names_behind (Fork next other) n = n
  names_behind (Test assertion next) n = n

  -- and are wellformed
  pub wellformed_behind : AreWellformedMoves (moves_behind (length front) moves) (front ++ (sets ++ back))
  wellformed_behind =
      let count : length (moves_behind (length front) moves) ≡ length moves = length-map moves (move_behind (length front)) in
      let Good : ℕ → MoveRow → Type 0 = λ n row. IsWellformedMove n (length (front ++ (sets ++ back))) row in
      let Q : ℕ → Type 0 = λ n. All (Good n) (moves_behind (length front) moves) in
      let each : All (λ row. Good (length moves) (move_behind (length front) row)) moves =
      All-weaker (IsWellformedMove (length moves) (length sets)) (λ row. Good (length moves) (move_behind (length front) row))
      (λ row w. (set_behind (length front) w.0, ap (move_behind (length front)) w.1 ∙ row_behind (length front) w.0, names_behind w.0 w.2)) moves good.2 in (
        subst (λ n. 0 < n) (sym count) good.0,
        subst (λ n. n ≤ 65536) (sym count) good.1,
        subst Q (sym count) (All-map (Good (length moves)) (move_behind (length front)) moves each),
      )

-- ---- more sets behind

either_set : (b : Bool) (n : ℕ) → (if b then n + 0 else n) ≡ n
either_set true n = omega arith
either_set false n = refl

move_behind_none : (row : MoveRow) → move_behind 0 row ≡ row
move_behind_none row = ap (λ (n : ℕ). record { kind = row.kind; next = row.next; other = row.other; set = n }) (either_set (row.kind == 1) row.set)

moves_behind_none : (moves : List MoveRow) → moves_behind 0 moves ≡ moves
moves_behind_none [] = refl
moves_behind_none (row ∷ rows) = ap₂ (λ (x : MoveRow) (xs : List MoveRow). x ∷ xs) (move_behind_none row) (moves_behind_none rows)

module _ (moves : List MoveRow) (sets back : List (List ℕ)) (good : AreWellformedMoves moves sets) where
  pub spans_with_more : (backwards : Bool) (tree : Tree) → AcceptSpans backwards moves sets tree → AcceptSpans backwards moves (sets ++ back) tree
  spans_with_more backwards tree a =
      let P : List MoveRow → Type 0 = λ ms. AcceptSpans backwards ms (sets ++ back) tree in
      subst P (moves_behind_none moves) (spans_behind moves [] sets back good backwards tree a)

  pub wellformed_with_more : AreWellformedMoves moves (sets ++ back)
  wellformed_with_more =
      let P : List MoveRow → Type 0 = λ ms. AreWellformedMoves ms (sets ++ back) in
      subst P (moves_behind_none moves) (wellformed_behind moves [] sets back good)
