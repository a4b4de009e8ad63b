-- Programs and texts of an image stay what they are as its tables grow.
use Rattle.std.proofs.Common.{◌≡◌, ℕ, ◌+◌, ◌-◌, ◌≤◌, Bool, List, [], ◌∷◌, ◌++◌, length, take, drop, Some, slice_get, refl, sym, ap, ap₂, ◌∙◌, subst, arith}
use Rattle.std.proofs.lemmas.List.{length-append, length-map, append_assoc, append-nil, take-append-le, drop-append-le, length-drop}
use Rattle.std.proofs.Math.Seq.{drop-append_seam, take-length}
use Rattle.std.proofs.lemmas.Option.{slice_get_within}
use Rattle.yr_pattern.specs.Tree.{Tree}
use Rattle.yr_rows.specs.Moves.{AreWellformedMoves}
use Rattle.yr_rows.specs.declared.moves.MoveRow.{MoveRow}
use Rattle.yr_image.specs.declared.rows.ProgramRow.{ProgramRow}
use Rattle.yr_image.specs.Image.{Image, moves_of}
use Rattle.yr_draft.specs.Programs.{AcceptSpans, IsProgramOf}
use Rattle.yr_draft.specs.Growing.{BeginsAs, Grows, move_behind, moves_behind}
use Rattle.yr_draft.proofs.RunLemmas.{get_left, spans_behind, wellformed_behind, spans_with_more, wellformed_with_more}

-- ---- ranges of longer lists

pub pushed_at : {X : Type 0} (xs : List X) (x : X) → slice_get (xs ++ x ∷ []) (length xs) ≡ Some x
pushed_at [] x = refl
pushed_at (y ∷ ys) x = pushed_at ys x

range_left : {X : Type 0} (xs ys : List X) (first count : ℕ) → first + count ≤ length xs → take count (drop first (xs ++ ys)) ≡ take count (drop first xs)
range_left xs ys first count b =
    let size : length (drop first xs) ≡ length xs - first = length-drop first xs in
    ap (λ l. take count l) (drop-append-le first xs ys (omega (arith, b))) ∙ take-append-le count (drop first xs) ys (omega (arith, b, size))

range_added : {X : Type 0} (xs ys : List X) → take (length ys) (drop (length xs) (xs ++ ys)) ≡ ys
range_added xs ys = ap (λ l. take (length ys) l) (drop-append_seam xs ys) ∙ take-length ys

-- in a list that begins as another one
pub kept_range : {X : Type 0} (old new : List X) (first count : ℕ) → BeginsAs old new → first + count ≤ length old → take count (drop first new) ≡ take count (drop first old)
kept_range old new first count b h = ap (λ l. take count (drop first l)) b.1 ∙ range_left old b.0 first count h

pub kept_at : {X : Type 0} (old new : List X) (k : ℕ) (x : X) → BeginsAs old new → slice_get old k ≡ Some x → slice_get new k ≡ Some x
kept_at old new k x b h = ap (λ l. slice_get l k) b.1 ∙ get_left old b.0 k (slice_get_within old k x h) ∙ h

pub longer : {X : Type 0} (old new : List X) → BeginsAs old new → length old ≤ length new
longer old new b = let e : length new ≡ length old + length b.0 = ap length b.1 ∙ length-append old b.0 in omega (arith, e)

begins_after : {X : Type 0} (a b c : List X) → BeginsAs a b → BeginsAs b c → BeginsAs a c
begins_after a b c p q = (p.0 ++ q.0, q.1 ∙ ap (λ l. l ++ q.0) p.1 ∙ append_assoc a p.0 q.0)

begins_same : {X : Type 0} (a b : List X) → b ≡ a → BeginsAs a b
begins_same a b e = ([], e ∙ sym (append-nil a))

pub grows_after : (a b c : Image) → Grows a b → Grows b c → Grows a c
grows_after a b c p q = record {
  sets = begins_after a.sets b.sets c.sets p.sets q.sets;
  programs = begins_after a.programs b.programs c.programs p.programs q.programs;
  moves = begins_after a.moves b.moves c.moves p.moves q.moves;
  pool = begins_after a.pool b.pool c.pool p.pool q.pool;
}

-- nothing that other rows name has changed
pub grows_same : (old new : Image) → new.sets ≡ old.sets → new.programs ≡ old.programs → new.moves ≡ old.moves → new.pool ≡ old.pool → Grows old new
grows_same old new s p m q = record {
  sets = begins_same old.sets new.sets s;
  programs = begins_same old.programs new.programs p;
  moves = begins_same old.moves new.moves m;
  pool = begins_same old.pool new.pool q;
}

-- ---- programs

pub program_grows : (old new : Image) (backwards : Bool) (tree : Tree) (k : ℕ) → Grows old new → IsProgramOf old backwards tree k → IsProgramOf new backwards tree k
program_grows old new backwards tree k g p =
    let moves : moves_of new p.row ≡ moves_of old p.row = kept_range old.moves new.moves p.row.first_move p.row.moves g.moves p.wellformed.0 in
    let more : length old.moves ≤ length new.moves = longer old.moves new.moves g.moves in
    let good : AreWellformedMoves (moves_of old p.row) new.sets =
    subst (λ (s : List (List ℕ)). AreWellformedMoves (moves_of old p.row) s) (sym g.sets.1) (wellformed_with_more (moves_of old p.row) old.sets g.sets.0 p.wellformed.1) in
    let accepts : AcceptSpans backwards (moves_of old p.row) new.sets tree =
    subst (λ (s : List (List ℕ)). AcceptSpans backwards (moves_of old p.row) s tree) (sym g.sets.1) (spans_with_more (moves_of old p.row) old.sets g.sets.0 p.wellformed.1 backwards tree p.accepts) in
    record {
      row = p.row;
      is_row = kept_at old.programs new.programs k p.row g.programs p.is_row;
      wellformed = (omega (arith, p.wellformed.0, more), subst (λ (m : List MoveRow). AreWellformedMoves m new.sets) (sym moves) good);
      accepts = subst (λ (m : List MoveRow). AcceptSpans backwards m new.sets tree) (sym moves) accepts;
    }

-- a program is added: its sets, its moves behind the sets that are there, and its row
pub program_added : (old new : Image) (backwards : Bool) (tree : Tree) (moves : List MoveRow) (sets : List (List ℕ)) (row : ProgramRow)
    → AreWellformedMoves moves sets → AcceptSpans backwards moves sets tree
    → new.sets ≡ old.sets ++ sets → new.moves ≡ old.moves ++ moves_behind (length old.sets) moves → new.programs ≡ old.programs ++ row ∷ []
    → row.first_move ≡ length old.moves → row.moves ≡ length moves → IsProgramOf new backwards tree (length old.programs)
program_added old new backwards tree moves sets row good accepts s m p first count =
    let behind : List MoveRow = moves_behind (length old.sets) moves in
    let size : length behind ≡ length moves = length-map moves (move_behind (length old.sets)) in
    let is : moves_of new row ≡ behind =
    ap₂ (λ (c f : ℕ). take c (drop f new.moves)) (count ∙ sym size) first ∙ ap (λ l. take (length behind) (drop (length old.moves) l)) m ∙ range_added old.moves behind in
    let all : length new.moves ≡ length old.moves + length behind = ap length m ∙ length-append old.moves behind in
    let sets_are : old.sets ++ (sets ++ []) ≡ new.sets = ap (λ (l : List (List ℕ)). old.sets ++ l) (append-nil sets) ∙ sym s in
    record {
      row = row;
      is_row = ap (λ l. slice_get l (length old.programs)) p ∙ pushed_at old.programs row;
      wellformed = (
        omega (arith, all, size, first, count),
        subst (λ (l : List MoveRow). AreWellformedMoves l new.sets) (sym is) (subst (λ (l : List (List ℕ)). AreWellformedMoves behind l) sets_are (wellformed_behind moves old.sets sets [] good)),
      );
      accepts =
          subst (λ (l : List MoveRow). AcceptSpans backwards l new.sets tree) (sym is) (subst (λ (l : List (List ℕ)). AcceptSpans backwards behind l tree) sets_are (spans_behind moves old.sets sets [] good backwards tree accepts));
    }
