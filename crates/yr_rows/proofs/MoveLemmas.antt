-- What rows say, and what wellformed rows name.
use Rattle.std.proofs.Common.{◌≡◌, ℕ, List, length, Some, refl, sym, ap, ◌∙◌, subst}
use Rattle.std.specs.Prelude.{slice_get}
use Rattle.std.proofs.lemmas.Option.{slice_get_within, get_or_from_slice_get}
use Rattle.std.proofs.lemmas.List.Elements.{All-get_or}
use Rattle.yr_rows.specs.Moves.{move_of, row_of, NamesAmong, IsWellformedMove, AreWellformedMoves}
use Rattle.yr_rows.specs.declared.moves.MoveRow.{MoveRow}
use Rattle.yr_rows.specs.declared.moves.Assertion.TheVariants.{Start, End, Edge, NotEdge, WideEdge, WideNotEdge}
use Rattle.yr_rows.specs.declared.moves.Move.{Move}
use Rattle.yr_rows.specs.declared.moves.Move.TheVariants.{Accept, Set, Fork, Test}

-- a move's row says the move
pub move_of-row_of : (v : Move) → move_of (row_of v) ≡ Some v
move_of-row_of Accept = refl
move_of-row_of (Set next set) = refl
move_of-row_of (Fork next other) = refl
move_of-row_of (Test Start next) = refl
move_of-row_of (Test End next) = refl
move_of-row_of (Test Edge next) = refl
move_of-row_of (Test NotEdge next) = refl
move_of-row_of (Test WideEdge next) = refl
move_of-row_of (Test WideNotEdge next) = refl

-- each row of wellformed moves is wellformed
pub wellformed_at : (moves : List MoveRow) (sets : List (List ℕ)) (m : ℕ) (row : MoveRow) → AreWellformedMoves moves sets → slice_get moves m ≡ Some row →
    IsWellformedMove (length moves) (length sets) row
wellformed_at moves sets m row good at =
    let Good : MoveRow → Type 0 = IsWellformedMove (length moves) (length sets) in
    subst Good (get_or_from_slice_get moves m row row at) (All-get_or Good moves m row (slice_get_within moves m row at) good.2)

-- a wellformed row says a move
pub wellformed_says : (n sets : ℕ) (row : MoveRow) (good : IsWellformedMove n sets row) → move_of row ≡ Some good.0
wellformed_says n sets row good = ap move_of good.1 ∙ move_of-row_of good.0

-- and what it names is there
pub wellformed_names : (n sets : ℕ) (row : MoveRow) (v : Move) → IsWellformedMove n sets row → move_of row ≡ Some v → NamesAmong n sets v
wellformed_names n sets row v good says =
    let both : Some good.0 ≡ Some v = sym (wellformed_says n sets row good) ∙ says in
    let same : good.0 ≡ v = cc both in subst (NamesAmong n sets) same good.2
