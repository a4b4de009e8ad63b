-- The moves of programs: their rows, what a row says, and which programs are wellformed.
use Rattle.std.specs.Prelude.{◌≡◌, ℕ, zero, suc, ◌<◌, ◌≤◌, ◌+◌, List, [], ◌∷◌, length, take, drop, All, Option, Some, slice_get, option_map, option_and_then}
use Rattle.yr_rows.specs.Rows.{number_at, rows_in}
use Rattle.yr_rows.specs.declared.moves.MoveRow.{MoveRow}
use Rattle.yr_rows.specs.declared.moves.Assertion.{Assertion}
use Rattle.yr_rows.specs.declared.moves.Assertion.TheVariants.{Start, End, Edge, NotEdge, WideEdge, WideNotEdge}
use Rattle.yr_rows.specs.declared.moves.Move.{Move}
use Rattle.yr_rows.specs.declared.moves.Move.TheVariants.{Accept, Set, Fork, Test}

-- the row of a move that the bytes begin with
abbrev pub move_row : List ℕ → MoveRow
move_row bytes = record { kind = number_at bytes 0; next = number_at bytes 4; other = number_at bytes 8; set = number_at bytes 12 }

-- the rows of moves, of 16 bytes each
abbrev pub moves_in : List ℕ → List MoveRow
moves_in bytes = rows_in 16 move_row bytes

-- the sets, of 32 bytes each: 256 bits, byte b being bit b % 8 of the set's byte b / 8
abbrev pub sets_in : List ℕ → List (List ℕ)
sets_in bytes = rows_in 32 (take 32) bytes

-- the assertions in the order of their kinds, the first of which is 3
abbrev pub assertions : List Assertion
assertions = Start ∷ End ∷ Edge ∷ NotEdge ∷ WideEdge ∷ WideNotEdge ∷ []

-- the move of a kind, and of the fields that it uses; an unknown kind is that of no move
abbrev pub move_by_kind : (kind next other set : ℕ) → Option Move
move_by_kind zero next other set = Some Accept
move_by_kind (suc zero) next other set = Some (Set next set)
move_by_kind (suc (suc zero)) next other set = Some (Fork next other)
move_by_kind (suc (suc (suc k))) next other set = option_map (λ a. Test a next) (slice_get assertions k)

-- what a row says
abbrev pub move_of : MoveRow → Option Move
move_of row = move_by_kind row.kind row.next row.other row.set

-- move m of a program
abbrev pub move_at : List MoveRow → ℕ → Option Move
move_at moves m = option_and_then move_of (slice_get moves m)

-- the kind of the moves that test an assertion
abbrev pub kind_of : Assertion → ℕ
kind_of Start = 3
kind_of End = 4
kind_of Edge = 5
kind_of NotEdge = 6
kind_of WideEdge = 7
kind_of WideNotEdge = 8

-- the row that says a move: fields that its kind does not use are 0
abbrev pub row_of : Move → MoveRow
row_of Accept = record { kind = 0; next = 0; other = 0; set = 0 }
row_of (Set next set) = record { kind = 1; next = next; other = 0; set = set }
row_of (Fork next other) = record { kind = 2; next = next; other = other; set = 0 }
row_of (Test assertion next) = record { kind = kind_of assertion; next = next; other = 0; set = 0 }

-- the moves that a move names are among n, and its set is among these many
abbrev pub NamesAmong : (n sets : ℕ) → Move → Type 0
NamesAmong n sets Accept = Unit {0}
NamesAmong n sets (Set next set) = (next < n) × (set < sets)
NamesAmong n sets (Fork next other) = (next < n) × (other < n)
NamesAmong n sets (Test assertion next) = next < n

-- the row is that of a move, and what the move names is there
abbrev pub IsWellformedMove : (n sets : ℕ) → MoveRow → Type 0
IsWellformedMove n sets row = (v : Move) × (row ≡ row_of v) × NamesAmong n sets v

-- the moves of one program beside all the sets: it has a move and at most 65,536, and each is wellformed
abbrev pub AreWellformedMoves : List MoveRow → List (List ℕ) → Type 0
AreWellformedMoves moves sets =
    (0 < length moves) × (length moves ≤ 65536) × All (IsWellformedMove (length moves) (length sets)) moves

-- the moves of the program that begins at a row and has these many
abbrev pub program_moves : (first count : ℕ) → List MoveRow → List MoveRow
program_moves first count moves = take count (drop first moves)

-- the program is a range of the rows, and its moves are wellformed
abbrev pub IsWellformedProgram : (first count : ℕ) → List MoveRow → List (List ℕ) → Type 0
IsWellformedProgram first count moves sets =
    (first + count ≤ length moves) × AreWellformedMoves (program_moves first count moves) sets
