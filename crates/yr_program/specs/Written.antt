-- How rows of moves and sets say moves with classes.
use Rattle.std.specs.Prelude.{◌≡◌, ℕ, ◌+◌, ◌*◌, List, [], ◌∷◌, length, Some, slice_get}
use Rattle.yr_pattern.specs.Set.{has_bit}
use Rattle.yr_rows.specs.Moves.{row_of, moves_in, sets_in}
use Rattle.yr_rows.specs.declared.moves.MoveRow.{MoveRow}
use Rattle.yr_rows.specs.declared.moves.Move.TheVariants.{Accept, Set, Fork, Test}
use Rattle.yr_program.specs.Acts.{Act, Stop, Read, Branch, Ask}

-- the row says the move: its set has the bytes of the class
abbrev pub Says : List (List ℕ) → MoveRow → Act → Type 0
Says sets row Stop = row ≡ row_of Accept
Says sets row (Read next bytes) =
    (set : ℕ) × (bits : List ℕ) × (row ≡ row_of (Set next set)) × (slice_get sets set ≡ Some bits) × (has_bit bits ≡ bytes)
Says sets row (Branch next other) = row ≡ row_of (Fork next other)
Says sets row (Ask assertion next) = row ≡ row_of (Test assertion next)

-- row by row
abbrev pub AllSay : List (List ℕ) → List MoveRow → List Act → Type 0
AllSay sets [] [] = Unit {0}
AllSay sets (row ∷ rows) (act ∷ acts) = Says sets row act × AllSay sets rows acts
AllSay sets [] (act ∷ acts) = ⊥
AllSay sets (row ∷ rows) [] = ⊥

-- how many of the moves read a byte
abbrev pub count_reads : List Act → ℕ
count_reads [] = 0
count_reads (Read next bytes ∷ acts) = count_reads acts + 1
count_reads (Stop ∷ acts) = count_reads acts
count_reads (Branch next other ∷ acts) = count_reads acts
count_reads (Ask assertion next ∷ acts) = count_reads acts

-- the bytes are whole rows that say the moves, with one set for each move that reads
pub record IsWritten (moves sets : List ℕ) (acts : List Act) : Type 0 where
  pub whole : length moves ≡ length acts * 16
  pub whole_sets : length sets ≡ count_reads acts * 32
  pub says : AllSay (sets_in sets) (moves_in moves) acts
