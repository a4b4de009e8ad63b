-- The rows of a program, and the pattern that a program is made of.
use Rattle.std.specs.Prelude.{ℕ, Bool, true, false, List}
use Rattle.yr_pattern.specs.Tree.{Tree}
use Rattle.yr_pattern.specs.Reverse.{reverse_tree}
use Rattle.yr_rows.specs.Moves.{moves_in, sets_in}
use Rattle.yr_rows.specs.declared.moves.MoveRow.{MoveRow}
use Rattle.yr_program.specs.declared.program.Program.{Program}

-- the rows of its moves
abbrev pub program_moves : Program → List MoveRow
program_moves program = moves_in program.moves.items

-- its sets
abbrev pub program_sets : Program → List (List ℕ)
program_sets program = sets_in program.sets.items

-- the pattern, turned round for a program that is read backwards
abbrev pub turned_if : Bool → Tree → Tree
turned_if false tree = tree
turned_if true tree = reverse_tree tree
