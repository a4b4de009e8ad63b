-- The meaning of a draft's moves.
use Rattle.std.specs.Prelude.{ℕ, List, [], map}
use Rattle.yr_pattern.specs.Set.{bytes_of}
use Rattle.yr_rows.specs.declared.moves.Move as m
use Rattle.yr_rows.specs.declared.moves.Move.TheVariants as mv
use Rattle.yr_program.specs.Acts.{Act, Stop, Read, Branch, Ask}
use Rattle.yr_program.specs.declared.draft.Draft.{Draft}
use Rattle.yr_program.specs.declared.draft.DraftMove.{DraftMove}
use Rattle.yr_program.specs.declared.draft.DraftMove.TheVariants.{Accept, Set, Fork, Test}

-- the move, with the class of its set
abbrev pub act_of : DraftMove → Act
act_of Accept = Stop
act_of (Set next set) = Read next (bytes_of set)
act_of (Fork next other) = Branch next other
act_of (Test assertion next) = Ask assertion next

-- the move, with a number for its set
abbrev pub numbered : DraftMove → ℕ → m.Move
numbered Accept number = mv.Accept
numbered (Set next set) number = mv.Set next number
numbered (Fork next other) number = mv.Fork next other
numbered (Test assertion next) number = mv.Test assertion next

-- the bytes of its set, if it has one
abbrev pub set_bytes : DraftMove → List ℕ
set_bytes Accept = []
set_bytes (Set next set) = set.bits
set_bytes (Fork next other) = []
set_bytes (Test assertion next) = []

-- its moves
abbrev pub acts_of : Draft → List Act
acts_of draft = map act_of draft.moves.items
