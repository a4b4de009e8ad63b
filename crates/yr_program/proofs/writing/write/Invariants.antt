use Rattle.std.proofs.Common.{map, take}
use Rattle.yr_program.specs.Drafts.{act_of}
use Rattle.yr_program.specs.Written.{IsWritten}
use Rattle.yr_program.proofs.writing.write.Given as goal

abbrev pub invariant-loop-one : goal.invariant-loop-one
invariant-loop-one l = IsWritten l.moves.items l.sets.items (map act_of (take l.one-index l.draft))
