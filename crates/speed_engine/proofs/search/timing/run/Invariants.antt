use Rattle.yr_machine.specs.Verified.{bytes_of}
use Rattle.yr_search.specs.Scratches.{IsScratchFor}
use Rattle.speed_engine.proofs.search.timing.run.Given as goal

abbrev pub ghosts-found : goal.ghosts-found
ghosts-found a = record { name = a.blank.name; parts = a.blank.parts }

abbrev pub invariant-loop : goal.invariant-loop
invariant-loop l = IsScratchFor (bytes_of l.image) l.scratch
