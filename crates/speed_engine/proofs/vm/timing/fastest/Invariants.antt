use Rattle.yr_machine.specs.Verified.{bytes_of}
use Rattle.yr_hits.specs.Programs.{HasRoom}
use Rattle.yr_image.specs.Reading.{image_in}
use Rattle.speed_engine.proofs.vm.timing.fastest.Given as goal

abbrev pub ghosts-matches_of : goal.ghosts-matches_of
ghosts-matches_of a = record { name = a.blank.name; parts = a.blank.parts }

abbrev pub ghosts-run : goal.ghosts-run
ghosts-run a = record { name = a.blank.name; parts = a.blank.parts }

abbrev pub invariant-loop : goal.invariant-loop
invariant-loop l = HasRoom (image_in (bytes_of l.image)) l.scratch.marks.room
