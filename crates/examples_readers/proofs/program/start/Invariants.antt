use Rattle.examples_readers.proofs.program.start.Given as goal

abbrev pub ghosts-start_of : goal.ghosts-start_of
ghosts-start_of g a = record { name = a.blank.name; parts = a.blank.parts }
