use Rattle.examples_readers.proofs.patterns.matches.Given as goal

abbrev pub ghosts-end_at : goal.ghosts-end_at
ghosts-end_at g a = record { name = a.blank.name; parts = a.blank.parts }
