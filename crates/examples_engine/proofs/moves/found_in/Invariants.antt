use Rattle.examples_engine.proofs.moves.found_in.Given as goal

abbrev pub ghosts-occurs_in : goal.ghosts-occurs_in
ghosts-occurs_in g a = record { name = a.blank.name; parts = a.blank.parts }
