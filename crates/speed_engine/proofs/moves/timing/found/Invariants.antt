use Rattle.speed_engine.proofs.moves.timing.found.Given as goal

abbrev pub ghosts-occurs_in : goal.ghosts-occurs_in
ghosts-occurs_in a = record { name = a.blank.name; parts = a.blank.parts }
