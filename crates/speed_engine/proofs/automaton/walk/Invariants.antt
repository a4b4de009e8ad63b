use Rattle.speed_engine.proofs.automaton.walk.Given as goal

abbrev pub ghosts-count_outputs : goal.ghosts-count_outputs
ghosts-count_outputs a = record { name = a.blank.name; parts = a.blank.parts }
