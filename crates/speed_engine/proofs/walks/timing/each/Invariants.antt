use Rattle.speed_engine.proofs.walks.timing.each.Given as goal

abbrev pub ghosts-ask_each : goal.ghosts-ask_each
ghosts-ask_each a = record { name = a.blank.name; parts = a.blank.parts }
