use Rattle.speed_engine.proofs.walks.timing.walk.Given as goal

abbrev pub ghosts-walk_down : goal.ghosts-walk_down
ghosts-walk_down a = record { name = a.blank.name; parts = a.blank.parts }
