use Rattle.examples_engine.proofs.automaton.told_of_atoms.Given as goal

abbrev pub ghosts-told : goal.ghosts-told
ghosts-told a = record { name = a.blank.name; parts = a.blank.parts }
