use Rattle.examples_engine.proofs.automaton.told_of_other_rows.Given as goal

abbrev pub ghosts-told : goal.ghosts-told
ghosts-told a = record { name = a.blank.name; parts = a.blank.parts }
