use Rattle.std.proofs.Common.{◌≡◌, ◌++◌, map, drop}
use Rattle.std.specs.Prelude.{codes}
use Rattle.yr_conditions.specs.Meanings.{row_named}
use Rattle.yr_values.specs.Names.{row_shown}
use Rattle.yr_conditions.proofs.module.find_entry_row.Given as goal

abbrev pub invariant-loop-row : goal.invariant-loop-row
invariant-loop-row l =
    row_named (map row_shown (drop l.row-index l.rows)) (l.array ++ codes "[]." ++ l.word)
    ≡ row_named (map row_shown l.rows) (l.array ++ codes "[]." ++ l.word)
