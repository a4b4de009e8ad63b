use Rattle.std.proofs.Common.{◌≡◌, map, drop}
use Rattle.yr_conditions.specs.Meanings.{row_named}
use Rattle.yr_values.specs.Names.{row_shown}
use Rattle.yr_conditions.proofs.module.find_row.Given as goal

abbrev pub invariant-loop-row : goal.invariant-loop-row
invariant-loop-row l = row_named (map row_shown (drop l.row-index l.rows)) l.path ≡ row_named (map row_shown l.rows) l.path
