-- The rows so far.
use Rattle.std.proofs.Common.{◌≡◌, ◌++◌, map, take}
use Rattle.yr_values.specs.Names.{row_shown}
use Rattle.yr_modules.specs.Elf.ModuleRows.{constant}
use Rattle.yr_modules.proofs.elf.module_rows.push_constants.Given as goal

abbrev pub invariant-loop-path : goal.invariant-loop-path
invariant-loop-path l =
    map row_shown l.rows.items ≡ map row_shown l.initial.rows.items ++ map (λ r. constant r.0.now r.1) (take l.path-index l.constants)
