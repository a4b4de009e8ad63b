-- Three rows, one after the other.
use Rattle.std.proofs.Common.{rules, append_assoc}
use Rattle.yr_modules.specs.Elf.ModuleRows.{array_rows}
use Rattle.yr_modules.proofs.elf.module_rows.push_array_rows.Goals as goal

pub returns : goal.returns
unfolding array_rows
returns c = search (rules, append_assoc)
