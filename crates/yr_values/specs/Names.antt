-- The names of modules as plain data.
use Rattle.std.specs.Prelude.{ℕ, List, map}
use Rattle.yr_values.specs.declared.names.ModuleEntry.{ModuleEntry}
use Rattle.yr_values.specs.declared.names.ModuleRow.{ModuleRow}
use Rattle.yr_values.specs.declared.names.Module.{Module}
use Rattle.yr_values.specs.declared.names.ModuleNames.{ModuleNames}

-- a path, as written, and what it leads to
pub record NamedRow : Type 0 where
  pub path : List ℕ
  pub entry : ModuleEntry

-- a module's name and its rows
pub record NamedModule : Type 0 where
  pub name : List ℕ
  pub rows : List NamedRow

abbrev pub row_shown : ModuleRow → NamedRow
row_shown r = record { path = r.path.items; entry = r.entry }

abbrev pub module_shown : Module → NamedModule
module_shown m = record { name = m.name.items; rows = map row_shown m.rows.items }

abbrev pub names_shown : ModuleNames → List NamedModule
names_shown names = map module_shown names.modules.items
