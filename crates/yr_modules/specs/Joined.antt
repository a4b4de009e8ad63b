-- The modules `elf`, `hash` and `pe` together: what rules may name of them, and the values that they have for a file.
use Rattle.std.specs.Prelude.{◌≡◌, ℕ, ◌==◌, ℤ, Bool, false, List, [], ◌∷◌, ◌++◌, Some}
use Rattle.std.specs.List.{list_any}
use Rattle.yr_base.specs.declared.value.Kind.TheVariants as kind
use Rattle.yr_values.specs.Values.{Value, Undefined}
use Rattle.yr_values.specs.Names.{NamedRow, NamedModule}
use Rattle.yr_values.specs.declared.names.ModuleEntry.{ModuleEntry}
use Rattle.yr_values.specs.declared.names.ModuleEntry.TheVariants.{Constant, Field, Array, Call}
use Rattle.yr_image.specs.ModuleTable.{field_row_of, call_row_of}
use Rattle.yr_modules.specs.Elf.Fields.{elf_field}
use Rattle.yr_modules.specs.Elf.ModuleRows.{elf_module}
use Rattle.yr_modules.specs.Hash.Digests.{digest_with, digest_or}
use Rattle.yr_modules.specs.Hash.ModuleRows.{hash_module}
use Rattle.yr_modules.specs.Pe.Fields.{field_with, field_or}
use Rattle.yr_modules.specs.Pe.ModuleRows.{pe_module}

-- the modules that rules may import
abbrev pub all_modules : List NamedModule
all_modules = elf_module ∷ hash_module ∷ pe_module ∷ []

-- the value of a field in a file, by its id: of the PE file that it is, or else of the ELF file
abbrev pub module_field : List ℕ → ℕ → ℤ → Value
module_field file id index = field_or (field_with id) file index (elf_field file id index)

-- the value of a call
abbrev pub module_call : List ℕ → ℕ → ℤ → ℤ → Value
module_call file id from size = digest_or (digest_with id) file from size Undefined

-- a path leads through an entry of an array, so that its field takes an index: `[` stands in it
abbrev pub has_index : List ℕ → Bool
has_index path = list_any (λ b. b == 91) path

-- the table of ids of images has the id that an entry leads to, with its kind and its use
abbrev pub EntryIsListed : (indexed : Bool) → ModuleEntry → Type 0
EntryIsListed indexed (Constant n) = Unit {0}
EntryIsListed indexed (Field id k) = field_row_of id ≡ Some (indexed, k)
EntryIsListed indexed (Array count) = field_row_of count ≡ Some (false, kind.Number)
EntryIsListed indexed (Call id k) = call_row_of id ≡ Some k

abbrev pub IsListed : NamedRow → Type 0
IsListed r = EntryIsListed (has_index r.path) r.entry

-- all rows of the modules
abbrev pub all_rows : List NamedRow
all_rows = elf_module.rows ++ (hash_module.rows ++ pe_module.rows)
