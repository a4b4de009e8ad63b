-- What a rule may name of the module `elf`: its fields, its arrays, and the constants of the standard (System V gABI: "ELF Header",
-- "Sections", "Program Header", and the processors of e_machine).
use Rattle.std.specs.Prelude.{ℕ, ◌≡◌, pos, Some, List, [], ◌∷◌, ◌++◌, codes}
use Rattle.yr_base.specs.declared.value.Kind.TheVariants as kind
use Rattle.yr_values.specs.declared.names.ModuleEntry.TheVariants.{Constant, Field, Array, Call}
use Rattle.yr_values.specs.Names.{NamedRow, NamedModule}
use Rattle.yr_values.specs.declared.names.ModuleEntry.{ModuleEntry}
use Rattle.yr_modules.specs.Elf.Fields.{elf_kind}

-- a field that is a number, one that is a text, an array by the id of its number of entries, and a constant
abbrev pub number : List ℕ → ℕ → NamedRow
number path id = record { path = path; entry = Field id kind.Number }

abbrev pub text : List ℕ → ℕ → NamedRow
text path id = record { path = path; entry = Field id kind.Text }

abbrev pub array : List ℕ → ℕ → NamedRow
array path count = record { path = path; entry = Array count }

abbrev pub constant : List ℕ → ℕ → NamedRow
constant path n = record { path = path; entry = Constant (pos n) }

-- the numbers
unfoldable pub number_rows : List NamedRow
number_rows =
    number (codes "type") 1
    ∷ number (codes "machine") 2
    ∷ number (codes "entry_point") 3
    ∷ number (codes "number_of_sections") 4
    ∷ number (codes "number_of_segments") 5
    ∷ number (codes "sections[].type") 17
    ∷ number (codes "sections[].flags") 18
    ∷ number (codes "sections[].address") 19
    ∷ number (codes "sections[].offset") 20
    ∷ number (codes "sections[].size") 21
    ∷ number (codes "segments[].type") 32
    ∷ number (codes "segments[].flags") 33
    ∷ number (codes "segments[].offset") 34
    ∷ number (codes "segments[].virtual_address") 35
    ∷ number (codes "segments[].physical_address") 36
    ∷ number (codes "segments[].file_size") 37
    ∷ number (codes "segments[].memory_size") 38
    ∷ number (codes "segments[].alignment") 39
    ∷ []

-- the arrays and the texts of their entries
unfoldable pub array_rows : List NamedRow
array_rows =
    array (codes "sections") 4
    ∷ array (codes "segments") 5
    ∷ text (codes "sections[].name") 16
    ∷ []

-- e_type, e_machine, sh_type, sh_flags, the type and the flags of a program header
unfoldable pub constant_rows : List NamedRow
constant_rows =
    constant (codes "ET_NONE") 0
    ∷ constant (codes "ET_REL") 1
    ∷ constant (codes "ET_EXEC") 2
    ∷ constant (codes "ET_DYN") 3
    ∷ constant (codes "ET_CORE") 4
    ∷ constant (codes "EM_386") 3
    ∷ constant (codes "EM_MIPS") 8
    ∷ constant (codes "EM_PPC") 20
    ∷ constant (codes "EM_PPC64") 21
    ∷ constant (codes "EM_ARM") 40
    ∷ constant (codes "EM_X86_64") 62
    ∷ constant (codes "EM_AARCH64") 183
    ∷ constant (codes "SHT_NULL") 0
    ∷ constant (codes "SHT_PROGBITS") 1
    ∷ constant (codes "SHT_SYMTAB") 2
    ∷ constant (codes "SHT_STRTAB") 3
    ∷ constant (codes "SHT_RELA") 4
    ∷ constant (codes "SHT_HASH") 5
    ∷ constant (codes "SHT_DYNAMIC") 6
    ∷ constant (codes "SHT_NOTE") 7
    ∷ constant (codes "SHT_NOBITS") 8
    ∷ constant (codes "SHT_REL") 9
    ∷ constant (codes "SHT_SHLIB") 10
    ∷ constant (codes "SHT_DYNSYM") 11
    ∷ constant (codes "SHF_WRITE") 1
    ∷ constant (codes "SHF_ALLOC") 2
    ∷ constant (codes "SHF_EXECINSTR") 4
    ∷ constant (codes "PT_NULL") 0
    ∷ constant (codes "PT_LOAD") 1
    ∷ constant (codes "PT_DYNAMIC") 2
    ∷ constant (codes "PT_INTERP") 3
    ∷ constant (codes "PT_NOTE") 4
    ∷ constant (codes "PT_SHLIB") 5
    ∷ constant (codes "PT_PHDR") 6
    ∷ constant (codes "PF_X") 1
    ∷ constant (codes "PF_W") 2
    ∷ constant (codes "PF_R") 4
    ∷ []

-- the module
abbrev pub elf_module : NamedModule
elf_module = record { name = codes "elf"; rows = number_rows ++ array_rows ++ constant_rows }

-- what an entry leads to is a field of the kind that it says
abbrev pub EntryLeadsToField : ModuleEntry → Type 0
EntryLeadsToField (Constant n) = Unit {0}
EntryLeadsToField (Field id k) = elf_kind id ≡ Some k
EntryLeadsToField (Array count) = elf_kind count ≡ Some kind.Number
EntryLeadsToField (Call id k) = ⊥

abbrev pub LeadsToField : NamedRow → Type 0
LeadsToField r = EntryLeadsToField r.entry
