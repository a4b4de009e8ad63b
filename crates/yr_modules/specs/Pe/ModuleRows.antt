-- What a rule may name of the module `pe`: its fields, its array of sections, and constants of the format (PE Format: "Machine Types",
-- "Characteristics", "Section Flags").
use Rattle.std.specs.Prelude.{List, [], ◌∷◌, ◌++◌, codes}
use Rattle.yr_values.specs.Names.{NamedRow, NamedModule}
use Rattle.yr_modules.specs.Listed.{number, text, array, constant}

unfoldable pub number_rows : List NamedRow
number_rows =
    number (codes "machine") 80
    ∷ number (codes "number_of_sections") 81
    ∷ number (codes "timestamp") 82
    ∷ number (codes "characteristics") 83
    ∷ number (codes "entry_point") 84
    ∷ number (codes "sections[].virtual_address") 97
    ∷ number (codes "sections[].virtual_size") 98
    ∷ number (codes "sections[].raw_data_offset") 99
    ∷ number (codes "sections[].raw_data_size") 100
    ∷ number (codes "sections[].characteristics") 101
    ∷ []

-- the sections, counted by number_of_sections, and their names
unfoldable pub array_rows : List NamedRow
array_rows = array (codes "sections") 81 ∷ text (codes "sections[].name") 96 ∷ []

unfoldable pub constant_rows : List NamedRow
constant_rows =
    constant (codes "MACHINE_I386") 0x14c
    ∷ constant (codes "MACHINE_ARM") 0x1c0
    ∷ constant (codes "MACHINE_AMD64") 0x8664
    ∷ constant (codes "EXECUTABLE_IMAGE") 0x2
    ∷ constant (codes "DLL") 0x2000
    ∷ constant (codes "SECTION_CNT_CODE") 0x20
    ∷ constant (codes "SECTION_MEM_EXECUTE") 0x20000000
    ∷ constant (codes "SECTION_MEM_READ") 0x40000000
    ∷ constant (codes "SECTION_MEM_WRITE") 0x80000000
    ∷ []

-- the module
abbrev pub pe_module : NamedModule
pe_module = record { name = codes "pe"; rows = number_rows ++ array_rows ++ constant_rows }
