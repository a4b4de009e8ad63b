-- Where the fields of the headers stand (System V gABI: "ELF Header", "Section Header", "Program Header"; "32-Bit Data Types", "64-Bit Data Types").
use Rattle.std.specs.Prelude.{ℕ, ◌+◌, ◌≤◌, List, slice_range, Option}
use Rattle.std.specs.Option.{option_map}
use Rattle.yr_modules.specs.declared.elf.layout.Class.{Class}
use Rattle.yr_modules.specs.declared.elf.layout.Class.TheVariants.{Bits32, Bits64}
use Rattle.yr_modules.specs.declared.elf.layout.Layout.{Layout}
use Rattle.yr_modules.specs.declared.elf.row.Size.{Size}
use Rattle.yr_modules.specs.declared.elf.row.Size.TheVariants.{Half, Word, Native}
use Rattle.yr_modules.specs.declared.elf.row.Row.{Row}
use Rattle.yr_modules.specs.Elf.Layout.{number_of}

-- a field: its place in its header for 32 and for 64 bits, and its size
abbrev pub row : ℕ → ℕ → Size → Row
row narrow wide size = record { 0 = narrow; 1 = wide; 2 = size }

-- how many bytes a size is: Elf32_Half and Elf64_Half; Elf32_Word and Elf64_Word; Elf32_Word, Elf32_Addr, Elf32_Off and Elf64_Xword, Elf64_Addr, Elf64_Off
abbrev pub bytes_in : Class → Size → ℕ
bytes_in class Half = 2
bytes_in class Word = 4
bytes_in Bits32 Native = 4
bytes_in Bits64 Native = 8

abbrev pub place_in : Class → Row → ℕ
place_in Bits32 r = r.0
place_in Bits64 r = r.1

-- the place after a field's last byte
abbrev pub end_in : Class → Row → ℕ
end_in class r = place_in class r + bytes_in class r.2

-- the number in a field of the header that begins at a place
abbrev pub number_in : Layout → List ℕ → ℕ → Row → ℕ
number_in l file at r = number_of l.order (slice_range file (at + place_in l.class r) (at + end_in l.class r))

-- the same, where there is such a header
abbrev pub number_at : Layout → List ℕ → Row → Option ℕ → Option ℕ
number_at l file r at = option_map (λ k. number_in l file k r) at

-- how many bytes a section header has, and a program header
abbrev pub section_size : Class → ℕ
section_size Bits32 = 40
section_size Bits64 = 64

abbrev pub segment_size : Class → ℕ
segment_size Bits32 = 32
segment_size Bits64 = 56

-- a field lies inside its header, of these sizes
abbrev pub LiesInside : (Class → ℕ) → Row → Type 0
LiesInside size r = (end_in Bits32 r ≤ size Bits32) × (end_in Bits64 r ≤ size Bits64)

-- the ELF header
abbrev pub e_type : Row
e_type = row 16 16 Half

abbrev pub e_machine : Row
e_machine = row 18 18 Half

abbrev pub e_entry : Row
e_entry = row 24 24 Native

abbrev pub e_phoff : Row
e_phoff = row 28 32 Native

abbrev pub e_shoff : Row
e_shoff = row 32 40 Native

abbrev pub e_phentsize : Row
e_phentsize = row 42 54 Half

abbrev pub e_phnum : Row
e_phnum = row 44 56 Half

abbrev pub e_shentsize : Row
e_shentsize = row 46 58 Half

abbrev pub e_shnum : Row
e_shnum = row 48 60 Half

abbrev pub e_shstrndx : Row
e_shstrndx = row 50 62 Half

-- a section header
abbrev pub sh_name : Row
sh_name = row 0 0 Word

abbrev pub sh_type : Row
sh_type = row 4 4 Word

abbrev pub sh_flags : Row
sh_flags = row 8 8 Native

abbrev pub sh_addr : Row
sh_addr = row 12 16 Native

abbrev pub sh_offset : Row
sh_offset = row 16 24 Native

abbrev pub sh_size : Row
sh_size = row 20 32 Native

-- a program header
abbrev pub p_type : Row
p_type = row 0 0 Word

abbrev pub p_flags : Row
p_flags = row 24 4 Word

abbrev pub p_offset : Row
p_offset = row 4 8 Native

abbrev pub p_vaddr : Row
p_vaddr = row 8 16 Native

abbrev pub p_paddr : Row
p_paddr = row 12 24 Native

abbrev pub p_filesz : Row
p_filesz = row 16 32 Native

abbrev pub p_memsz : Row
p_memsz = row 20 40 Native

abbrev pub p_align : Row
p_align = row 28 48 Native
