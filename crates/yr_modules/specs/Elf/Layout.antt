-- How the numbers of an ELF file are laid out (System V gABI, "ELF Header": "ELF Identification", "Data Encoding").
use Rattle.std.specs.Prelude.{ℕ, ◌==◌, nat_eq, nat_le, if◌then◌else◌, List, [], ◌∷◌, length, Bool, IsSome, slice_get, Option, None, Some}
use Rattle.std.specs.List.{starts_with}
use Rattle.std.specs.Option.{option_and_then}
use Rattle.byteorder.specs.Endian.{little_number, big_number}
use Rattle.yr_modules.specs.declared.elf.layout.Class.{Class}
use Rattle.yr_modules.specs.declared.elf.layout.Class.TheVariants.{Bits32, Bits64}
use Rattle.yr_modules.specs.declared.elf.layout.Order.{Order}
use Rattle.yr_modules.specs.declared.elf.layout.Order.TheVariants.{LowestFirst, HighestFirst}
use Rattle.yr_modules.specs.declared.elf.layout.Layout.{Layout}

-- a file begins with 7f 45 4c 46 (EI_MAG0 to EI_MAG3)
abbrev pub has_magic : List ℕ → Bool
has_magic file = starts_with nat_eq file (127 ∷ 69 ∷ 76 ∷ 70 ∷ [])

-- ELFCLASS32 is 1, ELFCLASS64 is 2
abbrev pub class_with : ℕ → Option Class
class_with b = if b == 1 then Some Bits32 else if b == 2 then Some Bits64 else None

-- ELFDATA2LSB is 1, ELFDATA2MSB is 2
abbrev pub order_with : ℕ → Option Order
order_with b = if b == 1 then Some LowestFirst else if b == 2 then Some HighestFirst else None

-- byte 4 is the class (EI_CLASS), byte 5 the order of bytes (EI_DATA)
abbrev pub class_of : List ℕ → Option Class
class_of file = option_and_then class_with (slice_get file 4)

abbrev pub order_of : List ℕ → Option Order
order_of file = option_and_then order_with (slice_get file 5)

-- how many bytes the ELF header has
abbrev pub header_size : Class → ℕ
header_size Bits32 = 52
header_size Bits64 = 64

-- the layout of a class and an order, where the file holds the header of that class
abbrev pub layout_with : List ℕ → Option Class → Option Order → Option Layout
layout_with file (Some class) (Some order) =
    if nat_le (header_size class) (length file) then Some (record { class = class; order = order }) else None
layout_with file class order = None

-- the layout of an ELF file: none where a file is no ELF file
abbrev pub layout_of : List ℕ → Option Layout
layout_of file = if has_magic file then layout_with file (class_of file) (order_of file) else None

-- a file is an ELF file
abbrev pub IsElf : List ℕ → Type 0
IsElf file = IsSome (layout_of file)

-- the number in these bytes, in this order
abbrev pub number_of : Order → List ℕ → ℕ
number_of LowestFirst bytes = little_number (length bytes) bytes
number_of HighestFirst bytes = big_number (length bytes) bytes
