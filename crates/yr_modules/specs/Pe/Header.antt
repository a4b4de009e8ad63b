-- The headers of a PE file, and the numbers in them (PE Format: "MS-DOS Stub", "Signature", "COFF File Header"). All numbers have their lowest byte first.
use Rattle.std.specs.Prelude.{ℕ, ◌+◌, ◌≤◌, ◌&&◌, nat_eq, nat_le, if◌then◌else◌, List, [], ◌∷◌, length, drop, Option, None, Some}
use Rattle.std.specs.List.{starts_with}
use Rattle.byteorder.specs.Endian.{little_number}
use Rattle.yr_modules.specs.declared.pe.row.Row.{Row}
use Rattle.yr_modules.specs.declared.pe.row.Size.{Size}
use Rattle.yr_modules.specs.declared.pe.row.Size.TheVariants.{Half, Word}

-- how many bytes a size is
abbrev pub bytes_in : Size → ℕ
bytes_in Half = 2
bytes_in Word = 4

-- the number of a size at a place
abbrev pub number_at : List ℕ → (at : ℕ) → Size → ℕ
number_at file at size = little_number (bytes_in size) (drop at file)

-- a field: its place in its header, and its size
abbrev pub row : ℕ → Size → Row
row place size = record { place = place; size = size }

-- the number in a field of the header that begins at a place
abbrev pub number_in : List ℕ → ℕ → Row → ℕ
number_in file at r = number_at file (at + r.place) r.size

-- a field lies inside a header of so many bytes
abbrev pub LiesInside : ℕ → Row → Type 0
LiesInside count r = r.place + bytes_in r.size ≤ count

-- the signature and the COFF file header behind it, together
abbrev pub header_size : ℕ
header_size = 24

-- the place of the signature, where it and the file header lie in the file
abbrev pub signed_place : List ℕ → ℕ → Option ℕ
signed_place file p =
    if nat_le (p + header_size) (length file) && starts_with nat_eq (drop p file) (0x50 ∷ 0x45 ∷ 0 ∷ 0 ∷ []) then Some p else None

-- the same of a file: its MS-DOS header of 64 bytes begins with 4d 5a and has the place at 60. None where the file is no PE file.
abbrev pub header_place : List ℕ → Option ℕ
header_place file =
    if nat_le 64 (length file) && starts_with nat_eq file (0x4d ∷ 0x5a ∷ []) then signed_place file (number_at file 60 Word) else None

-- the fields of the file header, by their places behind the signature's begin
abbrev pub machine : Row
machine = row 4 Half

abbrev pub number_of_sections : Row
number_of_sections = row 6 Half

abbrev pub timestamp : Row
timestamp = row 8 Word

abbrev pub size_of_optional_header : Row
size_of_optional_header = row 20 Half

abbrev pub characteristics : Row
characteristics = row 22 Half
