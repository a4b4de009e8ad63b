-- The section headers, which stand behind the optional header (PE Format: "Section Table").
use Rattle.std.specs.Prelude.{ℕ, zero, suc, ◌+◌, ◌*◌, ◌&&◌, ℤ, pos, negsuc, nat_lt, nat_le, if◌then◌else◌, List, [], ◌∷◌, length, take, drop, Option, None, Some}
use Rattle.std.specs.Option.{option_map}
use Rattle.yr_modules.specs.declared.pe.row.Row.{Row}
use Rattle.yr_modules.specs.declared.pe.row.Size.TheVariants.{Word}
use Rattle.yr_modules.specs.Pe.Header.{row, number_in, header_size, number_of_sections, size_of_optional_header}

-- the bytes of a section header
abbrev pub section_size : ℕ
section_size = 40

-- where header k would stand in a file whose signature stands at p
abbrev pub place_of : List ℕ → (p k : ℕ) → ℕ
place_of file p k = p + header_size + number_in file p size_of_optional_header + section_size * k

-- the place of header k, where it is one of the table and lies in the file
abbrev pub section_place : List ℕ → (p k : ℕ) → Option ℕ
section_place file p k =
    if nat_lt k (number_in file p number_of_sections) && nat_le (place_of file p k + section_size) (length file)
    then Some (place_of file p k) else None

-- the same by an index, which may be negative
abbrev pub indexed_place : List ℕ → ℕ → ℤ → Option ℕ
indexed_place file p (pos k) = section_place file p k
indexed_place file p (negsuc k) = None

-- the number in a field of such a header
abbrev pub number_by : List ℕ → Row → Option ℕ → Option ℕ
number_by file r at = option_map (λ place. number_in file place r) at

-- the bytes before the first 00, or all
abbrev pub before_zero : List ℕ → List ℕ
before_zero [] = []
before_zero (zero ∷ bs) = []
before_zero (suc b ∷ bs) = suc b ∷ before_zero bs

-- the name of a section: the first eight bytes of its header, up to the first 00 of them
abbrev pub name_at : List ℕ → ℕ → List ℕ
name_at file at = before_zero (take 8 (drop at file))

-- the fields of a section header
abbrev pub virtual_size : Row
virtual_size = row 8 Word

abbrev pub virtual_address : Row
virtual_address = row 12 Word

abbrev pub raw_data_size : Row
raw_data_size = row 16 Word

abbrev pub raw_data_offset : Row
raw_data_offset = row 20 Word

abbrev pub section_characteristics : Row
section_characteristics = row 36 Word
