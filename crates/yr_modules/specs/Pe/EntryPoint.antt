-- Where in the file the entry point lies (PE Format: "Optional Header Standard Fields": Magic, AddressOfEntryPoint).
use Rattle.std.specs.Prelude.{ℕ, zero, suc, ◌+◌, ◌-◌, ◌==◌, ◌&&◌, ◌||◌, nat_lt, nat_le, if◌then◌else◌, Bool, List, length, Option, None, Some}
use Rattle.std.specs.Option.{option_and_then, option_or}
use Rattle.yr_modules.specs.declared.pe.row.Size.TheVariants.{Half, Word}
use Rattle.yr_modules.specs.Pe.Header.{number_at, number_in, number_of_sections, size_of_optional_header}
use Rattle.yr_modules.specs.Pe.Sections.{section_place, virtual_size, virtual_address, raw_data_offset}

-- the optional header has its first 20 bytes, which lie in the file, and is one of the two forms that there are
abbrev pub has_entry_point : List ℕ → ℕ → Bool
has_entry_point file p =
    nat_le 20 (number_in file p size_of_optional_header)
    && (nat_le (p + 44) (length file)
    && ((number_at file (p + 24) Half == 0x10b) || (number_at file (p + 24) Half == 0x20b)))

-- an address lies in the memory of the section whose header stands at a place
abbrev pub holds_address : List ℕ → (address at : ℕ) → Bool
holds_address file address at =
    nat_le (number_in file at virtual_address) address
    && nat_lt address (number_in file at virtual_address + number_in file at virtual_size)

-- the place in the file of an address in such a section
abbrev pub place_of_address : List ℕ → (address at : ℕ) → Option ℕ
place_of_address file address at =
    if holds_address file address at
    then Some (number_in file at raw_data_offset + (address - number_in file at virtual_address)) else None

-- the same of section k; none where it can not be read
abbrev pub place_in_section : List ℕ → (p address k : ℕ) → Option ℕ
place_in_section file p address k = option_and_then (place_of_address file address) (section_place file p k)

-- of what f gives for the numbers below n, the first that is there
unfoldable pub first_below : (ℕ → Option ℕ) → ℕ → Option ℕ
first_below f zero = None
first_below f (suc n) = option_or (first_below f n) (f n)

-- the place in the file of the entry point
abbrev pub entry_point : List ℕ → ℕ → Option ℕ
entry_point file p =
    if has_entry_point file p
    then first_below (place_in_section file p (number_at file (p + 40) Word)) (number_in file p number_of_sections) else None
