-- Where in the file the program's entry point lies (System V gABI, "ELF Header": e_entry; "Program Header": p_offset, p_vaddr, p_memsz).
use Rattle.std.specs.Prelude.{ℕ, zero, suc, ◌+◌, ◌-◌, ◌%◌, ◌^◌, ◌&&◌, nat_lt, nat_le, if◌then◌else◌, Bool, List, length, Option, None, Some}
use Rattle.std.specs.Option.{option_and_then, option_or}
use Rattle.yr_modules.specs.declared.elf.layout.Layout.{Layout}
use Rattle.yr_modules.specs.Elf.Rows.{number_in, e_entry, e_phnum, p_offset, p_vaddr, p_memsz}
use Rattle.yr_modules.specs.Elf.Entries.{segments_of, entry_place}

-- an address lies in the memory of the segment whose header stands at a place
abbrev pub holds_address : Layout → List ℕ → ℕ → ℕ → Bool
holds_address l file address at =
    nat_le (number_in l file at p_vaddr) address && nat_lt address (number_in l file at p_vaddr + number_in l file at p_memsz)

-- the place in the file of an address in such a segment
abbrev pub place_of_address : Layout → List ℕ → ℕ → ℕ → Option ℕ
place_of_address l file address at =
    if holds_address l file address at then Some ((number_in l file at p_offset + (address - number_in l file at p_vaddr)) % 2 ^ 64)
    else None

-- the same of segment k; none where it cannot be read
abbrev pub place_in_segment : Layout → List ℕ → ℕ → ℕ → Option ℕ
place_in_segment l file address k = option_and_then (place_of_address l file address) (entry_place (segments_of l file) (length file) k)

-- of what f gives for the numbers below n, the first that is there
unfoldable pub first_below : (ℕ → Option ℕ) → ℕ → Option ℕ
first_below f zero = None
first_below f (suc n) = option_or (first_below f n) (f n)

-- the place in the file of the entry point
abbrev pub entry_point : Layout → List ℕ → Option ℕ
entry_point l file = first_below (place_in_segment l file (number_in l file 0 e_entry)) (number_in l file 0 e_phnum)
