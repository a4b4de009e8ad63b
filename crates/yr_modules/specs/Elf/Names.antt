-- The names of sections (System V gABI, "String Table"; "ELF Header": e_shstrndx; "Section Header": sh_name).
use Rattle.std.specs.Prelude.{ℕ, zero, suc, ◌+◌, ℤ, List, [], ◌∷◌, length, drop, Option, None, Some}
use Rattle.std.specs.Option.{option_map}
use Rattle.yr_modules.specs.declared.elf.layout.Layout.{Layout}
use Rattle.yr_modules.specs.Elf.Rows.{number_in, e_shstrndx, sh_name, sh_offset}
use Rattle.yr_modules.specs.Elf.Entries.{sections_of, entry_place, section_place}

-- the bytes before the first 00; none where there is no 00
abbrev pub until_zero : List ℕ → Option (List ℕ)
until_zero [] = None
until_zero (zero ∷ bs) = Some []
until_zero (suc b ∷ bs) = option_map (λ t. suc b ∷ t) (until_zero bs)

-- the text from a place up to the next 00: none where the place lies outside the file, or no 00 follows
abbrev pub text_at : List ℕ → ℕ → Option (List ℕ)
text_at file at = until_zero (drop at file)

-- the name of the section whose header stands at the first place, its bytes being in the section whose header stands at the second
abbrev pub name_between : Layout → List ℕ → Option ℕ → Option ℕ → Option (List ℕ)
name_between l file (Some at) (Some strings) = text_at file (number_in l file strings sh_offset + number_in l file at sh_name)
name_between l file at strings = None

-- where the header of the section with the names stands
abbrev pub strings_place : Layout → List ℕ → Option ℕ
strings_place l file = entry_place (sections_of l file) (length file) (number_in l file 0 e_shstrndx)

-- the name of a section
abbrev pub section_name : Layout → List ℕ → ℤ → Option (List ℕ)
section_name l file index = name_between l file (section_place l file index) (strings_place l file)
