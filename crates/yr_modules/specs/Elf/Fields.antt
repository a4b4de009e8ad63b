-- The fields of an ELF file, each by its id.
use Rattle.std.specs.Prelude.{ℕ, ◌==◌, ℤ, if◌then◌else◌, List, Option, None, Some}
use Rattle.std.specs.Int.{w64, cast_signed}
use Rattle.std.specs.Option.{option_map, option_or}
use Rattle.yr_base.specs.declared.value.Kind.{Kind}
use Rattle.yr_base.specs.declared.value.Kind.TheVariants as kind
use Rattle.yr_values.specs.Values.{Value, Undefined, Number, Text}
use Rattle.yr_modules.specs.declared.elf.layout.Layout.{Layout}
use Rattle.yr_modules.specs.declared.elf.field.Field.{Field}
use Rattle.yr_modules.specs.declared.elf.field.Field.TheVariants.{Header, EntryPoint, SectionName, Section, Segment}
use Rattle.yr_modules.specs.Elf.Layout.{layout_of, header_size}
use Rattle.yr_modules.specs.Elf.Rows.{LiesInside, number_in, number_at, section_size, segment_size, e_type, e_machine, e_phnum, e_shnum, sh_type, sh_flags, sh_addr, sh_offset, sh_size, p_type, p_flags, p_offset, p_vaddr, p_paddr, p_filesz, p_memsz, p_align}
use Rattle.yr_modules.specs.Elf.Entries.{section_place, segment_place}
use Rattle.yr_modules.specs.Elf.Names.{section_name}
use Rattle.yr_modules.specs.Elf.EntryPoint.{entry_point}

-- the fields of the file
abbrev pub file_field : ℕ → Option Field
file_field id =
    if id == 1 then Some (Header e_type)
    else if id == 2 then Some (Header e_machine)
    else if id == 3 then Some EntryPoint
    else if id == 4 then Some (Header e_shnum)
    else if id == 5 then Some (Header e_phnum)
    else None

-- the fields of a section
abbrev pub section_field : ℕ → Option Field
section_field id =
    if id == 16 then Some SectionName
    else if id == 17 then Some (Section sh_type)
    else if id == 18 then Some (Section sh_flags)
    else if id == 19 then Some (Section sh_addr)
    else if id == 20 then Some (Section sh_offset)
    else if id == 21 then Some (Section sh_size)
    else None

-- the fields of a segment
abbrev pub segment_field : ℕ → Option Field
segment_field id =
    if id == 32 then Some (Segment p_type)
    else if id == 33 then Some (Segment p_flags)
    else if id == 34 then Some (Segment p_offset)
    else if id == 35 then Some (Segment p_vaddr)
    else if id == 36 then Some (Segment p_paddr)
    else if id == 37 then Some (Segment p_filesz)
    else if id == 38 then Some (Segment p_memsz)
    else if id == 39 then Some (Segment p_align)
    else None

-- the field with an id
abbrev pub field_with : ℕ → Option Field
field_with id = option_or (file_field id) (option_or (section_field id) (segment_field id))

-- a field's row lies inside its header
abbrev pub IsWithin : Field → Type 0
IsWithin (Header r) = LiesInside header_size r
IsWithin (Section r) = LiesInside section_size r
IsWithin (Segment r) = LiesInside segment_size r
IsWithin f = Unit {0}

-- a number is given as the signed number of the same 64 bits
abbrev pub number_value : Option ℕ → Value
number_value None = Undefined
number_value (Some n) = Number (cast_signed w64 n)

abbrev pub text_value : Option (List ℕ) → Value
text_value None = Undefined
text_value (Some t) = Text t

-- the value of a field in a file with this layout
abbrev pub value_in : Layout → List ℕ → ℤ → Field → Value
value_in l file index (Header r) = number_value (Some (number_in l file 0 r))
value_in l file index EntryPoint = number_value (entry_point l file)
value_in l file index SectionName = text_value (section_name l file index)
value_in l file index (Section r) = number_value (number_at l file r (section_place l file index))
value_in l file index (Segment r) = number_value (number_at l file r (segment_place l file index))

-- undefined where there is no layout, the file being no ELF file, or no field
abbrev pub value_with : Option Layout → List ℕ → ℤ → Option Field → Value
value_with (Some l) file index (Some f) = value_in l file index f
value_with l file index f = Undefined

-- the value of the field with an id; one that is no entry's takes no notice of the index
abbrev pub elf_field : List ℕ → ℕ → ℤ → Value
elf_field file id index = value_with (layout_of file) file index (field_with id)

-- the kind of a field
abbrev pub kind_in : Field → Kind
kind_in SectionName = kind.Text
kind_in f = kind.Number

abbrev pub elf_kind : ℕ → Option Kind
elf_kind id = option_map kind_in (field_with id)
