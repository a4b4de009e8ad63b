-- The fields of a PE file, each by its id.
use Rattle.std.specs.Prelude.{ℕ, ◌==◌, ℤ, pos, if◌then◌else◌, List, Option, None, Some}
use Rattle.std.specs.Option.{option_map, option_or}
use Rattle.yr_base.specs.declared.value.Kind.{Kind}
use Rattle.yr_base.specs.declared.value.Kind.TheVariants as kind
use Rattle.yr_values.specs.Values.{Value, Undefined, Number, Text}
use Rattle.yr_modules.specs.declared.pe.field.Field.{Field}
use Rattle.yr_modules.specs.declared.pe.field.Field.TheVariants.{Header, EntryPoint, SectionName, Section}
use Rattle.yr_modules.specs.Pe.Header.{LiesInside, header_place, header_size, number_in, machine, number_of_sections, timestamp, characteristics}
use Rattle.yr_modules.specs.Pe.Sections.{section_size, indexed_place, number_by, name_at, virtual_address, virtual_size, raw_data_offset, raw_data_size, section_characteristics}
use Rattle.yr_modules.specs.Pe.EntryPoint.{entry_point}

-- the fields of the file
abbrev pub file_field : ℕ → Option Field
file_field id =
    if id == 80 then Some (Header machine)
    else if id == 81 then Some (Header number_of_sections)
    else if id == 82 then Some (Header timestamp)
    else if id == 83 then Some (Header characteristics)
    else if id == 84 then Some EntryPoint
    else None

-- the fields of a section
abbrev pub section_field : ℕ → Option Field
section_field id =
    if id == 96 then Some SectionName
    else if id == 97 then Some (Section virtual_address)
    else if id == 98 then Some (Section virtual_size)
    else if id == 99 then Some (Section raw_data_offset)
    else if id == 100 then Some (Section raw_data_size)
    else if id == 101 then Some (Section section_characteristics)
    else None

-- the field with an id
abbrev pub field_with : ℕ → Option Field
field_with id = option_or (file_field id) (section_field id)

-- a field's row lies inside its header
abbrev pub IsWithin : Field → Type 0
IsWithin (Header r) = LiesInside header_size r
IsWithin (Section r) = LiesInside section_size r
IsWithin f = Unit {0}

abbrev pub number_value : Option ℕ → Value
number_value None = Undefined
number_value (Some n) = Number (pos n)

abbrev pub text_value : Option (List ℕ) → Value
text_value None = Undefined
text_value (Some t) = Text t

-- the value of a field in a file whose signature stands at p
abbrev pub value_in : List ℕ → ℕ → ℤ → Field → Value
value_in file p index (Header r) = number_value (Some (number_in file p r))
value_in file p index EntryPoint = number_value (entry_point file p)
value_in file p index SectionName = text_value (option_map (name_at file) (indexed_place file p index))
value_in file p index (Section r) = number_value (number_by file r (indexed_place file p index))

-- undefined where the file is no PE file
abbrev pub value_with : Option ℕ → List ℕ → ℤ → Field → Value
value_with None file index f = Undefined
value_with (Some p) file index f = value_in file p index f

-- the value of the field with an id: another field's is what is given for it
abbrev pub field_or : Option Field → List ℕ → ℤ → Value → Value
field_or None file index other = other
field_or (Some f) file index other = value_with (header_place file) file index f

-- the kind of a field, and of the field with an id
abbrev pub kind_in : Field → Kind
kind_in SectionName = kind.Text
kind_in f = kind.Number

abbrev pub kind_or : Option Field → Option Kind → Option Kind
kind_or None other = other
kind_or (Some f) other = Some (kind_in f)
