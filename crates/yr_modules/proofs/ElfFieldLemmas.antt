-- Fields have values of their kinds, and texts that are not longer than the file.
use Rattle.std.proofs.Common.{◌≡◌, ◌≤◌, ℕ, ℤ, List, length, Option, None, Some, refl, subst}
use Rattle.std.specs.Option.{option_map}
use Rattle.yr_base.specs.declared.value.Kind.TheVariants as kind
use Rattle.yr_values.specs.Values.{Value, Undefined, Text}
use Rattle.yr_values.specs.Modules.{Suits}
use Rattle.yr_modules.specs.declared.elf.layout.Layout.{Layout}
use Rattle.yr_modules.specs.declared.elf.field.Field.{Field}
use Rattle.yr_modules.specs.declared.elf.field.Field.TheVariants.{Header, EntryPoint, SectionName, Section, Segment}
use Rattle.yr_modules.specs.Elf.Rows.{number_at}
use Rattle.yr_modules.specs.Elf.Entries.{section_place, segment_place}
use Rattle.yr_modules.specs.Elf.Names.{section_name}
use Rattle.yr_modules.specs.Elf.EntryPoint.{entry_point}
use Rattle.std.specs.Prelude.{IfSome, IsSome}
use Rattle.yr_modules.specs.Elf.Layout.{layout_of, IsElf}
use Rattle.yr_modules.proofs.ElfNameLemmas.{section_name-short}
use Rattle.yr_modules.specs.Elf.Fields.{field_with, number_value, text_value, value_in, value_with, elf_field, kind_in, elf_kind}

number_value-suits : (n : Option ℕ) → Suits (Some kind.Number) (number_value n)
number_value-suits None = tt
number_value-suits (Some n) = tt

text_value-suits : (t : Option (List ℕ)) → Suits (Some kind.Text) (text_value t)
text_value-suits None = tt
text_value-suits (Some t) = tt

-- the value of a field is of the field's kind
value_in-suits : (l : Layout) (file : List ℕ) (index : ℤ) (f : Field) → Suits (Some (kind_in f)) (value_in l file index f)
value_in-suits l file index (Header r) = tt
value_in-suits l file index EntryPoint = number_value-suits (entry_point l file)
value_in-suits l file index SectionName = text_value-suits (section_name l file index)
value_in-suits l file index (Section r) = number_value-suits (number_at l file r (section_place l file index))
value_in-suits l file index (Segment r) = number_value-suits (number_at l file r (segment_place l file index))

-- the same by an id
pub value-suits : (l : Layout) (file : List ℕ) (index : ℤ) (id : ℕ) (f : Field) → Some f ≡ field_with id → Suits (elf_kind id) (value_in l file index f)
value-suits l file index id f e =
    subst (λ (o : Option Field). Suits (option_map kind_in o) (value_in l file index f)) e (value_in-suits l file index f)

value_with-suits : (l : Option Layout) (file : List ℕ) (index : ℤ) (f : Option Field) → Suits (option_map kind_in f) (value_with l file index f)
value_with-suits None file index None = refl
value_with-suits (Some l) file index None = refl
value_with-suits None file index (Some f) = tt
value_with-suits (Some l) file index (Some f) = value_in-suits l file index f

pub elf_field-suits : (file : List ℕ) (id : ℕ) (index : ℤ) → Suits (elf_kind id) (elf_field file id index)
elf_field-suits file id index = value_with-suits (layout_of file) file index (field_with id)

-- in a file that is no ELF file each field is undefined
value_with-none : (l : Option Layout) (file : List ℕ) (index : ℤ) (f : Option Field) → ¬ IsSome l → value_with l file index f ≡ Undefined
value_with-none None file index f h = refl
value_with-none (Some l) file index f h = absurd (h refl)

pub elf_field-none : (file : List ℕ) (id : ℕ) (index : ℤ) → ¬ IsElf file → elf_field file id index ≡ Undefined
elf_field-none file id index h = value_with-none (layout_of file) file index (field_with id) h

-- a value is no text of more than n bytes
abbrev IsWithinBytes : ℕ → Value → Type 0
IsWithinBytes n (Text t) = length t ≤ n
IsWithinBytes n v = Unit {0}

number_value-short : (n : ℕ) (o : Option ℕ) → IsWithinBytes n (number_value o)
number_value-short n None = tt
number_value-short n (Some k) = tt

text_value-short : (n : ℕ) (o : Option (List ℕ)) → IfSome o (λ t. length t ≤ n) → IsWithinBytes n (text_value o)
text_value-short n None h = tt
text_value-short n (Some t) h = h

value_in-short : (l : Layout) (file : List ℕ) (index : ℤ) (f : Field) → IsWithinBytes (length file) (value_in l file index f)
value_in-short l file index (Header r) = tt
value_in-short l file index EntryPoint = number_value-short (length file) (entry_point l file)
value_in-short l file index SectionName = text_value-short (length file) (section_name l file index) (section_name-short l file index)
value_in-short l file index (Section r) = number_value-short (length file) (number_at l file r (section_place l file index))
value_in-short l file index (Segment r) = number_value-short (length file) (number_at l file r (segment_place l file index))

value_with-short : (l : Option Layout) (file : List ℕ) (index : ℤ) (f : Option Field) → IsWithinBytes (length file) (value_with l file index f)
value_with-short None file index f = tt
value_with-short (Some l) file index None = tt
value_with-short (Some l) file index (Some f) = value_in-short l file index f

pub elf_field-short : (file text : List ℕ) (id : ℕ) (index : ℤ) → elf_field file id index ≡ Text text → length text ≤ length file
elf_field-short file text id index e =
    subst (IsWithinBytes (length file)) e (value_with-short (layout_of file) file index (field_with id))
