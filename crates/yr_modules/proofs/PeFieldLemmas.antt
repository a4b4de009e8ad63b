-- The values of fields: their kinds, and how long their texts are.
use Rattle.std.proofs.Common.{◌≡◌, ◌≤◌, ℕ, ℤ, List, length, take, drop, Option, None, Some, refl, subst, arith}
use Rattle.std.specs.Option.{option_map}
use Rattle.std.proofs.lemmas.List.{length-take, length-drop}
use Rattle.yr_values.specs.Values.{Value, Undefined, Number, Flag, Text}
use Rattle.yr_values.specs.Modules.{Suits}
use Rattle.yr_modules.specs.declared.pe.field.Field.{Field}
use Rattle.yr_modules.specs.declared.pe.field.Field.TheVariants.{Header, EntryPoint, SectionName, Section}
use Rattle.yr_modules.specs.Pe.Sections.{indexed_place, number_by, name_at}
use Rattle.yr_modules.specs.Pe.EntryPoint.{entry_point}
use Rattle.yr_base.specs.declared.value.Kind.{Kind}
use Rattle.yr_modules.specs.Pe.Header.{header_place}
use Rattle.yr_modules.specs.Pe.Fields.{number_value, text_value, value_in, value_with, field_with, field_or, kind_in, kind_or}
use Rattle.yr_modules.proofs.PeNameLemmas.{before_zero-short}

number_value-suits : (f : Field) (o : Option ℕ) → kind_in f ≡ kind_in EntryPoint → Suits (Some (kind_in EntryPoint)) (number_value o)
number_value-suits f None e = tt
number_value-suits f (Some n) e = tt

text_value-suits : (o : Option (List ℕ)) → Suits (Some (kind_in SectionName)) (text_value o)
text_value-suits None = tt
text_value-suits (Some t) = tt

value_in-suits : (file : List ℕ) (p : ℕ) (index : ℤ) (f : Field) → Suits (Some (kind_in f)) (value_in file p index f)
value_in-suits file p index (Header r) = tt
value_in-suits file p index EntryPoint = number_value-suits EntryPoint (entry_point file p) refl
value_in-suits file p index SectionName = text_value-suits (option_map (name_at file) (indexed_place file p index))
value_in-suits file p index (Section r) = number_value-suits EntryPoint (number_by file r (indexed_place file p index)) refl

pub value-suits : (place : Option ℕ) (file : List ℕ) (index : ℤ) (f : Field) → Suits (Some (kind_in f)) (value_with place file index f)
value-suits None file index f = tt
value-suits (Some p) file index f = value_in-suits file p index f

-- a value is no text of more than n bytes
abbrev IsWithinBytes : ℕ → Value → Type 0
IsWithinBytes n (Text t) = length t ≤ n
IsWithinBytes n v = Unit {0}

number_value-short : (n : ℕ) (o : Option ℕ) → IsWithinBytes n (number_value o)
number_value-short n None = tt
number_value-short n (Some k) = tt

name-short : (file : List ℕ) (at : ℕ) → length (name_at file at) ≤ length file
name-short file at =
    omega (arith, before_zero-short (take 8 (drop at file)), length-take 8 (drop at file), length-drop at file)

name_value-short : (file : List ℕ) (o : Option ℕ) → IsWithinBytes (length file) (text_value (option_map (name_at file) o))
name_value-short file None = tt
name_value-short file (Some at) = name-short file at

value_in-short : (file : List ℕ) (p : ℕ) (index : ℤ) (f : Field) → IsWithinBytes (length file) (value_in file p index f)
value_in-short file p index (Header r) = tt
value_in-short file p index EntryPoint = number_value-short (length file) (entry_point file p)
value_in-short file p index SectionName = name_value-short file (indexed_place file p index)
value_in-short file p index (Section r) = number_value-short (length file) (number_by file r (indexed_place file p index))

value_with-short : (place : Option ℕ) (file : List ℕ) (index : ℤ) (f : Field) → IsWithinBytes (length file) (value_with place file index f)
value_with-short None file index f = tt
value_with-short (Some p) file index f = value_in-short file p index f

pub text-short : (place : Option ℕ) (file text : List ℕ) (index : ℤ) (f : Field) → value_with place file index f ≡ Text text → length text ≤ length file
text-short place file text index f e = subst (IsWithinBytes (length file)) e (value_with-short place file index f)

-- the value of the field with an id, beside those of other modules: its kind, and how long its text is
field_or-suits : (f : Option Field) (file : List ℕ) (index : ℤ) (kind : Option Kind) (v : Value) → Suits kind v → Suits (kind_or f kind) (field_or f file index v)
field_or-suits None file index kind v h = h
field_or-suits (Some f) file index kind v h = value-suits (header_place file) file index f

pub field-suits : (id : ℕ) (file : List ℕ) (index : ℤ) (kind : Option Kind) (v : Value) → Suits kind v → Suits (kind_or (field_with id) kind) (field_or (field_with id) file index v)
field-suits id file index kind v h = field_or-suits (field_with id) file index kind v h

field_or-short : (f : Option Field) (file text : List ℕ) (index : ℤ) (v : Value) → (v ≡ Text text → length text ≤ length file)
    → field_or f file index v ≡ Text text → length text ≤ length file
field_or-short None file text index v h e = h e
field_or-short (Some f) file text index v h e = text-short (header_place file) file text index f e

pub field-short : (id : ℕ) (file text : List ℕ) (index : ℤ) (v : Value) → (v ≡ Text text → length text ≤ length file)
    → field_or (field_with id) file index v ≡ Text text → length text ≤ length file
field-short id file text index v h e = field_or-short (field_with id) file text index v h e
