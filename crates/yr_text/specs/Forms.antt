-- The forms of a text string ('Writing YARA rules', 'Wide-character strings', 'Searching for full words').
use Rattle.std.specs.Prelude.{ℕ, not, ◌||◌, if◌then◌else◌, List, [], ◌∷◌, ◌++◌}
use Rattle.std.specs.List.{flat_map}
use Rattle.yr_base.specs.declared.border.Border.{Border}
use Rattle.yr_base.specs.declared.border.Border.TheVariants as border
use Rattle.yr_text.specs.declared.form.Form as code
use Rattle.yr_text.specs.declared.modifiers.Modifiers.{Modifiers}

-- a form: bytes, and what must stand beside them
pub record PlainForm : Type 0 where
  pub bytes : List ℕ
  pub border : Border

-- the plain data of a form
abbrev pub form_of : code.Form → PlainForm
form_of f = record { bytes = f.bytes.items; border = f.border }

-- a byte and a zero byte
abbrev pub with_zero : ℕ → List ℕ
with_zero b = b ∷ 0 ∷ []

-- a zero byte after each byte
abbrev pub widened : List ℕ → List ℕ
widened bytes = flat_map with_zero bytes

-- the border of the plain form
abbrev pub plain_border : Modifiers → Border
plain_border m = if m.full then border.Plain else border.Free

-- the border of the wide form
abbrev pub wide_border : Modifiers → Border
wide_border m = if m.full then border.Wide else border.Free

-- the bytes as they are, where `ascii` stands or `wide` does not
abbrev pub plain_form : List ℕ → Modifiers → List PlainForm
plain_form bytes m = if m.ascii || not m.wide then record { bytes = bytes; border = plain_border m } ∷ [] else []

-- the widened bytes, where `wide` stands
abbrev pub wide_form : List ℕ → Modifiers → List PlainForm
wide_form bytes m = if m.wide then record { bytes = widened bytes; border = wide_border m } ∷ [] else []

-- the plain form before the wide one
abbrev pub forms_of : List ℕ → Modifiers → List PlainForm
forms_of bytes m = plain_form bytes m ++ wide_form bytes m
