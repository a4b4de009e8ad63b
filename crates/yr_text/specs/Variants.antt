-- The variants of a text string ('Writing YARA rules', 'Text strings'): its forms under each key, in base64, or as they are.
use Rattle.std.specs.Prelude.{ℕ, ◌+◌, ◌-◌, Bool, true, false, ◌||◌, nat_lt, if◌then◌else◌, List, [], ◌∷◌, ◌++◌, length, map, Option, Some, None, is_some}
use Rattle.std.specs.List.{flat_map, range_with_len}
use Rattle.yr_base.specs.declared.border.Border.{Border}
use Rattle.yr_pattern.specs.Variants.{PlainVariant, Literal, IsSoundBody}
use Rattle.yr_text.specs.declared.modifiers.Modifiers.{Modifiers}
use Rattle.yr_text.specs.Forms.{PlainForm, forms_of, widened}
use Rattle.yr_text.specs.Encoding.{encoded}

-- a variant that looks for bytes
abbrev pub literal : List ℕ → ℕ → Bool → Border → PlainVariant
literal bytes key fold border = record { body = Literal bytes key fold; border = border }

-- a form under a key
abbrev pub keyed : PlainForm → ℕ → PlainVariant
keyed form key = literal form.bytes key false form.border

-- a form under each key from the first to the last
abbrev pub under_keys : PlainForm → ℕ → ℕ → List PlainVariant
under_keys form low high = map (keyed form) (range_with_len low (high + 1 - low))

-- a form under each key of `xor`; without it as it is, with `nocase` in either case of letters
abbrev pub literals_of : Option (ℕ × ℕ) → Bool → PlainForm → List PlainVariant
literals_of None nocase form = literal form.bytes 0 nocase form.border ∷ []
literals_of (Some keys) nocase form = under_keys form keys.0 keys.1

-- the variants of forms without base64
abbrev pub literals : Modifiers → List PlainForm → List PlainVariant
literals m forms = if is_some m.base64 || is_some m.base64wide then [] else flat_map (literals_of m.xor m.nocase) forms

-- a variant for a text that has a byte
abbrev pub unless_empty : List ℕ → Border → List PlainVariant
unless_empty text border = if nat_lt 0 (length text) then literal text 0 false border ∷ [] else []

-- a text, widened where it is to be
abbrev pub spread : Bool → List ℕ → List ℕ
spread wide text = if wide then widened text else text

-- a form in base64, after p unknown bytes
abbrev pub aligned : List ℕ → Bool → PlainForm → ℕ → List PlainVariant
aligned alphabet wide form p = unless_empty (spread wide (encoded alphabet form.bytes p)) form.border

-- a form in base64 at its three alignments
abbrev pub alignments : List ℕ → Bool → PlainForm → List PlainVariant
alignments alphabet wide form = aligned alphabet wide form 0 ++ aligned alphabet wide form 1 ++ aligned alphabet wide form 2

-- forms in base64, where there is an alphabet
abbrev pub encodings : Option (List ℕ) → Bool → List PlainForm → List PlainVariant
encodings None wide forms = []
encodings (Some alphabet) wide forms = flat_map (alignments alphabet wide) forms

-- all of base64 before all of base64wide
abbrev pub variants_of : List ℕ → Modifiers → List PlainVariant
variants_of bytes m =
    literals m (forms_of bytes m) ++ encodings m.base64 false (forms_of bytes m) ++ encodings m.base64wide true (forms_of bytes m)

-- its body is sound
abbrev pub IsSound : PlainVariant → Type 0
IsSound v = IsSoundBody v.body
