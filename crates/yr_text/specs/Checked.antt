-- The faults of a list of modifiers, in their order, and what a list without faults says.
use Rattle.std.specs.Prelude.{ℕ, ◌≡◌, ◌≤◌, Bool, true, false, ◌||◌, ◌&&◌, if◌then◌else◌, List, [], ◌∷◌, Some, None, is_some, Result, Ok, Err}
use Rattle.yr_syntax.specs.declared.modifier.StringKind.{StringKind}
use Rattle.yr_syntax.specs.declared.modifier.StringKind.TheVariants as kind
use Rattle.yr_syntax.specs.Declaration.{ModifierTree}
use Rattle.yr_text.specs.declared.name.Name.{Name}
use Rattle.yr_text.specs.declared.name.Name.TheVariants as name
use Rattle.yr_text.specs.declared.fault.ModifierFault.{ModifierFault}
use Rattle.yr_text.specs.declared.fault.ModifierFault.TheVariants as fault
use Rattle.yr_text.specs.declared.modifiers.Modifiers.{Modifiers}
use Rattle.yr_text.specs.Names.{stands, stands_some, is_some_repeated}
use Rattle.yr_text.specs.Arguments.{keys_in, alphabet_in, wide_alphabet_in, is_wrong, right_one}

-- every name
abbrev pub all_names : List Name
all_names = name.NoCase ∷ name.Wide ∷ name.Ascii ∷ name.FullWord ∷ name.Hidden ∷ name.Xor ∷ name.Base64 ∷ name.Base64Wide ∷ []

-- the names that a string of this kind does not take
abbrev pub foreign_names : StringKind → List Name
foreign_names kind.Text = []
foreign_names kind.Hex = name.NoCase ∷ name.Wide ∷ name.Ascii ∷ name.FullWord ∷ name.Xor ∷ name.Base64 ∷ name.Base64Wide ∷ []
foreign_names kind.Regex = name.Xor ∷ name.Base64 ∷ name.Base64Wide ∷ []

abbrev pub base64_names : List Name
base64_names = name.Base64 ∷ name.Base64Wide ∷ []

-- `nocase` beside `xor` or a base64, `fullword` beside a base64, or `xor` beside a base64
abbrev pub has_excluded : List ModifierTree → Bool
has_excluded modifiers =
    stands modifiers name.NoCase && stands_some (name.Xor ∷ name.Base64 ∷ name.Base64Wide ∷ []) modifiers
    || stands modifiers name.FullWord && stands_some base64_names modifiers
    || stands modifiers name.Xor && stands_some base64_names modifiers

-- what the modifiers of a list say
abbrev pub said_by : List ModifierTree → Modifiers
said_by modifiers = record {
  nocase = stands modifiers name.NoCase;
  wide = stands modifiers name.Wide;
  ascii = stands modifiers name.Ascii;
  full = stands modifiers name.FullWord;
  hidden = stands modifiers name.Hidden;
  xor = right_one (keys_in modifiers);
  base64 = right_one (alphabet_in modifiers);
  base64wide = right_one (wide_alphabet_in modifiers);
}

-- the first fault that holds; where there is none, what the list says
abbrev pub checked : List ModifierTree → StringKind → Result Modifiers ModifierFault
checked modifiers string_kind =
    if is_some_repeated all_names modifiers then Err fault.Repeated
    else if stands_some (foreign_names string_kind) modifiers then Err fault.WrongKind
    else if has_excluded modifiers then Err fault.Excluded
    else if is_wrong (keys_in modifiers) then Err fault.BadRange
    else if is_wrong (alphabet_in modifiers) || is_wrong (wide_alphabet_in modifiers) then Err fault.BadAlphabet
    else Ok (said_by modifiers)

-- modifiers that may stand together: `xor` beside no `nocase` and no base64, a base64 beside no `nocase` and no `fullword`; keys rise
pub record Agree (m : Modifiers) : Type 0 where
  pub xor_alone : is_some m.xor ≡ true → (m.nocase ≡ false) × (m.base64 ≡ None) × (m.base64wide ≡ None)
  pub base64_alone : (is_some m.base64 || is_some m.base64wide) ≡ true → (m.nocase ≡ false) × (m.full ≡ false)
  pub rising : (low high : ℕ) → m.xor ≡ Some (low, high) → low ≤ high
