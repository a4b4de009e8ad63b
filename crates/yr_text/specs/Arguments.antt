-- The arguments of modifiers: the keys of `xor`, the alphabets of `base64` and `base64wide` (RFC 4648, section 4).
use Rattle.std.specs.Prelude.{ℕ, ℤ, pos, negsuc, Bool, true, false, ◌==◌, nat_lt, nat_le, if◌then◌else◌, List, [], ◌∷◌, length, codes, Option, Some, None}
use Rattle.std.specs.Option.{option_or}
use Rattle.yr_syntax.specs.Declaration.{ModifierTree, NoCase, Wide, Ascii, FullWord, Hidden, Xor, Base64, Base64Wide}

-- a number as a byte, where it is one
abbrev pub byte_of : ℤ → Option ℕ
byte_of (pos n) = if nat_lt n 256 then Some n else None
byte_of (negsuc n) = None

-- the first and the last key, where both are bytes and the first is not above the last
abbrev pub keys_between : Option ℕ → Option ℕ → Option (ℕ × ℕ)
keys_between None high = None
keys_between (Some low) None = None
keys_between (Some low) (Some high) = if nat_le low high then Some (low, high) else None

-- the alphabet that stands where none is written
abbrev pub usual_alphabet : List ℕ
usual_alphabet = codes "ABCDEFGHIJKLMNOPQRSTUVWXYZabcdefghijklmnopqrstuvwxyz0123456789+/"

-- the alphabet that is meant, where it has 64 bytes
abbrev pub alphabet_meant : Option (List ℕ) → Option (List ℕ)
alphabet_meant None = Some usual_alphabet
alphabet_meant (Some bytes) = if length bytes == 64 then Some bytes else None

-- the keys that a modifier names: None where it is no `xor`, Some None where they are no range of bytes
abbrev pub keys_of : ModifierTree → Option (Option (ℕ × ℕ))
keys_of NoCase = None
keys_of Wide = None
keys_of Ascii = None
keys_of FullWord = None
keys_of Hidden = None
keys_of (Xor low high) = Some (keys_between (byte_of low) (byte_of high))
keys_of (Base64 alphabet) = None
keys_of (Base64Wide alphabet) = None

-- the alphabet of `base64`: None where it is another modifier, Some None where it has not 64 bytes
abbrev pub alphabet_of : ModifierTree → Option (Option (List ℕ))
alphabet_of NoCase = None
alphabet_of Wide = None
alphabet_of Ascii = None
alphabet_of FullWord = None
alphabet_of Hidden = None
alphabet_of (Xor low high) = None
alphabet_of (Base64 alphabet) = Some (alphabet_meant alphabet)
alphabet_of (Base64Wide alphabet) = None

-- the alphabet of `base64wide`, likewise
abbrev pub wide_alphabet_of : ModifierTree → Option (Option (List ℕ))
wide_alphabet_of NoCase = None
wide_alphabet_of Wide = None
wide_alphabet_of Ascii = None
wide_alphabet_of FullWord = None
wide_alphabet_of Hidden = None
wide_alphabet_of (Xor low high) = None
wide_alphabet_of (Base64 alphabet) = None
wide_alphabet_of (Base64Wide alphabet) = Some (alphabet_meant alphabet)

-- the keys of the first `xor` in a list
abbrev pub keys_in : List ModifierTree → Option (Option (ℕ × ℕ))
keys_in [] = None
keys_in (m ∷ ms) = option_or (keys_of m) (keys_in ms)

-- the alphabet of the first `base64` in a list
abbrev pub alphabet_in : List ModifierTree → Option (Option (List ℕ))
alphabet_in [] = None
alphabet_in (m ∷ ms) = option_or (alphabet_of m) (alphabet_in ms)

-- the alphabet of the first `base64wide` in a list
abbrev pub wide_alphabet_in : List ModifierTree → Option (Option (List ℕ))
wide_alphabet_in [] = None
wide_alphabet_in (m ∷ ms) = option_or (wide_alphabet_of m) (wide_alphabet_in ms)

-- an argument stands there and is wrong
abbrev pub is_wrong : {A : Type 0} → Option (Option A) → Bool
is_wrong None = false
is_wrong (Some None) = true
is_wrong (Some (Some x)) = false

-- an argument that stands there and is right
abbrev pub right_one : {A : Type 0} → Option (Option A) → Option A
right_one None = None
right_one (Some argument) = argument
