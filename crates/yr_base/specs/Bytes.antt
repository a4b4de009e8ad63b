-- Classes of bytes, and ASCII letter case.
use Rattle.std.specs.Prelude.{ℕ, ◌≡◌, ◌+◌, ◌<◌, Bool, ◌||◌, ◌&&◌, ◌==◌, nat_le, if◌then◌else◌, List, All}

abbrev pub is_digit : ℕ → Bool
is_digit b = nat_le 48 b && nat_le b 57

abbrev pub is_upper : ℕ → Bool
is_upper b = nat_le 65 b && nat_le b 90

abbrev pub is_lower : ℕ → Bool
is_lower b = nat_le 97 b && nat_le b 122

abbrev pub is_letter : ℕ → Bool
is_letter b = is_upper b || is_lower b

-- a letter or a digit
abbrev pub is_alphanumeric : ℕ → Bool
is_alphanumeric b = is_letter b || is_digit b

-- what a word begins with: a letter or `_`
abbrev pub is_word_start : ℕ → Bool
is_word_start b = is_letter b || b == 95

-- what a word goes on with: a letter, a digit or `_`
abbrev pub is_word_byte : ℕ → Bool
is_word_byte b = is_word_start b || is_digit b

-- a space, a tab, a carriage return or a line feed
abbrev pub is_blank : ℕ → Bool
is_blank b = b == 32 || b == 9 || b == 13 || b == 10

-- a capital letter as its small one, every other byte as it is
abbrev pub lowered : ℕ → ℕ
lowered b = if is_upper b then b + 32 else b

abbrev pub is_zero : ℕ → Bool
is_zero b = b == 0

-- equal but for the case of letters
abbrev pub SameLetter : ℕ → ℕ → Type 0
SameLetter a b = lowered a ≡ lowered b

abbrev pub IsByte : ℕ → Type 0
IsByte b = b < 256

-- a list of bytes
abbrev pub AreBytes : List ℕ → Type 0
AreBytes bytes = All IsByte bytes
