-- Bytes, escapes and sets of regular expressions ('Writing YARA rules', Regular expressions). Each relation says that something stands at the front of a text, and what follows it.
use Rattle.std.specs.Prelude.{◌≡◌, ℕ, ◌+◌, ◌-◌, ◌*◌, Bool, ◌&&◌, ◌||◌, ◌==◌, nat_le, if◌then◌else◌, List, ◌∷◌, Option, Some, None}
use Rattle.yr_base.specs.Bytes.{is_digit}
use Rattle.yr_pattern.specs.Set.{all_but, either, only}

-- bytes
abbrev pub Text : Type 0
Text = List ℕ

-- one of `\ ^ $ . | ( ) [ * + ?`
abbrev pub is_sign : ℕ → Bool
is_sign b = b == 92 || b == 94 || b == 36 || b == 46 || b == 124 || b == 40 || b == 41 || b == 91 || b == 42 || b == 43 || b == 63

-- a hex digit of either case
abbrev pub hex_digit : ℕ → Option ℕ
hex_digit b = if is_digit b then Some (b - 48)
    else if nat_le 65 b && nat_le b 70 then Some (b - 55)
    else if nat_le 97 b && nat_le b 102 then Some (b - 87)
    else None

-- a digit, or one of `x w W s S d D b B`
abbrev pub is_kept : ℕ → Bool
is_kept c = is_digit c || c == 120 || c == 119 || c == 87 || c == 115 || c == 83 || c == 100 || c == 68 || c == 98 || c == 66

-- the byte that `\` and this one stand for: `t n r f a` for 09, 0a, 0d, 0c and 07, any other but those for itself
abbrev pub escaped : ℕ → Option ℕ
escaped c = if c == 116 then Some 9
    else if c == 110 then Some 10
    else if c == 114 then Some 13
    else if c == 102 then Some 12
    else if c == 97 then Some 7
    else if is_kept c then None
    else Some c

-- the bytes from one to another
abbrev pub between : ℕ → ℕ → ℕ → Bool
between from to b = nat_le from b && nat_le b to

-- letters, digits and `_`
abbrev pub word : ℕ → Bool
word = either (either (either (between 65 90) (between 97 122)) (only 95)) (between 48 57)

-- 09 to 0d, and 20
abbrev pub space : ℕ → Bool
space = either (between 9 13) (only 32)

-- 0 to 9
abbrev pub decimal : ℕ → Bool
decimal = between 48 57

-- the set that `\` and one of `w W s S d D` stand for
abbrev pub kind : ℕ → Option (ℕ → Bool)
kind c = if c == 119 then Some word
    else if c == 87 then Some (all_but word)
    else if c == 115 then Some space
    else if c == 83 then Some (all_but space)
    else if c == 100 then Some decimal
    else if c == 68 then Some (all_but decimal)
    else None

-- a byte written with `\`: by a letter or as itself, or by `x` and two hex digits
pub data ReadsEscape : Text → ℕ → Text → Type 0 where
  letter : {c b : ℕ} {rest : Text} → escaped c ≡ Some b → ReadsEscape (92 ∷ c ∷ rest) b rest
  number : {h l high low : ℕ} {rest : Text} → hex_digit h ≡ Some high → hex_digit l ≡ Some low → ReadsEscape (92 ∷ 120 ∷ h ∷ l ∷ rest) (16 * high + low) rest
