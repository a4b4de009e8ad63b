-- Numbers as they are written ('Writing YARA rules', 'Conditions').
use Rattle.std.specs.Prelude.{◌≢◌, ℕ, ◌+◌, ◌*◌, ◌<◌, [], ◌∷◌, ◌++◌, All, codes}
use Rattle.yr_lexer.specs.Gaps.{Text}
use Rattle.yr_lexer.specs.Texts.{digit_of}

-- the number whose digits are those of n and these
abbrev pub number_after : ℕ → ℕ → Text → ℕ
number_after base n [] = n
number_after base n (d ∷ ds) = number_after base (base * n + digit_of d) ds

-- the number that digits spell
abbrev pub number_of : ℕ → Text → ℕ
number_of base ds = number_after base 0 ds

-- one digit or more
pub record AreDigits (base : ℕ) (ds : Text) : Type 0 where
  pub some : ds ≢ []
  pub digits : All (λ d. digit_of d < base) ds

-- a number and its value: decimal, perhaps in units of 1024 or 1,048,576 bytes, hexadecimal or octal
pub data IsNumber : Text → ℕ → Type 0 where
  decimal : {ds : Text} → AreDigits 10 ds → IsNumber ds (number_of 10 ds)
  kilobytes : {ds : Text} → AreDigits 10 ds → IsNumber (ds ++ codes "KB") (1024 * number_of 10 ds)
  megabytes : {ds : Text} → AreDigits 10 ds → IsNumber (ds ++ codes "MB") (1048576 * number_of 10 ds)
  hexadecimal : {ds : Text} → AreDigits 16 ds → IsNumber (48 ∷ 120 ∷ ds) (number_of 16 ds)
  octal : {ds : Text} → AreDigits 8 ds → IsNumber (48 ∷ 111 ∷ ds) (number_of 8 ds)
