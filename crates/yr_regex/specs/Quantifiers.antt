-- Quantifiers of regular expressions.
use Rattle.std.specs.Prelude.{◌≡◌, ℕ, ◌+◌, ◌-◌, ◌*◌, Bool, true, false, [], ◌∷◌, Option, Some, None}
use Rattle.yr_base.specs.Bytes.{is_digit}
use Rattle.yr_regex.specs.Escapes.{Text}

-- a digit stands in front
abbrev pub begins_digit : Text → Bool
begins_digit [] = false
begins_digit (b ∷ t) = is_digit b

-- the digits in front, which make of the number before them this one
pub data Digits : ℕ → Text → ℕ → Text → Type 0 where
  end : {n : ℕ} {t : Text} → begins_digit t ≡ false → Digits n t n t
  digit : {n b v : ℕ} {t rest : Text} → is_digit b ≡ true → Digits (10 * n + (b - 48)) t v rest → Digits n (b ∷ t) v rest

-- one or more digits
pub data Number : Text → ℕ → Text → Type 0 where
  number : {b v : ℕ} {t rest : Text} → is_digit b ≡ true → Digits (b - 48) t v rest → Number (b ∷ t) v rest

-- `*`, `+`, `?`, `{n}`, `{n,}`, `{,m}` or `{n,m}`: how many at least, how many at most, and whether it is `{n}`
pub data ReadsQuantifier : Text → ℕ → Option ℕ → Bool → Text → Type 0 where
  star : {rest : Text} → ReadsQuantifier (42 ∷ rest) 0 None false rest
  plus : {rest : Text} → ReadsQuantifier (43 ∷ rest) 1 None false rest
  maybe : {rest : Text} → ReadsQuantifier (63 ∷ rest) 0 (Some 1) false rest
  exactly : {n : ℕ} {t rest : Text} → Number t n (125 ∷ rest) → ReadsQuantifier (123 ∷ t) n (Some n) true rest
  from : {n : ℕ} {t rest : Text} → Number t n (44 ∷ 125 ∷ rest) → ReadsQuantifier (123 ∷ t) n None false rest
  up_to : {m : ℕ} {t rest : Text} → Number t m (125 ∷ rest) → ReadsQuantifier (123 ∷ 44 ∷ t) 0 (Some m) false rest
  between : {n m : ℕ} {t u rest : Text} → Number t n (44 ∷ u) → Number u m (125 ∷ rest) → ReadsQuantifier (123 ∷ t) n (Some m) false rest

-- no quantifier begins here
abbrev pub BeginsNone : Text → Type 0
BeginsNone t = (least : ℕ) (most : Option ℕ) (exact : Bool) (rest : Text) → ¬ ReadsQuantifier t least most exact rest
