-- What the variants of a text add up to, by the number of its bytes alone, for a measure of sizes.
use Rattle.std.specs.Prelude.{◌≡◌, ℕ, zero, suc, ◌+◌, ◌-◌, ◌*◌, ◌/◌, ◌^◌, min, ◌||◌, not, Bool, true, false, Option, Some, None, is_some, if◌then◌else◌, nat_lt}
use Rattle.yr_text.specs.declared.modifiers.Modifiers.{Modifiers}
use Rattle.yr_checks.specs.Patterns.{is_large}
use Rattle.yr_checking.specs.declared.text_sizes.Tally.{Tally}

-- so many letters of base64 are not whole after some unknown bytes
abbrev pub unknown_letters : ℕ → ℕ
unknown_letters zero = 0
unknown_letters (suc zero) = 2
unknown_letters (suc (suc p)) = 3

-- so many letters stand for so many bytes after p unknown ones
abbrev pub letters : ℕ → ℕ → ℕ
letters size p = (8 * p + 8 * size) / 6 - unknown_letters p

-- a text without a byte gives no variant
abbrev pub unless_none : (ℕ → ℕ) → ℕ → ℕ
unless_none g size = if nat_lt 0 size then g size else 0

-- a form in base64 after p unknown bytes
abbrev pub aligned_sum : (ℕ → ℕ) → Bool → ℕ → ℕ → ℕ
aligned_sum g wide size p = unless_none g (if wide then 2 * letters size p else letters size p)

-- a form in base64, where there is an alphabet
abbrev pub encodings_sum : (ℕ → ℕ) → Bool → Bool → ℕ → ℕ
encodings_sum g false wide size = 0
encodings_sum g true wide size = aligned_sum g wide size 0 + aligned_sum g wide size 1 + aligned_sum g wide size 2

-- how many keys a form has
abbrev pub key_count : Option (ℕ × ℕ) → ℕ
key_count None = 1
key_count (Some keys) = keys.1 + 1 - keys.0

-- a form under its keys
abbrev pub literals_sum : (ℕ → ℕ) → Modifiers → ℕ → ℕ
literals_sum g m size = if is_some m.base64 || is_some m.base64wide then 0 else key_count m.xor * g size

-- a form
abbrev pub form_sum : (ℕ → ℕ) → Modifiers → ℕ → ℕ
form_sum g m size = literals_sum g m size + encodings_sum g (is_some m.base64) false size + encodings_sum g (is_some m.base64wide) true size

-- a text
abbrev pub text_sum : (ℕ → ℕ) → Modifiers → ℕ → ℕ
text_sum g m size = (if m.ascii || not m.wide then form_sum g m size else 0) + (if m.wide then form_sum g m (2 * size) else 0)

-- what a variant of this size weighs, and one for each that is too large
abbrev pub literal_weight : ℕ → ℕ
literal_weight size = 64 + size

abbrev pub large_count : ℕ → ℕ
large_count size = if is_large size then 1 else 0

-- the tally of what adds up to this for each measure
pub record IsTally (t : Tally) (sum : (ℕ → ℕ) → ℕ) : Type 0 where
  pub weight : t.weight ≡ min (sum literal_weight) (2 ^ 128 - 1)
  pub large : t.large ≡ nat_lt 0 (sum large_count)
