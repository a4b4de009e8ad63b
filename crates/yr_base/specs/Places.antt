-- What stands beside a place of a file: the edges of words, and the borders of a whole word.
use Rattle.std.specs.Prelude.{ℕ, zero, suc, ◌+◌, Bool, true, false, not, ◌&&◌, if◌then◌else◌, List, slice_get}
use Rattle.std.specs.Option.{option_map_or}
use Rattle.yr_base.specs.Bytes.{is_word_byte, is_alphanumeric, is_zero}
use Rattle.yr_base.specs.declared.border.Border.{Border}
use Rattle.yr_base.specs.declared.border.Border.TheVariants as border

-- the byte at a place is in the file and of this class
abbrev pub byte_is : (ℕ → Bool) → List ℕ → ℕ → Bool
byte_is class file i = option_map_or class (slice_get file i) false

-- the byte before a place is in the file and of this class
abbrev pub byte_before_is : (ℕ → Bool) → List ℕ → ℕ → Bool
byte_before_is class file zero = false
byte_before_is class file (suc i) = byte_is class file i

-- the two bytes from a place on lie in the file, the first of this class and the second 00
abbrev pub pair_is : (ℕ → Bool) → List ℕ → ℕ → Bool
pair_is class file i = byte_is class file i && byte_is is_zero file (i + 1)

-- the two bytes before a place are such a pair
abbrev pub pair_before_is : (ℕ → Bool) → List ℕ → ℕ → Bool
pair_before_is class file zero = false
pair_before_is class file (suc zero) = false
pair_before_is class file (suc (suc i)) = pair_is class file i

abbrev pub exactly_one : Bool → Bool → Bool
exactly_one a b = if a then not b else b

-- a word begins or ends at the place
abbrev pub is_edge : List ℕ → ℕ → Bool
is_edge file i = exactly_one (byte_before_is is_word_byte file i) (byte_is is_word_byte file i)

-- the same for text of two bytes a letter
abbrev pub is_wide_edge : List ℕ → ℕ → Bool
is_wide_edge file i = exactly_one (pair_before_is is_word_byte file i) (pair_is is_word_byte file i)

-- no letter or digit stands before the place
abbrev pub has_left_border : Border → List ℕ → ℕ → Bool
has_left_border border.Free file i = true
has_left_border border.Plain file i = not (byte_before_is is_alphanumeric file i)
has_left_border border.Wide file i = not (pair_before_is is_alphanumeric file i)

-- no letter or digit stands at the place
abbrev pub has_right_border : Border → List ℕ → ℕ → Bool
has_right_border border.Free file j = true
has_right_border border.Plain file j = not (byte_is is_alphanumeric file j)
has_right_border border.Wide file j = not (pair_is is_alphanumeric file j)
