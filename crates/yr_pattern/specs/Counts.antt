-- Where a variant counts: a span of its body that is not empty, with its borders ('Writing YARA rules', Searching for full words, XOR strings).
use Rattle.std.specs.Prelude.{◌≡◌, ℕ, ◌+◌, ◌<◌, Bool, true, false, List, [], ◌∷◌, length, slice_index, bit_xor}
use Rattle.yr_base.specs.Bytes.{SameLetter}
use Rattle.yr_base.specs.Places.{has_left_border, has_right_border}
use Rattle.yr_pattern.specs.Spans.{Spans}
use Rattle.yr_pattern.specs.Variants.{Body, Literal, Shape, PlainVariant}

-- a byte of the file, by exclusive or with the key, is this byte of the literal, in either case where it folds
abbrev pub IsReadAs : (key : ℕ) → (fold : Bool) → ℕ → ℕ → Type 0
IsReadAs key true b c = SameLetter (bit_xor b key) c
IsReadAs key false b c = bit_xor b key ≡ c

-- these bytes stand in the file from a place on, each read by `same`
abbrev pub StandsAt : (ℕ → ℕ → Type 0) → List ℕ → ℕ → List ℕ → Type 0
StandsAt same file at [] = Unit {0}
StandsAt same file at (c ∷ cs) = (at < length file) × same (slice_index file at) c × StandsAt same file (at + 1) cs

-- the body spans the places i to j of the file
abbrev pub BodySpans : Body → List ℕ → ℕ → ℕ → Type 0
BodySpans (Literal bytes key fold) file i j = (j ≡ i + length bytes) × StandsAt (IsReadAs key fold) file i bytes
BodySpans (Shape tree) file i j = Spans tree file i j

-- the variant counts from i to j of the file
pub record Counts (variant : PlainVariant) (file : List ℕ) (i j : ℕ) : Type 0 where
  pub longer : i < j
  pub spans : BodySpans variant.body file i j
  pub begins : has_left_border variant.border file i ≡ true
  pub ends : has_right_border variant.border file j ≡ true
