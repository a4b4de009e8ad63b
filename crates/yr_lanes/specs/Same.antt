-- When two byte strings are the same.
use Rattle.std.specs.Prelude.{ℕ, ◌≡◌, ◌<◌, List, Bool, true, length, slice_index, bit_xor}
use Rattle.std.specs.List.{AllZip}
use Rattle.yr_base.specs.Bytes.{SameLetter}

-- of one length, and each byte of the first under the key is that of the second
abbrev pub SameUnderKey : ℕ → List ℕ → List ℕ → Type 0
SameUnderKey key a b = AllZip (λ x y. bit_xor x key ≡ y) a b

-- of one length, and equal byte by byte but for the case of letters
abbrev pub SameFolded : List ℕ → List ℕ → Type 0
SameFolded a b = AllZip SameLetter a b

-- the bytes agree at each place of the first
abbrev pub AgreesAll : (ℕ → ℕ → Bool) → List ℕ → List ℕ → Type 0
AgreesAll agrees a b = (k : ℕ) → k < length a → agrees (slice_index a k) (slice_index b k) ≡ true
