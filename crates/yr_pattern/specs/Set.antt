-- Which bytes a set has. A class of bytes is a test of numbers, as in `Bytes`.
use Rattle.std.specs.Prelude.{◌≡◌, ℕ, ◌+◌, ◌*◌, ◌/◌, ◌%◌, ◌<◌, Bool, true, false, not, ◌||◌, ◌&&◌, ◌==◌, ◌-◌, if◌then◌else◌, nat_lt, slice_index, List}
use Rattle.std.specs.Int.{bit_at}
use Rattle.yr_base.specs.Bytes.{is_lower, lowered}
use Rattle.yr_pattern.specs.declared.byte_set.ByteSet.{ByteSet}

-- byte b is bit b mod 8 of byte b div 8
abbrev pub has_bit : List ℕ → ℕ → Bool
has_bit bits b = bit_at (slice_index bits (b / 8)) (b % 8) == 1

-- a byte of a set that has this class, the one at a place: each of its bits says whether the class has its number
abbrev pub HasBits : (ℕ → Bool) → ℕ → ℕ → Type 0
HasBits class place bits = (i : ℕ) → i < 8 → (bit_at bits i == 1) ≡ class (8 * place + i)

-- the class of the bytes that a set has
abbrev pub bytes_of : ByteSet → ℕ → Bool
bytes_of set b = has_bit set.bits b

-- a class has this byte
abbrev pub Has : (ℕ → Bool) → ℕ → Type 0
Has bytes b = bytes b ≡ true

-- no byte
abbrev pub no_byte : ℕ → Bool
no_byte b = false

-- one byte
abbrev pub only : ℕ → ℕ → Bool
only a b = b == a

-- what one of the two has
abbrev pub either : (ℕ → Bool) → (ℕ → Bool) → ℕ → Bool
either left right b = left b || right b

-- every byte that it has not
abbrev pub all_but : (ℕ → Bool) → ℕ → Bool
all_but bytes b = nat_lt b 256 && not (bytes b)

-- a small letter as its capital one, every other byte as it is
abbrev pub raised : ℕ → ℕ
raised b = if is_lower b then b - 32 else b

-- every byte
abbrev pub any_byte : ℕ → Bool
any_byte = all_but no_byte

-- each letter that it has in one case, in both
abbrev pub in_either_case : (ℕ → Bool) → ℕ → Bool
in_either_case bytes b = bytes (lowered b) || bytes (raised b)
