-- The twelve readers of numbers in a file.
use Rattle.std.specs.Prelude.{ℕ, ◌+◌, ℤ, pos, negsuc, List, length, slice_range, nat_le, if◌then◌else◌, Option, None, Some}
use Rattle.std.specs.Int.{w8, w16, w32, cast_signed}
use Rattle.byteorder.specs.Endian.{little_number, big_number}
use Rattle.yr_values.specs.Values.{Value, Number}
use Rattle.yr_values.specs.Operators.{of_one}

-- the n bytes from a place on, where they lie in the file
abbrev pub bytes_from : ℕ → List ℕ → ℤ → Option (List ℕ)
bytes_from n file (pos at) = if nat_le (at + n) (length file) then Some (slice_range file at (at + n)) else None
bytes_from n file (negsuc at) = None

-- the same, where a value is a place
abbrev pub bytes_at : ℕ → List ℕ → Value → Option (List ℕ)
bytes_at n file (Number at) = bytes_from n file at
bytes_at n file v = None

-- what n bytes from a place on read as; undefined where one of them lies outside the file
abbrev pub read_at : ℕ → (List ℕ → ℤ) → List ℕ → Value → Value
read_at n number file v = of_one (λ bytes. Number (number bytes)) (bytes_at n file v)

-- one byte
abbrev pub uint8_of : List ℕ → Value → Value
uint8_of file = read_at 1 (λ bytes. pos (little_number 1 bytes)) file

abbrev pub int8_of : List ℕ → Value → Value
int8_of file = read_at 1 (λ bytes. cast_signed w8 (little_number 1 bytes)) file

-- the lowest byte first
abbrev pub uint16_of : List ℕ → Value → Value
uint16_of file = read_at 2 (λ bytes. pos (little_number 2 bytes)) file

abbrev pub uint32_of : List ℕ → Value → Value
uint32_of file = read_at 4 (λ bytes. pos (little_number 4 bytes)) file

-- the highest byte first
abbrev pub uint16be_of : List ℕ → Value → Value
uint16be_of file = read_at 2 (λ bytes. pos (big_number 2 bytes)) file

abbrev pub uint32be_of : List ℕ → Value → Value
uint32be_of file = read_at 4 (λ bytes. pos (big_number 4 bytes)) file

-- the same in two's complement
abbrev pub int16_of : List ℕ → Value → Value
int16_of file = read_at 2 (λ bytes. cast_signed w16 (little_number 2 bytes)) file

abbrev pub int32_of : List ℕ → Value → Value
int32_of file = read_at 4 (λ bytes. cast_signed w32 (little_number 4 bytes)) file

abbrev pub int16be_of : List ℕ → Value → Value
int16be_of file = read_at 2 (λ bytes. cast_signed w16 (big_number 2 bytes)) file

abbrev pub int32be_of : List ℕ → Value → Value
int32be_of file = read_at 4 (λ bytes. cast_signed w32 (big_number 4 bytes)) file

-- one byte has no order
abbrev pub uint8be_of : List ℕ → Value → Value
uint8be_of = uint8_of

abbrev pub int8be_of : List ℕ → Value → Value
int8be_of = int8_of
