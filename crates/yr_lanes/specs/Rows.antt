-- Sets of bytes by the two halves of a byte.
use Rattle.std.specs.Prelude.{ℕ, ◌/◌, ◌%◌, ◌==◌, Bool, not, List, slice_index, bit_and, bit_or}
use Rattle.yr_lanes.specs.declared.byte_set.TheConstants.{FRONT_BITS, BACK_BITS}

-- the row of the lower half has the bit of the upper half
abbrev pub in_rows : List ℕ → List ℕ → ℕ → Bool
in_rows front back b = not (bit_or
    (bit_and (slice_index front (b % 16)) (slice_index FRONT_BITS (b / 16)))
    (bit_and (slice_index back (b % 16)) (slice_index BACK_BITS (b / 16))) == 0)
