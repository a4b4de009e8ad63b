-- The base64 letters of a text that stands after some unknown bytes, by the places of its bits (RFC 4648, section 4).
use Rattle.std.specs.Prelude.{ℕ, ◌+◌, ◌-◌, ◌*◌, ◌/◌, ◌%◌, nat_le, if◌then◌else◌, List, [], ◌∷◌, length, slice_index}
use Rattle.std.specs.Int.{bit_at}
use Rattle.std.specs.List.{flat_map, range_with_len}

-- bit b of a text, the highest bit of a byte first
abbrev pub text_bit : List ℕ → ℕ → ℕ
text_bit bytes b = bit_at (slice_index bytes (b / 8)) (7 - b % 8)

-- the number that the six bits from b on spell
abbrev pub sextet_at : List ℕ → ℕ → ℕ
sextet_at bytes b =
    text_bit bytes b * 32 + text_bit bytes (b + 1) * 16 + text_bit bytes (b + 2) * 8
    + text_bit bytes (b + 3) * 4 + text_bit bytes (b + 4) * 2 + text_bit bytes (b + 5)

-- after p unknown bytes group k is bits 6k to 6k + 5 of the whole: its letter, where none of its bits is unknown
unfoldable pub group_letter : List ℕ → List ℕ → ℕ → ℕ → List ℕ
group_letter alphabet bytes p k = if nat_le (8 * p) (6 * k) then slice_index alphabet (sextet_at bytes (6 * k - 8 * p)) ∷ [] else []

-- the groups that end within the text are those below the number of its bits, the unknown ones too, through six
abbrev pub whole_groups : List ℕ → ℕ → List ℕ
whole_groups bytes p = range_with_len 0 ((8 * p + 8 * length bytes) / 6)

-- the letters of a text after p unknown bytes
abbrev pub encoded : List ℕ → List ℕ → ℕ → List ℕ
encoded alphabet bytes p = flat_map (group_letter alphabet bytes p) (whole_groups bytes p)
