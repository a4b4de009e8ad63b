-- Tables as bytes: rows of one width, one after another, with numbers of four bytes, the lowest byte first.
use Rattle.std.specs.Prelude.{ℕ, zero, suc, ◌+◌, ◌*◌, ◌/◌, List, [], ◌∷◌, length, drop, slice_index}

-- the number of the four bytes at a place
abbrev pub number_at : List ℕ → ℕ → ℕ
number_at bytes i =
    slice_index bytes i + slice_index bytes (i + 1) * 256 + slice_index bytes (i + 2) * 65536 + slice_index bytes (i + 3) * 16777216

-- the first n rows of a width, each read by `row` from the bytes that it begins
abbrev pub first_rows : {A : Type 0} → ℕ → (List ℕ → A) → ℕ → List ℕ → List A
first_rows width row zero bytes = []
first_rows width row (suc n) bytes = row bytes ∷ first_rows width row n (drop width bytes)

-- the whole rows
abbrev pub rows_in : {A : Type 0} → ℕ → (List ℕ → A) → List ℕ → List A
rows_in width row bytes = first_rows width row (length bytes / width) bytes
