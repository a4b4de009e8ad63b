-- A hash of names: a polynomial in a key over the bytes, modulo a prime.
use Rattle.std.specs.Prelude.{ℕ, ◌+◌, ◌*◌, ◌%◌, List, [], ◌∷◌}

abbrev pub hash_step : (key h b : ℕ) → ℕ
hash_step key h b = (h * key + b + 1) % 4294967291

abbrev pub hash_from : (key h : ℕ) → List ℕ → ℕ
hash_from key h [] = h
hash_from key h (b ∷ bs) = hash_from key (hash_step key h b) bs

-- where a table is searched from for a name
abbrev pub slot_of : (key : ℕ) → List ℕ → ℕ
slot_of key name = hash_from key 0 name % 131072
