-- The operators on texts, which are lists of bytes.
use Rattle.std.specs.Prelude.{ℕ, ◌-◌, Bool, ◌||◌, List, [], ◌∷◌, length, map, take, drop}
use Rattle.std.specs.Str.{bytes_eq}
use Rattle.yr_base.specs.Bytes.{lowered}
use Rattle.yr_values.specs.Values.{Value}
use Rattle.yr_values.specs.Operators.{on_texts}

-- the first bytes of the text are the part
abbrev pub begins_with : List ℕ → List ℕ → Bool
begins_with text part = bytes_eq (take (length part) text) part

-- the last bytes of the text are the part
abbrev pub ends_with : List ℕ → List ℕ → Bool
ends_with text part = bytes_eq (drop (length text - length part) text) part

-- the part stands somewhere in the text: at its front, or in what follows its first byte
abbrev pub has_inside : List ℕ → List ℕ → Bool
has_inside [] part = begins_with [] part
has_inside (b ∷ bs) part = begins_with (b ∷ bs) part || has_inside bs part

-- a test on texts, for which the letters A to Z are the small ones
abbrev pub in_either_case : (List ℕ → List ℕ → Bool) → List ℕ → List ℕ → Bool
in_either_case test text part = test (map lowered text) (map lowered part)

abbrev pub contains_of : Value → Value → Value
contains_of = on_texts has_inside

abbrev pub icontains_of : Value → Value → Value
icontains_of = on_texts (in_either_case has_inside)

abbrev pub startswith_of : Value → Value → Value
startswith_of = on_texts begins_with

abbrev pub istartswith_of : Value → Value → Value
istartswith_of = on_texts (in_either_case begins_with)

abbrev pub endswith_of : Value → Value → Value
endswith_of = on_texts ends_with

abbrev pub iendswith_of : Value → Value → Value
iendswith_of = on_texts (in_either_case ends_with)

abbrev pub iequals_of : Value → Value → Value
iequals_of = on_texts (in_either_case bytes_eq)
