-- Words, and the reserved ones ('Writing YARA rules', the table of keywords).
use Rattle.std.specs.Prelude.{ℕ, ◌≡◌, ◌∷◌, [], List, Bool, true, false, ◌&&◌, All, Contains, codes}
use Rattle.std.specs.List.{list_all}
use Rattle.yr_base.specs.Bytes.{is_word_start, is_word_byte}

abbrev pub reserved_words : List (List ℕ)
reserved_words =
    codes "all" ∷ codes "and" ∷ codes "any" ∷ codes "ascii" ∷ codes "at" ∷ codes "base64" ∷ codes "base64wide" ∷ codes "condition"
    ∷ codes "contains" ∷ codes "defined" ∷ codes "endswith" ∷ codes "entrypoint" ∷ codes "false" ∷ codes "filesize" ∷ codes "for"
    ∷ codes "fullword" ∷ codes "global" ∷ codes "icontains" ∷ codes "iendswith" ∷ codes "iequals" ∷ codes "import" ∷ codes "in"
    ∷ codes "include" ∷ codes "int16" ∷ codes "int16be" ∷ codes "int32" ∷ codes "int32be" ∷ codes "int8" ∷ codes "int8be"
    ∷ codes "istartswith" ∷ codes "matches" ∷ codes "meta" ∷ codes "nocase" ∷ codes "none" ∷ codes "not" ∷ codes "of" ∷ codes "or"
    ∷ codes "private" ∷ codes "rule" ∷ codes "startswith" ∷ codes "strings" ∷ codes "them" ∷ codes "true" ∷ codes "uint16"
    ∷ codes "uint16be" ∷ codes "uint32" ∷ codes "uint32be" ∷ codes "uint8" ∷ codes "uint8be" ∷ codes "wide" ∷ codes "xor" ∷ []

abbrev pub IsReserved : List ℕ → Type 0
IsReserved word = Contains reserved_words word

-- a letter or `_`, then letters, digits and `_`
pub record IsWord (word : List ℕ) : Type 0 where
  pub first : ℕ
  pub rest : List ℕ
  pub whole : word ≡ first ∷ rest
  pub begins : is_word_start first ≡ true
  pub goes_on : All (λ b. is_word_byte b ≡ true) rest

-- the same as a test
abbrev pub is_word : List ℕ → Bool
is_word [] = false
is_word (b ∷ bs) = is_word_start b && list_all is_word_byte bs

-- the most bytes of a word, and of a name after its sign
abbrev pub name_limit : ℕ
name_limit = 128
