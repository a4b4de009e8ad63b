-- The table of tokens: the form of each kind ('Writing YARA rules', its lexical parts).
use Rattle.std.specs.Prelude.{◌≡◌, ◌≢◌, ℕ, ◌-◌, ◌≤◌, Bool, true, false, List, [], ◌∷◌, ◌++◌, length, pos, All, Contains, codes}
use Rattle.yr_base.specs.Bytes.{is_word_byte}
use Rattle.yr_base.specs.Words.{IsReserved, IsWord, name_limit}
use Rattle.yr_lexer.specs.declared.token.TokenKind.{TokenKind}
use Rattle.yr_lexer.specs.declared.token.TokenKind.TheVariants as kind
use Rattle.yr_lexer.specs.Gaps.{Text, Comment}
use Rattle.yr_lexer.specs.Texts.{AreUnits, Unescapes}
use Rattle.yr_lexer.specs.Numbers.{IsNumber}

-- letters, digits and `_`, possibly none
abbrev pub AreWordBytes : Text → Type 0
AreWordBytes name = All (λ b. is_word_byte b ≡ true) name

-- this byte and then a name
abbrev pub IsNamed : ℕ → Text → Type 0
IsNamed sign w = (name : Text) × (w ≡ sign ∷ name) × AreWordBytes name

-- up to and with the next `}` that stands outside comments
pub data HexEnds : Text → Text → Type 0 where
  closes : {rest : Text} → HexEnds (125 ∷ rest) rest
  after_comment : {t more rest : Text} → Comment t more → HexEnds more rest → HexEnds t rest
  after_byte : {b : ℕ} {t rest : Text} → b ≢ 125 → ((u : Text) → b ∷ t ≢ 47 ∷ 47 ∷ u) → ((u : Text) → b ∷ t ≢ 47 ∷ 42 ∷ u)
      → HexEnds t rest → HexEnds (b ∷ t) rest

-- how the flags of an expression are written: i for letters in either case, s for `.` that takes a line feed too, in either order
pub data AreFlags : Bool → Bool → Text → Type 0 where
  no_flag : AreFlags false false []
  flag_i : AreFlags true false (codes "i")
  flag_s : AreFlags false true (codes "s")
  flags_is : AreFlags true true (codes "is")
  flags_si : AreFlags true true (codes "si")

-- the signs of one byte and of two
abbrev pub signs : List Text
signs =
    codes "{" ∷ codes "}" ∷ codes "(" ∷ codes ")" ∷ codes "[" ∷ codes "]" ∷ codes ":" ∷ codes "," ∷ codes "." ∷ codes ".." ∷ codes "="
    ∷ codes "==" ∷ codes "!=" ∷ codes "<" ∷ codes "<=" ∷ codes ">" ∷ codes ">=" ∷ codes "<<" ∷ codes ">>" ∷ codes "+" ∷ codes "-"
    ∷ codes "*" ∷ codes "\\" ∷ codes "%" ∷ codes "&" ∷ codes "^" ∷ codes "|" ∷ codes "~" ∷ []

-- These bytes are a token of this kind. Hex literals stand only where the token before is `=`, which the first argument says.
abbrev pub HasForm : Bool → Text → TokenKind → Type 0
HasForm after_equals w kind.Word = IsWord w × (¬ IsReserved w)
HasForm after_equals w kind.Reserved = IsReserved w
HasForm after_equals w kind.StringName = IsNamed 36 w
HasForm after_equals w kind.StringWild = (name : Text) × (w ≡ 36 ∷ (name ++ 42 ∷ [])) × AreWordBytes name
HasForm after_equals w kind.CountName = IsNamed 35 w
HasForm after_equals w kind.PlaceName = IsNamed 64 w
HasForm after_equals w kind.LengthName = IsNamed 33 w
HasForm after_equals w (kind.Number n) = (v : ℕ) × (n ≡ pos v) × IsNumber w v
HasForm after_equals w kind.Text = (inside : Text) × (w ≡ 34 ∷ (inside ++ 34 ∷ [])) × AreUnits 34 inside
HasForm after_equals w (kind.Regex nocase dot_all) =
    (inside : Text) × (flags : Text) × (w ≡ 47 ∷ (inside ++ 47 ∷ flags)) × (inside ≢ []) × AreUnits 47 inside × AreFlags nocase dot_all flags
HasForm after_equals w kind.Hex = (after_equals ≡ true) × (inside : Text) × (w ≡ 123 ∷ inside) × HexEnds inside []
HasForm after_equals w kind.Sign = Contains signs w

-- the bytes of a token's name, the sign before it and the `*` behind it left out
abbrev pub name_length : TokenKind → ℕ → ℕ
name_length kind.Word n = n
name_length kind.StringName n = n - 1
name_length kind.StringWild n = n - 2
name_length kind.CountName n = n - 1
name_length kind.PlaceName n = n - 1
name_length kind.LengthName n = n - 1
name_length _ n = 0

-- a text stands for some bytes
abbrev pub HasGoodEscapes : TokenKind → Text → Type 0
HasGoodEscapes kind.Text w = (inside : Text) × (bytes : List ℕ) × (w ≡ 34 ∷ (inside ++ 34 ∷ [])) × Unescapes inside bytes
HasGoodEscapes _ w = Unit {0}

-- the bytes of a token that was accepted: of its form, with good escapes, and with a name that is not too long
pub record IsSpelled (w : Text) (k : TokenKind) : Type 0 where
  pub form : HasForm true w k
  pub escapes : HasGoodEscapes k w
  pub short : name_length k (length w) ≤ name_limit
