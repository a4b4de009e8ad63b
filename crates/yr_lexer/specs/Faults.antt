-- The table of faults, tested where a token begins.
use Rattle.std.specs.Prelude.{◌≡◌, ℕ, ◌-◌, ◌≤◌, ◌<◌, ◌^◌, Bool, true, false, List, ◌∷◌, ◌++◌, length, pos}
use Rattle.yr_base.specs.Bytes.{is_word_byte}
use Rattle.yr_base.specs.Words.{name_limit}
use Rattle.yr_lexer.specs.declared.token.TokenKind.{TokenKind}
use Rattle.yr_lexer.specs.declared.token.TokenKind.TheVariants as kind
use Rattle.yr_lexer.specs.declared.fault.FaultRow.{FaultRow}
use Rattle.yr_lexer.specs.declared.fault.FaultRow.TheVariants as row
use Rattle.yr_lexer.specs.Gaps.{Text, Block}
use Rattle.yr_lexer.specs.Texts.{AreUnits, Unescapes, digit_of}
use Rattle.yr_lexer.specs.Numbers.{AreDigits, IsNumber}
use Rattle.yr_lexer.specs.Forms.{HasForm, AreWordBytes, name_length}

-- a row of the table of tokens fits at the front of a text, up to this rest
pub record Fits (after_equals : Bool) (t : Text) (k : TokenKind) (rest : Text) : Type 0 where
  pub bytes : Text
  pub whole : t ≡ bytes ++ rest
  pub form : HasForm after_equals bytes k

-- the greatest end at which a row fits
pub record Longest (after_equals : Bool) (t : Text) (k : TokenKind) (rest : Text) : Type 0 where
  pub fits : Fits after_equals t k rest
  pub greatest : (k' : TokenKind) (rest' : Text) → Fits after_equals t k' rest' → length rest ≤ length rest'

-- a text, an expression, a hex literal or a comment has no end
pub data IsUnclosed (after_equals : Bool) : Text → Type 0 where
  open_text : {t : Text} → ((rest : Text) → ¬ Fits after_equals (34 ∷ t) kind.Text rest) → IsUnclosed after_equals (34 ∷ t)
  open_regex : {t : Text} → ((nocase dot_all : Bool) (rest : Text) → ¬ Fits after_equals (47 ∷ t) (kind.Regex nocase dot_all) rest)
      → IsUnclosed after_equals (47 ∷ t)
  open_hex : {t : Text} → after_equals ≡ true → ((rest : Text) → ¬ Fits after_equals (123 ∷ t) kind.Hex rest) → IsUnclosed after_equals (123 ∷ t)
  open_comment : {t : Text} → ((rest : Text) → ¬ Block t rest) → IsUnclosed after_equals (47 ∷ 42 ∷ t)

-- a closed text that stands for no bytes, since a `\` unit is no escape
pub record IsBadEscape (t : Text) : Type 0 where
  pub inside : Text
  pub rest : Text
  pub whole : t ≡ 34 ∷ (inside ++ 34 ∷ rest)
  pub units : AreUnits 34 inside
  pub bad : (bytes : List ℕ) → ¬ Unescapes inside bytes

-- decimal digits, `.` and a digit
pub record IsFloat (t : Text) : Type 0 where
  pub digits : Text
  pub next : ℕ
  pub rest : Text
  pub whole : t ≡ digits ++ 46 ∷ next ∷ rest
  pub before_dot : AreDigits 10 digits
  pub after_dot : digit_of next < 10

-- the longest run of letters, digits and `_`
pub record IsRun (t run rest : Text) : Type 0 where
  pub whole : t ≡ run ++ rest
  pub bytes : AreWordBytes run
  pub longest : (b : ℕ) (more : Text) → rest ≡ b ∷ more → is_word_byte b ≡ false

-- no token begins here, or the run that begins with a digit here is no number
pub data IsBadByte (after_equals : Bool) : Text → Type 0 where
  no_token : {t : Text} → ((k : TokenKind) (rest : Text) → ¬ Fits after_equals t k rest) → IsBadByte after_equals t
  no_number : {b : ℕ} {t run rest : Text} → digit_of b < 10 → IsRun (b ∷ t) run rest → ((v : ℕ) → ¬ IsNumber run v) → IsBadByte after_equals (b ∷ t)

abbrev pub IsTooLargeNumber : Bool → Text → Type 0
IsTooLargeNumber after_equals t = (v : ℕ) × (rest : Text) × Longest after_equals t (kind.Number (pos v)) rest × (2 ^ 63 ≤ v)

abbrev pub IsLongName : Bool → Text → Type 0
IsLongName after_equals t =
    (k : TokenKind) × (rest : Text) × Longest after_equals t k rest × (name_limit < name_length k (length t - length rest))

-- a row of the table of faults holds here
abbrev pub IsFault : FaultRow → Bool → Text → Type 0
IsFault row.Unclosed after_equals t = IsUnclosed after_equals t
IsFault row.BadEscape after_equals t = IsBadEscape t
IsFault row.Float after_equals t = IsFloat t
IsFault row.BadByte after_equals t = IsBadByte after_equals t
IsFault row.TooLargeNumber after_equals t = IsTooLargeNumber after_equals t
IsFault row.LongName after_equals t = IsLongName after_equals t

-- the place of a row in the table
abbrev pub rank : FaultRow → ℕ
rank row.Unclosed = 0
rank row.BadEscape = 1
rank row.Float = 2
rank row.BadByte = 3
rank row.TooLargeNumber = 4
rank row.LongName = 5

-- the first row that holds
pub record IsFirstFault (f : FaultRow) (after_equals : Bool) (t : Text) : Type 0 where
  pub holds : IsFault f after_equals t
  pub first : (g : FaultRow) → rank g < rank f → ¬ IsFault g after_equals t
