-- The tokens of a text, or its first fault.
use Rattle.std.specs.Prelude.{◌≢◌, ℕ, ◌-◌, Bool, false, List, [], ◌∷◌, length, Result, Ok, Err}
use Rattle.std.specs.Str.{bytes_eq}
use Rattle.yr_lexer.specs.declared.token.TokenKind.{TokenKind}
use Rattle.yr_lexer.specs.declared.token.Token.{Token}
use Rattle.yr_lexer.specs.declared.fault.FaultRow.{FaultRow}
use Rattle.yr_lexer.specs.declared.fault.FaultRow.TheVariants as row
use Rattle.yr_lexer.specs.declared.fault.LexFault.{LexFault}
use Rattle.yr_lexer.specs.declared.fault.LexFault.TheVariants as fault
use Rattle.yr_lexer.specs.Gaps.{Text, Gap, before, line_at}
use Rattle.yr_lexer.specs.Faults.{Longest, IsFault, IsFirstFault}

-- a row of the table with its line
abbrev pub fault_on : FaultRow → ℕ → LexFault
fault_on row.Unclosed line = fault.Unclosed line
fault_on row.BadEscape line = fault.BadEscape line
fault_on row.Float line = fault.Float line
fault_on row.BadByte line = fault.BadByte line
fault_on row.TooLargeNumber line = fault.TooLargeNumber line
fault_on row.LongName line = fault.LongName line

-- no row of the table of faults holds, and this is the longest token
pub record IsToken (after_equals : Bool) (t : Text) (k : TokenKind) (rest : Text) : Type 0 where
  pub no_fault : (f : FaultRow) → ¬ IsFault f after_equals t
  pub longest : Longest after_equals t k rest

-- the token that stands at one rest of the text, up to the next
abbrev pub token_at : Text → TokenKind → Text → Text → Token
token_at whole k t rest = record { kind = k; line = line_at whole t; from = length whole - length t; to = length whole - length rest }

abbrev pub with_token : Token → Result (List Token) LexFault → Result (List Token) LexFault
with_token x (Ok xs) = Ok (x ∷ xs)
with_token x (Err f) = Err f

-- the bytes are the sign `=`
abbrev pub is_equals : Text → Bool
is_equals w = bytes_eq w (61 ∷ [])

-- From this rest of the text on there are these tokens, or there is this fault. The flag says that the token before is `=`.
pub data LexesFrom (whole : Text) : Bool → Text → Result (List Token) LexFault → Type 0 where
  nothing : {after_equals : Bool} {t : Text} → Gap t [] → LexesFrom whole after_equals t (Ok [])
  refused : {after_equals : Bool} {t u : Text} {f : FaultRow} → Gap t u → u ≢ [] → IsFirstFault f after_equals u
      → LexesFrom whole after_equals t (Err (fault_on f (line_at whole u)))
  token : {after_equals : Bool} {t u rest : Text} {k : TokenKind} {answer : Result (List Token) LexFault} → Gap t u → u ≢ []
      → IsToken after_equals u k rest → LexesFrom whole (is_equals (before u rest)) rest answer
      → LexesFrom whole after_equals t (with_token (token_at whole k u rest) answer)

-- the tokens of a text, or its first fault
abbrev pub Lexes : Text → Result (List Token) LexFault → Type 0
Lexes text answer = LexesFrom text false text answer

-- what a refusal says: want of memory nothing, and each other one that the text has it
abbrev pub ExplainsLex : Text → LexFault → Type 0
ExplainsLex text fault.NoMemory = Unit {0}
ExplainsLex text f = Lexes text (Err f)
