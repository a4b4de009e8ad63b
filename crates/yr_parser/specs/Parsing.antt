-- The answer of the grammar to gathered tokens: the declarations that they spell, or why they spell none.
use Rattle.std.specs.Prelude.{ℕ, List, Result, Ok, Err}
use Rattle.yr_lexer.specs.Sources.{Gathered}
use Rattle.yr_syntax.specs.Declaration.{Declaration}
use Rattle.yr_parser.specs.Terminals.{Terminals}
use Rattle.yr_parser.specs.Declarations.{Places, Spells}
use Rattle.yr_parser.specs.Refusals.{IsSyntax, NestsTooDeep}
use Rattle.yr_parser.specs.Spelling.{places_of, terminals_of}

-- why no declarations were read, with the number of the file and the line of the first token that was not
pub data GrammarFault : Type 0 where
  Syntax : (file line : ℕ) → GrammarFault
  TooDeep : (file line : ℕ) → GrammarFault

-- the answer of the grammar to terminals at these places
abbrev pub IsAnswer : Places → Terminals → Result (List Declaration) GrammarFault → Type 0
IsAnswer places k (Ok declarations) = Spells places k declarations
IsAnswer places k (Err (Syntax file n)) = (number : ℕ) × IsSyntax places k number file n
IsAnswer places k (Err (TooDeep file n)) = (number : ℕ) × NestsTooDeep places k number file n

-- the answer of the grammar to gathered tokens
abbrev pub IsParsed : Gathered → Result (List Declaration) GrammarFault → Type 0
IsParsed g answer = IsAnswer (places_of g) (terminals_of g) answer
