-- The terminals of the grammar: the tokens of rule files as the grammar sees them.
use Rattle.std.specs.Prelude.{ℕ, ℤ, Bool, List}
use Rattle.yr_syntax.specs.declared.operator.Infix.{Infix}
use Rattle.yr_syntax.specs.declared.operator.Reader.{Reader}
use Rattle.yr_syntax.specs.Condition.{RegexTree}
use Rattle.yr_parser.specs.declared.sign.Sign.{Sign as SignType}

-- Names stand without their sign, texts are unescaped, and expressions stand without their slashes.
-- An operator is any sign or word that stands between two operands but `matches`; `-`, `*` and `%` are operators wherever they stand.
pub data Terminal : Type 0 where
  Word : List ℕ → Terminal
  Number : ℤ → Terminal
  Text : List ℕ → Terminal
  Regex : RegexTree → Terminal
  Hex : List ℕ → Terminal
  StringName : List ℕ → Terminal
  StringWild : List ℕ → Terminal
  CountName : List ℕ → Terminal
  PlaceName : List ℕ → Terminal
  LengthName : List ℕ → Terminal
  Read : Reader → Terminal
  Flag : Bool → Terminal
  Operator : Infix → Terminal
  Sign : SignType → Terminal

abbrev pub Terminals : Type 0
Terminals = List Terminal
