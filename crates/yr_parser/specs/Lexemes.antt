-- The terminal that a token stands for.
use Rattle.std.specs.Prelude.{ℕ, List, Option, Some, None}
use Rattle.yr_parser.specs.declared.lexeme.Lexeme.{Lexeme}
use Rattle.yr_parser.specs.declared.lexeme.Lexeme.TheVariants as lexeme
use Rattle.yr_parser.specs.declared.spelling.Row.{Row}
use Rattle.yr_parser.specs.Spelling.{unescaped}
use Rattle.yr_parser.specs.Terminals.{Terminal, Word, Number, Text, Regex, Hex, StringName, StringWild, CountName, PlaceName, LengthName, Read, Flag, Operator, Sign}

abbrev pub terminal_of : Lexeme → Terminal
terminal_of (lexeme.Word w) = Word w.now
terminal_of (lexeme.Number n) = Number n
terminal_of (lexeme.Text t) = Text (unescaped t.now)
terminal_of (lexeme.Regex text nocase dot_all) = Regex (record { text = text.now; nocase = nocase; dot_all = dot_all })
terminal_of (lexeme.Hex t) = Hex t.now
terminal_of (lexeme.StringName w) = StringName w.now
terminal_of (lexeme.StringWild w) = StringWild w.now
terminal_of (lexeme.CountName w) = CountName w.now
terminal_of (lexeme.PlaceName w) = PlaceName w.now
terminal_of (lexeme.LengthName w) = LengthName w.now
terminal_of (lexeme.Read r) = Read r
terminal_of (lexeme.Flag b) = Flag b
terminal_of (lexeme.Operator o) = Operator o
terminal_of (lexeme.Sign s) = Sign s

abbrev pub next_of : Option Lexeme → Option Terminal
next_of None = None
next_of (Some l) = Some (terminal_of l)

abbrev pub row_of : Row → List ℕ × Terminal
row_of r = (r.text.now, terminal_of r.lexeme)
