-- The terminals that gathered tokens stand for.
use Rattle.std.specs.Prelude.{ℕ, ◌+◌, ◌-◌, ◌*◌, Bool, true, false, if◌then◌else◌, ◌==◌, List, [], ◌∷◌, length, take, drop, map, codes, Option, Some, None, slice_get}
use Rattle.std.specs.Str.{bytes_eq}
use Rattle.yr_syntax.specs.declared.operator.Infix.TheVariants as op
use Rattle.yr_syntax.specs.declared.operator.Reader.TheVariants as reader
use Rattle.yr_lexer.specs.declared.token.TokenKind.{TokenKind}
use Rattle.yr_lexer.specs.declared.token.TokenKind.TheVariants as kind
use Rattle.yr_lexer.specs.declared.source.FileToken.{FileToken}
use Rattle.yr_lexer.specs.Sources.{File, Gathered, spelling}
use Rattle.yr_lexer.specs.Texts.{digit_of}
use Rattle.yr_parser.specs.declared.sign.Sign.TheVariants as sign
use Rattle.yr_parser.specs.Terminals.{Terminal, Terminals, Word, Number, Text, Regex, Hex, StringName, StringWild, CountName, PlaceName, LengthName, Read, Flag, Operator, Sign}
use Rattle.yr_parser.specs.Declarations.{Places}

-- the reserved words
abbrev pub words : List (List ℕ × Terminal)
words =
    (codes "and", Operator op.And)
    ∷ (codes "or", Operator op.Or)
    ∷ (codes "not", Sign sign.Not)
    ∷ (codes "of", Sign sign.Of)
    ∷ (codes "them", Sign sign.Them)
    ∷ (codes "any", Sign sign.Any)
    ∷ (codes "all", Sign sign.All)
    ∷ (codes "rule", Sign sign.Rule)
    ∷ (codes "strings", Sign sign.Strings)
    ∷ (codes "condition", Sign sign.Condition)
    ∷ (codes "meta", Sign sign.Meta)
    ∷ (codes "ascii", Sign sign.Ascii)
    ∷ (codes "wide", Sign sign.Wide)
    ∷ (codes "nocase", Sign sign.NoCase)
    ∷ (codes "fullword", Sign sign.FullWord)
    ∷ (codes "xor", Sign sign.Xor)
    ∷ (codes "base64", Sign sign.Base64)
    ∷ (codes "base64wide", Sign sign.Base64Wide)
    ∷ (codes "private", Sign sign.Private)
    ∷ (codes "global", Sign sign.Global)
    ∷ (codes "import", Sign sign.Import)
    ∷ (codes "include", Sign sign.Include)
    ∷ (codes "at", Sign sign.At)
    ∷ (codes "in", Sign sign.In)
    ∷ (codes "for", Sign sign.For)
    ∷ (codes "none", Sign sign.None)
    ∷ (codes "defined", Sign sign.Defined)
    ∷ (codes "filesize", Sign sign.FileSize)
    ∷ (codes "entrypoint", Sign sign.EntryPoint)
    ∷ (codes "true", Flag true)
    ∷ (codes "false", Flag false)
    ∷ (codes "matches", Sign sign.Matches)
    ∷ (codes "contains", Operator op.Contains)
    ∷ (codes "icontains", Operator op.IContains)
    ∷ (codes "startswith", Operator op.StartsWith)
    ∷ (codes "istartswith", Operator op.IStartsWith)
    ∷ (codes "endswith", Operator op.EndsWith)
    ∷ (codes "iendswith", Operator op.IEndsWith)
    ∷ (codes "iequals", Operator op.IEquals)
    ∷ (codes "uint8", Read reader.Uint8)
    ∷ (codes "uint16", Read reader.Uint16)
    ∷ (codes "uint32", Read reader.Uint32)
    ∷ (codes "int8", Read reader.Int8)
    ∷ (codes "int16", Read reader.Int16)
    ∷ (codes "int32", Read reader.Int32)
    ∷ (codes "uint8be", Read reader.Uint8Be)
    ∷ (codes "uint16be", Read reader.Uint16Be)
    ∷ (codes "uint32be", Read reader.Uint32Be)
    ∷ (codes "int8be", Read reader.Int8Be)
    ∷ (codes "int16be", Read reader.Int16Be)
    ∷ (codes "int32be", Read reader.Int32Be) ∷ []

-- the signs
abbrev pub signs : List (List ℕ × Terminal)
signs =
    (codes "(", Sign sign.Open)
    ∷ (codes ")", Sign sign.Close)
    ∷ (codes "=", Sign sign.Assign)
    ∷ (codes ":", Sign sign.Colon)
    ∷ (codes "{", Sign sign.OpenBrace)
    ∷ (codes "}", Sign sign.CloseBrace)
    ∷ (codes ",", Sign sign.Comma)
    ∷ (codes ".", Sign sign.Dot)
    ∷ (codes "..", Sign sign.DotDot)
    ∷ (codes "[", Sign sign.OpenBracket)
    ∷ (codes "]", Sign sign.CloseBracket)
    ∷ (codes "==", Operator op.Equal)
    ∷ (codes "!=", Operator op.NotEqual)
    ∷ (codes "<", Operator op.Less)
    ∷ (codes "<=", Operator op.LessOrEqual)
    ∷ (codes ">", Operator op.Greater)
    ∷ (codes ">=", Operator op.GreaterOrEqual)
    ∷ (codes "<<", Operator op.ShiftLeft)
    ∷ (codes ">>", Operator op.ShiftRight)
    ∷ (codes "+", Operator op.Add)
    ∷ (codes "-", Operator op.Subtract)
    ∷ (codes "*", Operator op.Multiply)
    ∷ (codes "\\", Operator op.Divide)
    ∷ (codes "%", Operator op.Remainder)
    ∷ (codes "&", Operator op.BitAnd)
    ∷ (codes "^", Operator op.BitXor)
    ∷ (codes "|", Operator op.BitOr)
    ∷ (codes "~", Sign sign.Tilde) ∷ []

-- the terminal that a table has for the bytes
abbrev pub lookup : List ℕ → List (List ℕ × Terminal) → Option Terminal
lookup w [] = None
lookup w (r ∷ rs) = if bytes_eq r.0 w then Some r.1 else lookup w rs

abbrev pub known : Option Terminal → Terminal
known None = Sign sign.Include
known (Some t) = t

-- the byte that an escape of one byte stands for
abbrev pub escaped : ℕ → ℕ
escaped c = if c == 116 then 9 else if c == 110 then 10 else if c == 114 then 13 else c

-- the bytes that the inside of a text stands for: `\\` and a byte for its escape, `\\x` and two digits for a byte, every other byte for itself
unfoldable pub unescaped : List ℕ → List ℕ
unescaped [] = []
unescaped (b ∷ []) = b ∷ []
unescaped (b ∷ c ∷ []) = if b == 92 then escaped c ∷ [] else b ∷ unescaped (c ∷ [])
unescaped (b ∷ c ∷ h ∷ []) = if b == 92 then escaped c ∷ unescaped (h ∷ []) else b ∷ unescaped (c ∷ h ∷ [])
unescaped (b ∷ c ∷ h ∷ l ∷ t) =
    if b == 92
    then (if c == 120 then (16 * digit_of h + digit_of l) ∷ unescaped t else escaped c ∷ unescaped (h ∷ l ∷ t))
    else b ∷ unescaped (c ∷ h ∷ l ∷ t)

-- the bytes without the first and without so many at the end
abbrev pub inside : ℕ → List ℕ → List ℕ
inside ends w = drop 1 (take (length w - ends) w)

abbrev pub flag_length : Bool → Bool → ℕ
flag_length nocase dot_all = (if nocase then 1 else 0) + (if dot_all then 1 else 0)

-- the terminal that the bytes of a token of a kind stand for
abbrev pub spelled : List ℕ → TokenKind → Terminal
spelled w kind.Word = Word w
spelled w kind.Reserved = known (lookup w words)
spelled w kind.StringName = StringName (inside 0 w)
spelled w kind.StringWild = StringWild (inside 1 w)
spelled w kind.CountName = CountName (inside 0 w)
spelled w kind.PlaceName = PlaceName (inside 0 w)
spelled w kind.LengthName = LengthName (inside 0 w)
spelled w (kind.Number n) = Number n
spelled w kind.Text = Text (unescaped (inside 1 w))
spelled w (kind.Regex nocase dot_all) = Regex (record { text = inside (1 + flag_length nocase dot_all) w; nocase = nocase; dot_all = dot_all })
spelled w kind.Hex = Hex (inside 1 w)
spelled w kind.Sign = known (lookup w signs)

-- the terminal of a token of these files
abbrev pub terminal_of : List File → FileToken → Terminal
terminal_of files t = spelled (spelling files t) t.token.kind

-- the terminals of the gathered tokens
abbrev pub terminals_of : Gathered → Terminals
terminals_of g = map (terminal_of g.files) g.tokens

abbrev pub file_in : Option FileToken → ℕ
file_in None = 0
file_in (Some t) = t.file

abbrev pub line_in : Option FileToken → ℕ
line_in None = 0
line_in (Some t) = t.token.line

-- where the tokens stand, by the number of tokens from each to the end
abbrev pub places_of : Gathered → Places
places_of g = record {
  file = λ left. file_in (slice_get g.tokens (length g.tokens - left));
  line = λ left. line_in (slice_get g.tokens (length g.tokens - left));
}
