-- What the code makes of hex strings and expressions, as plain data.
use Rattle.std.specs.Prelude.{Result, Ok, Err}
use Rattle.yr_pattern.specs.Tree.{Tree, tree_of}
use Rattle.yr_conditions.specs.Readers.{HexRefusal, Jump, RegexRefusal, Range, Mixed, Expression}
use Rattle.yr_conditions.specs.declared.reading.HexAnswer.{HexAnswer}
use Rattle.yr_conditions.specs.declared.reading.HexAnswer.TheVariants as hex
use Rattle.yr_conditions.specs.declared.reading.RegexAnswer.{RegexAnswer}
use Rattle.yr_conditions.specs.declared.reading.RegexAnswer.TheVariants as regex

abbrev pub hex_answer_of : HexAnswer → Result Tree HexRefusal
hex_answer_of (hex.Pattern p) = Ok (tree_of p)
hex_answer_of hex.Syntax = Err HexRefusal.NoReading
hex_answer_of (hex.Jump place) = Err (Jump place)

abbrev pub regex_answer_of : RegexAnswer → Result Expression RegexRefusal
regex_answer_of (regex.Expression p greedy) = Ok (record { pattern = tree_of p; greedy = greedy })
regex_answer_of regex.Syntax = Err RegexRefusal.NoReading
regex_answer_of (regex.Range place) = Err (Range place)
regex_answer_of regex.Mixed = Err Mixed
