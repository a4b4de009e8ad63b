-- The forms of terminals, which the type of gathered tokens keeps.
use Rattle.yr_syntax.specs.Forms.{Each, IsWordName, IsName, IsShortText}
use Rattle.yr_parser.specs.Terminals.{Terminal, Terminals, Regex, Hex, Word, StringName, StringWild, CountName, PlaceName, LengthName}

abbrev pub IsGood : Terminal → Type 0
IsGood (Word w) = IsWordName w
IsGood (StringName w) = IsName w
IsGood (StringWild w) = IsName w
IsGood (CountName w) = IsName w
IsGood (PlaceName w) = IsName w
IsGood (LengthName w) = IsName w
IsGood (Regex r) = IsShortText r.text
IsGood (Hex t) = IsShortText t
IsGood _ = Unit {0}

abbrev pub AreGood : Terminals → Type 0
AreGood k = Each IsGood k
