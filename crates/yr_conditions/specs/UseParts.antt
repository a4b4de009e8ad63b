-- What forms with an optional part use.
use Rattle.std.specs.Prelude.{List, [], ◌++◌, Option, Some, None}
use Rattle.yr_syntax.specs.Condition.{Condition, Bounds, OneStep, Name, Index, Call, items_of}
use Rattle.yr_conditions.specs.Meanings.{Around, Scope, Meaning, then_name}
use Rattle.yr_conditions.specs.Uses.{Use, uses_of, item_uses, word_uses}

-- a count's range, or none
abbrev pub range_uses : Around → Option Bounds → List Scope → List Use
range_uses around None scopes = []
range_uses around (Some r) scopes = uses_of around r.low scopes ++ uses_of around r.high scopes

-- an index, or none
abbrev pub index_uses : Around → Option Condition → List Scope → List Use
index_uses around None scopes = []
index_uses around (Some i) scopes = uses_of around i scopes

-- one part of a path behind what means this
abbrev pub one_uses : Around → OneStep → Meaning → List Scope → List Use
one_uses around (Name w) m scopes = word_uses w (then_name m w)
one_uses around (Index c) m scopes = uses_of around c scopes
one_uses around (Call arguments) m scopes = item_uses around (items_of arguments) scopes
