-- Pieces of the splits of a literal: they are literals too.
use Rattle.std.specs.Prelude.{List, All}
use Rattle.yr_pattern.specs.Variants as variant
use Rattle.yr_atoms.specs.Splits.{Piece, Nothing, Literal, Shape, Split}

-- nothing, or bytes
abbrev pub IsPlain : Piece → Type 0
IsPlain Nothing = Unit {0}
IsPlain (Literal bytes) = Unit {0}
IsPlain (Shape tree) = ⊥

-- of a literal, no piece of the split is a pattern
abbrev pub HasItsPieces : variant.Body → Split → Type 0
HasItsPieces (variant.Literal bytes key fold) split = IsPlain split.before × IsPlain split.after
HasItsPieces (variant.Shape tree) split = Unit {0}

abbrev pub HaveItsPieces : variant.Body → List Split → Type 0
HaveItsPieces body splits = All (HasItsPieces body) splits
