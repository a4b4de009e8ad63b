-- What a regular expression says, as it is written: numbers of any size, and at each place that a fault may name how many bytes of the text are left.
use Rattle.std.specs.Prelude.{ℕ, Bool, Option, List}

-- what stands in a class: a byte, a set, or a range with how many bytes are left at its first byte
pub data Member : Type 0 where
  Single : ℕ → Member
  Kind : (ℕ → Bool) → Member
  Range : (left from to : ℕ) → Member

mutual
  -- what a quantifier may follow
  pub data Element : Type 0 where
    Byte : ℕ → Element
    Any : Element
    Set : (ℕ → Bool) → Element
    Class : (negated : Bool) → List Member → Element
    Group : Branches → Element

  -- an element alone, an element with a quantifier, or an anchor. A quantifier keeps how many bytes are left at its sign, its bounds,
  -- whether it has the form `{n}`, and whether a `?` follows it.
  pub data Piece : Type 0 where
    Alone : Element → Piece
    Repeated : Element → (left least : ℕ) → (most : Option ℕ) → (exact lazy : Bool) → Piece
    AtStart : Piece
    AtEnd : Piece
    AtEdge : Piece
    AtNoEdge : Piece

  -- pieces one after the other
  pub data Pieces : Type 0 where
    none : Pieces
    more : Piece → Pieces → Pieces

  -- branches of which one is taken, at least one
  pub data Branches : Type 0 where
    only : Pieces → Branches
    or : Pieces → Branches → Branches
