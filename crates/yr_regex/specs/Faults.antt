-- What a regular expression that has a reading may still not have: bad numbers, bad ranges, and quantifiers of both greeds.
use Rattle.std.specs.Prelude.{◌≡◌, ℕ, ◌≤◌, ◌⊎◌, Bool, false, not, ◌||◌, ◌&&◌, List, [], ◌∷◌, Option, Some, None}
use Rattle.yr_regex.specs.Expressions.{Member, Single, Kind, Range, Element, Piece, Pieces, Branches, Byte, Any, Set, Class, Group, Alone, Repeated, AtStart, AtEnd, AtEdge, AtNoEdge, none, more, only, or}

-- a greatest number is at most 32,767 and not below the least
abbrev pub IsOrdered : ℕ → Option ℕ → Type 0
IsOrdered least None = Unit {0}
IsOrdered least (Some most) = (most ≤ 32767) × (least ≤ most)

-- a quantifier may have these bounds
abbrev pub IsAllowed : ℕ → Option ℕ → Type 0
IsAllowed least most = (least ≤ 32767) × IsOrdered least most

-- a range whose first byte is above its last, with so many bytes left at it
abbrev pub IsBadMember : Member → ℕ → Type 0
IsBadMember (Single b) left = ⊥
IsBadMember (Kind bytes) left = ⊥
IsBadMember (Range at from to) left = (left ≡ at) × ¬ (from ≤ to)

-- one of them is
abbrev pub HasBadMember : List Member → ℕ → Type 0
HasBadMember [] left = ⊥
HasBadMember (m ∷ ms) left = IsBadMember m left ⊎ HasBadMember ms left

abbrev mutual
  -- the element has a bad range or a bad quantifier, with so many bytes left at it
  pub IsBadElement : Element → ℕ → Type 0
  IsBadElement (Byte b) left = ⊥
  IsBadElement Any left = ⊥
  IsBadElement (Set bytes) left = ⊥
  IsBadElement (Class negated ms) left = HasBadMember ms left
  IsBadElement (Group bs) left = HasBadBranch bs left

  -- the piece has
  pub IsBadPiece : Piece → ℕ → Type 0
  IsBadPiece (Alone e) left = IsBadElement e left
  IsBadPiece (Repeated e at least most exact lazy) left = IsBadElement e left ⊎ ((left ≡ at) × ¬ IsAllowed least most)
  IsBadPiece AtStart left = ⊥
  IsBadPiece AtEnd left = ⊥
  IsBadPiece AtEdge left = ⊥
  IsBadPiece AtNoEdge left = ⊥

  -- one of the pieces has
  pub HasBadPiece : Pieces → ℕ → Type 0
  HasBadPiece none left = ⊥
  HasBadPiece (more p ps) left = IsBadPiece p left ⊎ HasBadPiece ps left

  -- one of the branches has
  pub HasBadBranch : Branches → ℕ → Type 0
  HasBadBranch (only ps) left = HasBadPiece ps left
  HasBadBranch (or ps bs) left = HasBadPiece ps left ⊎ HasBadBranch bs left

-- whether a quantifier other than `{n}` stands there that is wanted, by whether a `?` follows it
module _ (wanted : Bool → Bool) where
  abbrev mutual
    -- one stands in the element
    pub in_element : Element → Bool
    in_element (Byte b) = false
    in_element Any = false
    in_element (Set bytes) = false
    in_element (Class negated ms) = false
    in_element (Group bs) = in_branches bs

    -- one stands in the piece
    pub in_piece : Piece → Bool
    in_piece (Alone e) = in_element e
    in_piece (Repeated e at least most exact lazy) = in_element e || (not exact && wanted lazy)
    in_piece AtStart = false
    in_piece AtEnd = false
    in_piece AtEdge = false
    in_piece AtNoEdge = false

    -- one stands in the pieces
    pub in_pieces : Pieces → Bool
    in_pieces none = false
    in_pieces (more p ps) = in_piece p || in_pieces ps

    -- one stands in the branches
    pub in_branches : Branches → Bool
    in_branches (only ps) = in_pieces ps
    in_branches (or ps bs) = in_pieces ps || in_branches bs

-- a quantifier other than `{n}` has a `?` behind it
abbrev pub has_lazy : Branches → Bool
has_lazy bs = in_branches (λ lazy. lazy) bs

-- a quantifier other than `{n}` has no `?` behind it
abbrev pub has_eager : Branches → Bool
has_eager bs = in_branches (λ lazy. not lazy) bs
