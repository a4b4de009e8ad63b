-- The pattern of a regular expression.
use Rattle.std.specs.Prelude.{ℕ, Bool, if◌then◌else◌, List, [], ◌∷◌, false, ◌||◌}
use Rattle.yr_pattern.specs.Set.{all_but, any_byte, either, in_either_case, no_byte}
use Rattle.yr_pattern.specs.Set as class
use Rattle.yr_pattern.specs.Tree.{Tree, Trees, Empty, One, Seq, Alt, Rep, Start, End, Edge, NotEdge}
use Rattle.yr_pattern.specs.Tree as tree
use Rattle.yr_regex.specs.Escapes.{between}
use Rattle.yr_regex.specs.Expressions.{Member, Single, Kind, Range, Element, Piece, Pieces, Branches, Byte, Any, Set, Class, Group, Alone, Repeated, AtStart, AtEnd, AtEdge, AtNoEdge, none, more, only, or}

-- the bytes of a member
abbrev pub member_bytes : Member → ℕ → Bool
member_bytes (Single b) = class.only b
member_bytes (Kind bytes) = bytes
member_bytes (Range left from to) = between from to

-- the bytes of all members
abbrev pub members_bytes : List Member → ℕ → Bool
members_bytes [] = no_byte
members_bytes (m ∷ ms) = either (member_bytes m) (members_bytes ms)

-- closed under letter case where case is ignored
abbrev pub cased : (nocase : Bool) → (ℕ → Bool) → ℕ → Bool
cased nocase bytes = if nocase then in_either_case bytes else bytes

-- what a class has: its members' bytes closed under letter case, and with `^` all others
abbrev pub class_bytes : (nocase negated : Bool) → (ℕ → Bool) → ℕ → Bool
class_bytes nocase negated bytes = if negated then all_but (cased nocase bytes) else cased nocase bytes

-- every byte, or every byte but the line feed
abbrev pub dot_bytes : (dot_all : Bool) → ℕ → Bool
dot_bytes dot_all = if dot_all then any_byte else all_but (class.only 10)

module _ (nocase dot_all : Bool) where
  abbrev mutual
    -- one byte of a set, or a group
    pub element_tree : Element → Tree
    element_tree (Byte b) = One (cased nocase (class.only b))
    element_tree Any = One (dot_bytes dot_all)
    element_tree (Set bytes) = One bytes
    element_tree (Class negated ms) = One (class_bytes nocase negated (members_bytes ms))
    element_tree (Group bs) = branches_tree bs

    -- an element, a repetition of one, or an anchor
    pub piece_tree : Piece → Tree
    piece_tree (Alone e) = element_tree e
    piece_tree (Repeated e left least most exact lazy) = Rep (element_tree e) least most
    piece_tree AtStart = Start
    piece_tree AtEnd = End
    piece_tree AtEdge = Edge
    piece_tree AtNoEdge = NotEdge

    -- each piece
    pub piece_trees : Pieces → Trees
    piece_trees none = tree.none
    piece_trees (more p ps) = tree.more (piece_tree p) (piece_trees ps)

    -- a sequence of the pieces, or nothing
    pub sequence_tree : Pieces → Tree
    sequence_tree none = Empty
    sequence_tree (more p ps) = Seq (tree.more (piece_tree p) (piece_trees ps))

    -- each branch
    pub branch_trees : Branches → Trees
    branch_trees (only ps) = tree.more (sequence_tree ps) tree.none
    branch_trees (or ps bs) = tree.more (sequence_tree ps) (branch_trees bs)

    -- one branch alone, or a choice
    pub branches_tree : Branches → Tree
    branches_tree (only ps) = sequence_tree ps
    branches_tree (or ps bs) = Alt (tree.more (sequence_tree ps) (branch_trees bs))

-- the pattern of the whole expression
abbrev pub meaning : (nocase dot_all : Bool) → Branches → Tree
meaning nocase dot_all bs = branches_tree nocase dot_all bs

abbrev mutual
  -- a class with `^` stands in the element
  pub element_complement : Element → Bool
  element_complement (Byte b) = false
  element_complement Any = false
  element_complement (Set bytes) = false
  element_complement (Class negated ms) = negated
  element_complement (Group bs) = branches_complement bs

  -- one stands in the piece
  pub piece_complement : Piece → Bool
  piece_complement (Alone e) = element_complement e
  piece_complement (Repeated e left least most exact lazy) = element_complement e
  piece_complement AtStart = false
  piece_complement AtEnd = false
  piece_complement AtEdge = false
  piece_complement AtNoEdge = false

  -- one stands in the pieces
  pub pieces_complement : Pieces → Bool
  pieces_complement none = false
  pieces_complement (more p ps) = piece_complement p || pieces_complement ps

  -- one stands in the branches
  pub branches_complement : Branches → Bool
  branches_complement (only ps) = pieces_complement ps
  branches_complement (or ps bs) = pieces_complement ps || branches_complement bs

-- a class with `^` stands in the expression
abbrev pub has_complement : Branches → Bool
has_complement bs = branches_complement bs
