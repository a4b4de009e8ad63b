-- The part that is made at once where a text says these elements.
use Rattle.std.specs.Prelude.{Bool}
use Rattle.yr_pattern.specs.Tree.{Start, End, Edge, NotEdge}
use Rattle.yr_regex.specs.declared.bounds.Bounds.{Bounds}
use Rattle.yr_regex.specs.Expressions.{Element, Piece, Pieces, Branches, Byte, Any, Set, Class, Group, Alone, Repeated, AtStart, AtEnd, AtEdge, AtNoEdge, none, more, only, or}
use Rattle.yr_regex.specs.Meaning.{dot_bytes}
use Rattle.yr_regex.specs.Reading.{bounds, cut, capped, members_read, PartRead, ListRead, plain, nothing, append, single, sequence, choice, repeated, class_part, byte_part, set_part}

abbrev pub cut_bounds : Bounds → Bounds
cut_bounds b = bounds (cut b.least) (capped cut b.most) b.exact

module _ (nocase dot_all : Bool) where
  abbrev mutual
    pub element_part : Element → PartRead
    element_part (Byte b) = byte_part nocase b
    element_part Any = set_part (dot_bytes dot_all)
    element_part (Set bytes) = set_part bytes
    element_part (Class negated ms) = class_part nocase negated (members_read ms)
    element_part (Group bs) = branches_part bs

    pub piece_part : Piece → PartRead
    piece_part (Alone e) = element_part e
    piece_part (Repeated e left least most exact lazy) = repeated (element_part e) left (bounds (cut least) (capped cut most) exact) lazy
    piece_part AtStart = plain Start
    piece_part AtEnd = plain End
    piece_part AtEdge = plain Edge
    piece_part AtNoEdge = plain NotEdge

    pub pieces_list : Pieces → ListRead
    pieces_list none = nothing
    pieces_list (more p ps) = append (single (piece_part p)) (pieces_list ps)

    pub branches_list : Branches → ListRead
    branches_list (only ps) = single (sequence (pieces_list ps))
    branches_list (or ps bs) = append (single (sequence (pieces_list ps))) (branches_list bs)

    pub branches_part : Branches → PartRead
    branches_part (only ps) = sequence (pieces_list ps)
    branches_part (or ps bs) = choice (append (single (sequence (pieces_list ps))) (branches_list bs))
