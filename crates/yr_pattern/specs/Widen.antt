-- A pattern for text of two bytes a letter: a byte 00 after each byte, and wide edges for edges.
use Rattle.yr_pattern.specs.Set.{only}
use Rattle.yr_pattern.specs.Tree.{Tree, Trees, Empty, One, Seq, Alt, Rep, Start, End, Edge, NotEdge, WideEdge, WideNotEdge, none, more}

abbrev mutual
  -- each byte is followed by a byte 00, each edge is a wide edge
  pub widen_tree : Tree → Tree
  widen_tree Empty = Empty
  widen_tree (One bytes) = Seq (more (One bytes) (more (One (only 0)) none))
  widen_tree (Seq ts) = Seq (widen_each ts)
  widen_tree (Alt ts) = Alt (widen_each ts)
  widen_tree (Rep inner min max) = Rep (widen_tree inner) min max
  widen_tree Start = Start
  widen_tree End = End
  widen_tree Edge = WideEdge
  widen_tree NotEdge = WideNotEdge
  widen_tree WideEdge = WideEdge
  widen_tree WideNotEdge = WideNotEdge

  -- each of them widened
  pub widen_each : Trees → Trees
  widen_each none = none
  widen_each (more t ts) = more (widen_tree t) (widen_each ts)
