-- A pattern turned round.
use Rattle.yr_pattern.specs.Tree.{Tree, Trees, Empty, One, Seq, Alt, Rep, Start, End, Edge, NotEdge, WideEdge, WideNotEdge, none, more}

abbrev mutual
  -- each sequence turned round, at every depth
  pub reverse_tree : Tree → Tree
  reverse_tree Empty = Empty
  reverse_tree (One bytes) = One bytes
  reverse_tree (Seq ts) = Seq (reverse_onto ts none)
  reverse_tree (Alt ts) = Alt (reverse_each ts)
  reverse_tree (Rep inner min max) = Rep (reverse_tree inner) min max
  reverse_tree Start = Start
  reverse_tree End = End
  reverse_tree Edge = Edge
  reverse_tree NotEdge = NotEdge
  reverse_tree WideEdge = WideEdge
  reverse_tree WideNotEdge = WideNotEdge

  -- the members turned round, the last first, and then the others
  pub reverse_onto : Trees → Trees → Trees
  reverse_onto none after = after
  reverse_onto (more t ts) after = reverse_onto ts (more (reverse_tree t) after)

  -- each turned round, in the order in which they stand
  pub reverse_each : Trees → Trees
  reverse_each none = none
  reverse_each (more t ts) = more (reverse_tree t) (reverse_each ts)
