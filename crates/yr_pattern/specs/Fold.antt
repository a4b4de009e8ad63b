-- A pattern that takes each letter in either case.
use Rattle.yr_pattern.specs.Set.{in_either_case}
use Rattle.yr_pattern.specs.Tree.{Tree, Trees, Empty, One, Seq, Alt, Rep, Start, End, Edge, NotEdge, WideEdge, WideNotEdge, none, more}

abbrev mutual
  -- each class in either case
  pub fold_tree : Tree → Tree
  fold_tree Empty = Empty
  fold_tree (One bytes) = One (in_either_case bytes)
  fold_tree (Seq ts) = Seq (fold_each ts)
  fold_tree (Alt ts) = Alt (fold_each ts)
  fold_tree (Rep inner min max) = Rep (fold_tree inner) min max
  fold_tree Start = Start
  fold_tree End = End
  fold_tree Edge = Edge
  fold_tree NotEdge = NotEdge
  fold_tree WideEdge = WideEdge
  fold_tree WideNotEdge = WideNotEdge

  -- each of them without regard to case
  pub fold_each : Trees → Trees
  fold_each none = none
  fold_each (more t ts) = more (fold_tree t) (fold_each ts)
