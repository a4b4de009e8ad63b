-- A pattern as a plain tree, with lists for vectors, classes for sets and no pointers.
use Rattle.std.specs.Prelude.{ℕ, Bool, List, [], ◌∷◌, Option}
use Rattle.yr_pattern.specs.declared.pattern.Pattern.{Pattern}
use Rattle.yr_pattern.specs.declared.pattern.Pattern.TheOpen.{Pattern-F}
use Rattle.yr_pattern.specs.declared.pattern.Pattern.TheFolds.{fold-Pattern}
use Rattle.yr_pattern.specs.Set.{bytes_of}

mutual
  -- one node for each kind of pattern
  pub data Tree : Type 0 where
    Empty : Tree
    One : (bytes : ℕ → Bool) → Tree
    Seq : Trees → Tree
    Alt : Trees → Tree
    Rep : (inner : Tree) → (min : ℕ) → (max : Option ℕ) → Tree
    Start : Tree
    End : Tree
    Edge : Tree
    NotEdge : Tree
    WideEdge : Tree
    WideNotEdge : Tree

  -- members or branches, in order
  pub data Trees : Type 0 where
    none : Trees
    more : Tree → Trees → Trees

-- a list of trees, as the trees of a node
abbrev pub trees_of : List Tree → Trees
trees_of [] = none
trees_of (t ∷ ts) = more t (trees_of ts)

-- these, and then those
abbrev pub join : Trees → Trees → Trees
join none us = us
join (more t ts) us = more t (join ts us)

-- one node, with the tree of each child in its place
abbrev pub node_tree : Pattern-F Tree → Tree
node_tree Pattern-F.Empty = Empty
node_tree (Pattern-F.One set) = One (bytes_of set)
node_tree (Pattern-F.Seq members) = Seq (trees_of members.items)
node_tree (Pattern-F.Alt branches) = Alt (trees_of branches.items)
node_tree (Pattern-F.Rep inner min max) = Rep inner.value min max
node_tree Pattern-F.Start = Start
node_tree Pattern-F.End = End
node_tree Pattern-F.Edge = Edge
node_tree Pattern-F.NotEdge = NotEdge
node_tree Pattern-F.WideEdge = WideEdge
node_tree Pattern-F.WideNotEdge = WideNotEdge

-- the tree that a pattern stands for
abbrev pub tree_of : Pattern → Tree
tree_of = fold-Pattern Tree node_tree
