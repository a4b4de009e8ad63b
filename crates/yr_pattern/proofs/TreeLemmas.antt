-- The tree of each kind of pattern, and the size of a choice.
use Rattle.std.proofs.Common.{◌≡◌, ℕ, suc, ◌+◌, ◌-◌, ◌<◌, List, [], ◌∷◌, map, length, refl, sym, ap, ◌∙◌, arith, Vec, Box, Global, Option}
use Rattle.std.proofs.lemmas.List.{length-map}
use Rattle.yr_pattern.specs.Set.{bytes_of}
use Rattle.yr_pattern.specs.Tree.{Tree, Empty, One, Seq, Alt, Rep, Start, End, Edge, NotEdge, WideEdge, WideNotEdge, tree_of, node_tree, trees_of}
use Rattle.yr_pattern.specs.Sizes.{members, choice_size, size_of, sizes_of}
use Rattle.yr_pattern.specs.declared.byte_set.ByteSet.{ByteSet}
use Rattle.yr_pattern.specs.declared.pattern.Pattern as p
use Rattle.yr_pattern.specs.declared.pattern.Pattern.TheVariants as v

pub tree_of-Empty : tree_of v.Empty ≡ Empty
tree_of-Empty = ap tree_of (sym v.rolls-Empty) ∙ p.fold-roll-Pattern Tree node_tree p.Pattern-F.Empty

pub tree_of-One : (set : ByteSet) → tree_of (v.One set) ≡ One (bytes_of set)
tree_of-One set = ap tree_of (sym (v.rolls-One set)) ∙ p.fold-roll-Pattern Tree node_tree (p.Pattern-F.One set)

pub tree_of-Seq : (ps : Vec p.Pattern Global) → tree_of (v.Seq ps) ≡ Seq (trees_of (map tree_of ps.items))
tree_of-Seq ps = ap tree_of (sym (v.rolls-Seq ps)) ∙ p.fold-roll-Pattern Tree node_tree (p.Pattern-F.Seq ps)

pub tree_of-Alt : (ps : Vec p.Pattern Global) → tree_of (v.Alt ps) ≡ Alt (trees_of (map tree_of ps.items))
tree_of-Alt ps = ap tree_of (sym (v.rolls-Alt ps)) ∙ p.fold-roll-Pattern Tree node_tree (p.Pattern-F.Alt ps)

pub tree_of-Rep : (inner : Box p.Pattern Global) (min : ℕ) (max : Option ℕ) → tree_of (v.Rep inner min max) ≡ Rep (tree_of inner.value) min max
tree_of-Rep inner min max = ap tree_of (sym (v.rolls-Rep inner min max)) ∙ p.fold-roll-Pattern Tree node_tree (p.Pattern-F.Rep inner min max)

pub tree_of-Start : tree_of v.Start ≡ Start
tree_of-Start = ap tree_of (sym v.rolls-Start) ∙ p.fold-roll-Pattern Tree node_tree p.Pattern-F.Start

pub tree_of-End : tree_of v.End ≡ End
tree_of-End = ap tree_of (sym v.rolls-End) ∙ p.fold-roll-Pattern Tree node_tree p.Pattern-F.End

pub tree_of-Edge : tree_of v.Edge ≡ Edge
tree_of-Edge = ap tree_of (sym v.rolls-Edge) ∙ p.fold-roll-Pattern Tree node_tree p.Pattern-F.Edge

pub tree_of-NotEdge : tree_of v.NotEdge ≡ NotEdge
tree_of-NotEdge = ap tree_of (sym v.rolls-NotEdge) ∙ p.fold-roll-Pattern Tree node_tree p.Pattern-F.NotEdge

pub tree_of-WideEdge : tree_of v.WideEdge ≡ WideEdge
tree_of-WideEdge = ap tree_of (sym v.rolls-WideEdge) ∙ p.fold-roll-Pattern Tree node_tree p.Pattern-F.WideEdge

pub tree_of-WideNotEdge : tree_of v.WideNotEdge ≡ WideNotEdge
tree_of-WideNotEdge = ap tree_of (sym v.rolls-WideNotEdge) ∙ p.fold-roll-Pattern Tree node_tree p.Pattern-F.WideNotEdge

pub members-trees_of : (ts : List Tree) → members (trees_of ts) ≡ length ts
members-trees_of [] = refl
members-trees_of (t ∷ ts) = omega (arith, members-trees_of ts)

pub choice_size-some : (ts : List Tree) (sum : ℕ) → 0 < length ts → choice_size (members (trees_of ts)) sum ≡ sum + (length ts - 1)
choice_size-some [] sum h = absurd (omega arith)
choice_size-some (t ∷ ts) sum h = rw add-one-members (omega (arith, members-trees_of ts))
  where
    add-one-members : members (trees_of ts) + 1 ≡ suc (members (trees_of ts))
    add-one-members = omega arith

pub size_of-Alt : (ps : Vec p.Pattern Global) → 0 < length ps.items → size_of (tree_of (v.Alt ps)) ≡ sizes_of (trees_of (map tree_of ps.items)) + (length ps.items - 1)
size_of-Alt ps some =
    ap size_of (tree_of-Alt ps) ∙ choice_size-some (map tree_of ps.items) _ (omega (arith, length-map ps.items tree_of))
    ∙ ap (λ n. sizes_of (trees_of (map tree_of ps.items)) + (n - 1)) (length-map ps.items tree_of)
