-- What is left of a pattern without its parts that have no move.
use Rattle.std.specs.Prelude.{ℕ, ◌==◌, List, Option, Some, None, option_to_list, nat_lt, if◌then◌else◌}
use Rattle.yr_pattern.specs.Tree.{Tree, Trees, Empty, One, Seq, Alt, Rep, Start, End, Edge, NotEdge, WideEdge, WideNotEdge, none, more}

-- nothing as the empty pattern
abbrev pub or_empty : Option Tree → Tree
or_empty None = Empty
or_empty (Some t) = t

-- what is left of a first member, and the others
abbrev pub before : Option Tree → Trees → Trees
before None ts = ts
before (Some t) ts = more t ts

-- members one after another: one alone stands for itself
abbrev pub in_order : Trees → Option Tree
in_order none = None
in_order (more t none) = Some t
in_order (more t (more u us)) = Some (Seq (more t (more u us)))

-- so many times: once stands for itself
abbrev pub times : Option Tree → ℕ → Option Tree
times None n = None
times (Some t) n = if n == 1 then Some t else Some (Rep t n (Some n))

-- from min to max times; where max is below min nothing is spanned, and at most 0 times is nothing to span
abbrev pub at_most : Option Tree → ℕ → ℕ → Option Tree
at_most left min max =
    if nat_lt max min then Some (Rep Empty min (Some max))
    else if max == 0 then None
    else if min == max then times left max
    else Some (Rep (or_empty left) min (Some max))

abbrev pub repeated : Option Tree → ℕ → Option ℕ → Option Tree
repeated left min None = Some (Rep (or_empty left) min None)
repeated left min (Some max) = at_most left min max

abbrev mutual
  -- None where it has no move at all
  pub kept : Tree → Option Tree
  kept Empty = None
  kept (One bytes) = Some (One bytes)
  kept (Seq ts) = in_order (kept_all ts)
  kept (Alt ts) = Some (Alt (kept_each ts))
  kept (Rep inner min max) = repeated (kept inner) min max
  kept Start = Some Start
  kept End = Some End
  kept Edge = Some Edge
  kept NotEdge = Some NotEdge
  kept WideEdge = Some WideEdge
  kept WideNotEdge = Some WideNotEdge

  -- the members that have moves
  pub kept_all : Trees → Trees
  kept_all none = none
  kept_all (more t ts) = before (kept t) (kept_all ts)

  -- each branch
  pub kept_each : Trees → Trees
  kept_each none = none
  kept_each (more t ts) = more (or_empty (kept t)) (kept_each ts)

-- the same of one member, as a list, and of one branch
abbrev pub kept_list : Tree → List Tree
kept_list t = option_to_list (kept t)

abbrev pub kept_branch : Tree → Tree
kept_branch t = or_empty (kept t)
