-- The size of a pattern: how many moves a program needs for it.
use Rattle.std.specs.Prelude.{ℕ, zero, suc, ◌+◌, ◌-◌, ◌*◌, Option, Some, None, nat_lt, if◌then◌else◌}
use Rattle.yr_pattern.specs.Tree.{Tree, Trees, Empty, One, Seq, Alt, Rep, Start, End, Edge, NotEdge, WideEdge, WideNotEdge, none, more}

-- how many there are
abbrev pub members : Trees → ℕ
members none = 0
members (more t ts) = members ts + 1

-- the size of a choice of so many branches with this sum: one more for each branch but the last
abbrev pub choice_size : ℕ → ℕ → ℕ
choice_size zero sum = 1
choice_size (suc n) sum = sum + n

-- the size of a repetition of what has this size
abbrev pub rep_size : ℕ → ℕ → Option ℕ → ℕ
rep_size size min None = (min + 1) * size + 1
rep_size size min (Some max) = if nat_lt max min then 1 else (max * size + (max - min))

abbrev mutual
  -- a byte and an assertion are one move each; a choice and a loop have moves of their own
  pub size_of : Tree → ℕ
  size_of Empty = 0
  size_of (One bytes) = 1
  size_of (Seq ts) = sizes_of ts
  size_of (Alt ts) = choice_size (members ts) (sizes_of ts)
  size_of (Rep inner min max) = rep_size (size_of inner) min max
  size_of Start = 1
  size_of End = 1
  size_of Edge = 1
  size_of NotEdge = 1
  size_of WideEdge = 1
  size_of WideNotEdge = 1

  -- the sum of their sizes
  pub sizes_of : Trees → ℕ
  sizes_of none = 0
  sizes_of (more t ts) = size_of t + sizes_of ts
