-- The moves of a pattern, each part told where it stands and where it leads on.
use Rattle.std.specs.Prelude.{ℕ, zero, suc, ◌+◌, ◌-◌, ◌*◌, List, [], ◌∷◌, ◌++◌, Option, Some, None, nat_lt, if◌then◌else◌}
use Rattle.yr_pattern.specs.Set.{no_byte}
use Rattle.yr_pattern.specs.Tree as t
use Rattle.yr_pattern.specs.Tree.{Tree, Trees, none, more}
use Rattle.yr_pattern.specs.Sizes.{members, size_of, sizes_of, choice_size}
use Rattle.yr_rows.specs.declared.moves.Assertion.TheVariants as a
use Rattle.yr_program.specs.Acts.{Act, Stop, Read, Branch, Ask}

-- the moves of a choice among these
abbrev pub any_size : Trees → ℕ
any_size ts = choice_size (members ts) (sizes_of ts)

-- where the moves of a part of this size begin, if they stand at base and lead on to next
abbrev pub enter : ℕ → ℕ → ℕ → ℕ
enter zero base next = next
enter (suc n) base next = base

abbrev pub Code : Type 0
Code = ℕ → ℕ → List Act

-- a move that nothing passes
abbrev pub fail : Code
fail base next = Read next no_byte ∷ []

-- both, one after another; the second has s2 moves
abbrev pub both : ℕ → ℕ → Code → Code → Code
both s1 s2 c1 c2 base next = c1 base (enter s2 (base + s1) next) ++ c2 (base + s1) next

-- either
abbrev pub either : ℕ → ℕ → Code → Code → Code
either s1 s2 c1 c2 base next =
    Branch (enter s1 (base + 1) next) (enter s2 (base + 1 + s1) next) ∷ (c1 (base + 1) next ++ c2 (base + 1 + s1) next)

abbrev pub nothing : Code
nothing base next = []

-- k of them
abbrev pub copies : ℕ → ℕ → Code → Code
copies zero s c = nothing
copies (suc k) s c = both s (k * s) c (copies k s c)

-- at most k of them
abbrev pub options : ℕ → ℕ → Code → Code
options zero s c = nothing
options (suc k) s c = either (s + k * (s + 1)) 0 (both s (k * (s + 1)) c (options k s c)) nothing

-- any number of them
abbrev pub loop : ℕ → Code → Code
loop s c base next = Branch (enter s (base + 1) base) next ∷ c (base + 1) base

abbrev pub rep_code : ℕ → Code → ℕ → Option ℕ → Code
rep_code s c min None = both (min * s) (s + 1) (copies min s c) (loop s c)
rep_code s c min (Some max) =
    if nat_lt max min then fail else both (min * s) ((max - min) * (s + 1)) (copies min s c) (options (max - min) s c)

-- a first branch, and the others
abbrev pub choice_code : ℕ → ℕ → ℕ → Code → Code → Code
choice_code zero s1 s2 c1 c2 = c1
choice_code (suc k) s1 s2 c1 c2 = either s1 s2 c1 c2

abbrev mutual
  pub code_of : Tree → Code
  code_of t.Empty base next = []
  code_of (t.One bytes) base next = Read next bytes ∷ []
  code_of (t.Seq ts) base next = code_all ts base next
  code_of (t.Alt ts) base next = code_any ts base next
  code_of (t.Rep inner min max) base next = rep_code (size_of inner) (code_of inner) min max base next
  code_of t.Start base next = Ask a.Start next ∷ []
  code_of t.End base next = Ask a.End next ∷ []
  code_of t.Edge base next = Ask a.Edge next ∷ []
  code_of t.NotEdge base next = Ask a.NotEdge next ∷ []
  code_of t.WideEdge base next = Ask a.WideEdge next ∷ []
  code_of t.WideNotEdge base next = Ask a.WideNotEdge next ∷ []

  pub code_all : Trees → Code
  code_all none base next = []
  code_all (more t ts) base next = both (size_of t) (sizes_of ts) (code_of t) (code_all ts) base next

  pub code_any : Trees → Code
  code_any none base next = fail base next
  code_any (more t ts) base next =
      choice_code (members ts) (size_of t) (choice_size (members ts) (sizes_of ts)) (code_of t) (code_any ts) base next

-- the whole program
abbrev pub program_of : Tree → List Act
program_of t = code_of t 0 (size_of t) ++ Stop ∷ []
