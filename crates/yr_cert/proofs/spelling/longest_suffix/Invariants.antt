use Rattle.std.proofs.Common.{◌≡◌, ◌<◌, ℕ, None, drop}
use Rattle.yr_rows.specs.Words.{path}
use Rattle.yr_automaton.specs.Atoms.{word}
use Rattle.yr_cert.specs.Tries.{edge_in}
use Rattle.yr_cert.proofs.spelling.longest_suffix.Given as goal

abbrev pub invariant-loop-from : goal.invariant-loop-from
invariant-loop-from l = (k : ℕ) → 0 < k → k < l.from → path (edge_in l.trie) 0 (drop k (word l.atom)) ≡ None
