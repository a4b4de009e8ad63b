use Rattle.std.proofs.Common.{◌+◌, ◌-◌, ◌*◌, length}
use Rattle.memchr.proofs.lemmas.SuffixLemmas.{IsScan}
use Rattle.yr_values.specs.Folded.{folded_at, Comes}
use Rattle.yr_values.proofs.folded.greatest_suffix.Given as goal

abbrev pub invariant-loop-candidate : goal.invariant-loop-candidate
invariant-loop-candidate l = IsScan (Comes l.order) (folded_at l.part) (length l.part) l.at l.period l.candidate l.offset

abbrev pub decreases-loop-candidate : goal.decreases-loop-candidate
decreases-loop-candidate l = 2 * length l.part + 1 - (l.at + l.candidate + l.offset)
