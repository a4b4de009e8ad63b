use Rattle.std.proofs.Common.{◌≡◌, ◌≤◌, ◌<◌, ◌+◌, ◌-◌, ℕ, length}
use Rattle.memchr.specs.Find.{Nowhere}
use Rattle.yr_values.specs.Folded.{folded_at, StandsFolded}
use Rattle.yr_values.proofs.folded.find.Given as goal

abbrev pub invariant-loop-at : goal.invariant-loop-at
invariant-loop-at l = record {
  within : l.at ≤ length l.text;
  before : Nowhere (StandsFolded l.text l.part) 0 l.at;
  few : l.known < length l.part;
  front : (k : ℕ) → k < l.known → folded_at l.part k ≡ folded_at l.text (l.at + k);
}

abbrev pub decreases-loop-at : goal.decreases-loop-at
decreases-loop-at l = length l.text - l.at
