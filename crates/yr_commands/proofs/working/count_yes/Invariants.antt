use Rattle.std.proofs.Common.{◌≡◌, ◌≤◌, take}
use Rattle.std.specs.List.{count_by}
use Rattle.yr_answer.specs.Truths.{truths_shown}
use Rattle.yr_commands.proofs.working.count_yes.Given as goal

abbrev pub invariant-loop-truth : goal.invariant-loop-truth
invariant-loop-truth l = record {
  counted : l.count ≡ count_by (λ truth. truth) (truths_shown (take l.truth-index l.truths));
  few : l.count ≤ l.truth-index;
}
