use Rattle.std.proofs.Common.{◌≡◌, ◌++◌, length}
use Rattle.yr_parser.specs.Reading.{run_of, after_run, prefix_at}
use Rattle.yr_parser.proofs.prefix.prefixes.Given as goal

-- those that were read, and the run that is left
abbrev pub invariant-loop-op : goal.invariant-loop-op
invariant-loop-op l = record {
  operators : l.ops.items ++ run_of prefix_at l.tokens ≡ run_of prefix_at l.fn.tokens;
  rest : after_run prefix_at l.tokens ≡ after_run prefix_at l.fn.tokens;
}

abbrev pub decreases-loop-op : goal.decreases-loop-op
decreases-loop-op l = length l.tokens
