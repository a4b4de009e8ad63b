use Rattle.std.proofs.Common.{◌≡◌, ◌≤◌, ◌*◌, take, length}
use Rattle.std.specs.List.{sum_by}
use Rattle.yr_commands.proofs.working.count_matches.Given as goal

abbrev pub invariant-loop-string : goal.invariant-loop-string
invariant-loop-string l = record {
  counted : l.count ≡ sum_by length (take l.string l.matches.lists);
  few : l.count ≤ l.string * 4294967295;
}
