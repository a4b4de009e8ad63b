use Rattle.std.proofs.Common.{◌≡◌, ◌++◌, take}
use Rattle.std.specs.List.{flat_map}
use Rattle.yr_workload.specs.Workload.{wide_capital}
use Rattle.yr_workload.proofs.piece.put_wide.Given as goal

abbrev pub invariant-loop-b : goal.invariant-loop-b
invariant-loop-b l = l.file.items ≡ l.initial.file.items ++ flat_map wide_capital (take l.b-index l.word)
