use Rattle.std.proofs.Common.{◌≡◌, ◌+◌, ◌/◌, flat_map}
use Rattle.std.specs.List.{range_with_len}
use Rattle.yr_workload.specs.Workload.{after_draws, piece}
use Rattle.yr_workload.proofs.making.put_file.Given as goal

abbrev pub invariant-loop-p : goal.invariant-loop-p
invariant-loop-p l =
    (l.file.items ≡ flat_map (piece l.number) (range_with_len 0 l.p)) × (l.after ≡ after_draws l.number (96 + (l.p + 1) / 4))
