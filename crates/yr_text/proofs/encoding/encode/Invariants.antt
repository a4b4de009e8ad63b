use Rattle.std.proofs.Common.{◌≡◌}
use Rattle.std.specs.List.{flat_map, range_with_len}
use Rattle.yr_text.specs.Encoding.{group_letter}
use Rattle.yr_text.proofs.encoding.encode.Given as goal

abbrev pub invariant-loop-k : goal.invariant-loop-k
invariant-loop-k l = l.text.items ≡ flat_map (group_letter l.alphabet l.bytes l.p) (range_with_len 0 l.k)
