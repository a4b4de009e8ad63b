use Rattle.std.proofs.Common.{◌≡◌, ◌++◌, map, take}
use Rattle.std.specs.Prelude.{bit_xor}
use Rattle.yr_workload.proofs.piece.put_keyed.Given as goal

abbrev pub invariant-loop-b : goal.invariant-loop-b
invariant-loop-b l = l.file.items ≡ l.initial.file.items ++ map (λ x. bit_xor x l.mask) (take l.b-index l.word)
