use Rattle.std.proofs.Common.{◌≡◌, drop}
use Rattle.yr_verifier.specs.Hashes.{hash_from}
use Rattle.yr_verifier.proofs.hashing.hash.Given as goal

abbrev pub invariant-loop-b : goal.invariant-loop-b
invariant-loop-b l = hash_from l.key l.h (drop l.b-index l.name) ≡ hash_from l.key 0 l.name
