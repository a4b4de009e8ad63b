use Rattle.std.proofs.Common.{◌≡◌, length}
use Rattle.yr_machine.specs.CodeWalk.{close}
use Rattle.yr_verifier.specs.Steps.{Agrees}
use Rattle.yr_verifier.proofs.walk.Walk.close.Given as goal

abbrev pub invariant-loop-block : goal.invariant-loop-block
invariant-loop-block l = record {
  rest : close l.place l.self.kinds l.self.blocks ≡ close l.place l.initial.self.kinds l.initial.self.blocks;
  agrees : Agrees l.self;
}

abbrev pub decreases-loop-block : goal.decreases-loop-block
decreases-loop-block l = length l.self.blocks
