use Rattle.std.proofs.Common.{◌≡◌, ◌≤◌, take}
use Rattle.std.specs.List.{flat_map}
use Rattle.yr_base.specs.Told.{told_more}
use Rattle.yr_base.proofs.putting.put_all.Given as goal

-- what was put so far
abbrev pub invariant-loop-piece : goal.invariant-loop-piece
invariant-loop-piece g l = record {
  later : g.O.Sink.faults l.fn.out ≤ g.O.Sink.faults l.out;
  so_far : g.O.Sink.written l.out ≡ told_more (g.O.Sink.written l.fn.out) (flat_map (λ p. p.now) (take l.piece-index l.pieces));
}
