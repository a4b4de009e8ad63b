use Rattle.std.proofs.Common.{◌≡◌, ◌+◌, ◌*◌, ◌≤◌, length}
use Rattle.yr_walks.specs.Spans.{IsReadyFor}
use Rattle.yr_hits.specs.Gathering.{Grows}
use Rattle.yr_hits.specs.Sweeps.{SpansFrom, IsCountBelow, IsPaid}
use Rattle.yr_hits.specs.Walks.{IsSpanWalkOf, IsMidSpans}
use Rattle.yr_hits.proofs.by_spans.over_spans.Given as goal

abbrev pub invariant-falling : goal.invariant-falling
invariant-falling g l = record {
  walk : IsSpanWalkOf l.hit l.walk;
  ready : IsReadyFor l.walk l.kept;
  midway : IsMidSpans l.hit l.hits l.walk l.kept;
  moves : (length l.walk.starts.moves ≡ length l.initial.walk.starts.moves) × (length l.walk.ends.moves ≡ length l.initial.walk.ends.moves);
  inside : l.walk.starts.place + l.hit.row.atom_length ≤ length l.hit.file.now + 1;
  left : IsCountBelow l.hits (l.walk.starts.place + l.hit.row.atom_length) l.left;
  grows : Grows (SpansFrom l.hit l.hits l.walk.starts.place) l.hit.greatest l.fn.list.items l.list.items;
  up : l.initial.steps ≤ l.steps;
  paid : IsPaid (2 * length l.initial.walk.ends.moves + 2 * length l.initial.walk.starts.moves + 2) (length l.hit.file.now + 1) 0 (length l.hits) l.walk.starts.place l.left l.initial.steps l.steps;
}

abbrev pub decreases-falling : goal.decreases-falling
decreases-falling g l = l.walk.starts.place
