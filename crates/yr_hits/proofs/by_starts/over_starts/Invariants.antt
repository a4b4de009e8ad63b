use Rattle.std.proofs.Common.{◌≡◌, ◌+◌, ◌*◌, ◌≤◌, length}
use Rattle.yr_walks.specs.StartWalks.{IsReadyFor}
use Rattle.yr_hits.specs.Gathering.{Grows}
use Rattle.yr_hits.specs.Sweeps.{SpansFrom, IsCountBelow, IsPaid}
use Rattle.yr_hits.specs.Walks.{IsStartWalkOf, IsMidStarts}
use Rattle.yr_hits.proofs.by_starts.over_starts.Given as goal

abbrev pub invariant-falling : goal.invariant-falling
invariant-falling g l = record {
  walk : IsStartWalkOf l.hit l.walk;
  ready : IsReadyFor l.walk l.kept;
  midway : IsMidStarts l.hit l.hits l.walk l.kept;
  moves : length l.walk.moves ≡ length l.initial.walk.moves;
  inside : l.walk.place + l.hit.row.atom_length ≤ length l.hit.file.now + 1;
  left : IsCountBelow l.hits (l.walk.place + l.hit.row.atom_length) l.left;
  room : l.marks.room ≡ l.fn.marks.room;
  grows : Grows (SpansFrom l.hit l.hits l.walk.place) l.hit.greatest l.fn.list.items l.list.items;
  up : l.initial.steps ≤ l.steps;
  paid : IsPaid (2 * length l.initial.walk.moves + 2) (length l.hit.file.now + 1) 1 (length l.hits) l.walk.place l.left l.initial.steps l.steps;
}

abbrev pub decreases-falling : goal.decreases-falling
decreases-falling g l = l.walk.place
