use Rattle.std.proofs.Common.{◌≡◌, ◌+◌, ◌*◌, ◌≤◌, length}
use Rattle.yr_walks.specs.EndWalks.{IsMidway}
use Rattle.yr_hits.specs.Gathering.{Grows}
use Rattle.yr_hits.specs.Sweeps.{SpansOfLater, IsCountBelow, IsPaid}
use Rattle.yr_hits.specs.Walks.{IsEndWalkOf}
use Rattle.yr_hits.proofs.by_ends.over_ends.Given as goal

abbrev pub invariant-falling : goal.invariant-falling
invariant-falling g l = record {
  midway : IsMidway l.walk l.marks;
  walk : IsEndWalkOf l.hit l.walk;
  moves : length l.walk.moves ≡ length l.initial.walk.moves;
  place : l.walk.place ≤ length l.hit.file.now + 1;
  left : IsCountBelow l.hits l.walk.place l.left;
  grows : Grows (SpansOfLater l.hit l.hits l.walk.place) l.hit.greatest l.fn.list.items l.list.items;
  up : l.initial.steps ≤ l.steps;
  paid : IsPaid (2 * length l.initial.walk.moves) (length l.hit.file.now + 1) 2 (length l.hits) l.walk.place l.left l.initial.steps l.steps;
}

abbrev pub decreases-falling : goal.decreases-falling
decreases-falling g l = l.walk.place
