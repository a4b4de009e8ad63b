use Rattle.std.proofs.Common.{◌≡◌, ◌+◌, ◌≤◌, length}
use Rattle.yr_image.specs.Views.{image_of}
use Rattle.yr_machine.specs.Budget.{moves_count}
use Rattle.yr_moves.specs.Walks.{IsMidway}
use Rattle.yr_hits.specs.Gathering.{Grows}
use Rattle.yr_hits.specs.Spans.{begin_of}
use Rattle.yr_hits.proofs.StartLemmas.{Finds, SpansFrom, Paid}
use Rattle.yr_hits.proofs.starting.add_starts.Given as goal

abbrev pub invariant-falling : goal.invariant-falling
invariant-falling g l = record {
  midway : IsMidway l.walk l.marks;
  finds : Finds l.hit l.walk;
  place : l.walk.place ≤ begin_of l.hit + 1;
  moves : length l.walk.moves ≡ moves_count (image_of l.hit.view.now) l.hit.row.before_place;
  room : l.marks.room ≡ l.fn.marks.room;
  grows : Grows (SpansFrom l.hit l.walk.place) l.hit.greatest l.fn.list.items l.list.items;
  up : l.initial.steps ≤ l.steps;
  paid : Paid (moves_count (image_of l.hit.view.now) l.hit.row.before_place) (begin_of l.hit + 1) l.walk.place l.initial.steps l.steps;
}

abbrev pub decreases-falling : goal.decreases-falling
decreases-falling g l = l.walk.place
