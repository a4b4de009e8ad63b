use Rattle.std.proofs.Common.{◌≡◌, ◌≤◌, length}
use Rattle.yr_image.specs.Views.{image_of}
use Rattle.yr_machine.specs.Budget.{hit_cost}
use Rattle.yr_hits.specs.Gathering.{Grows}
use Rattle.yr_hits.specs.Sweeps.{SpansOfRest}
use Rattle.yr_hits.proofs.PaidLemmas.{PaidEach}
use Rattle.yr_hits.proofs.one_by_one.one_by_one.Given as goal

abbrev pub invariant-along : goal.invariant-along
invariant-along g l = record {
  inside : l.k ≤ length l.hits;
  grows : Grows (SpansOfRest l.hit l.hits l.k) l.hit.greatest l.fn.list.items l.list.items;
  room : l.marks.room ≡ l.fn.marks.room;
  up : l.initial.steps ≤ l.steps;
  paid : PaidEach (hit_cost (image_of l.hit.view.now) (length l.hit.file.now) l.hit.row) (length l.hits) l.k l.initial.steps l.steps;
}

abbrev pub decreases-along : goal.decreases-along
decreases-along g l = l.k
