use Rattle.std.proofs.Common.{◌≡◌, ◌+◌, ◌≤◌, List, length}
use Rattle.yr_answer.specs.MatchList.{Match}
use Rattle.yr_image.specs.Views.{image_of}
use Rattle.yr_answer.specs.Found.{items_of}
use Rattle.yr_search.specs.State.{state_of, hits_in, AreInFile, owed}
use Rattle.yr_search.specs.Taking.{TakesLater}
use Rattle.yr_search.proofs.gathering.take_later.Given as goal

abbrev pub invariant-taking : goal.invariant-taking
invariant-taking g l = record {
  takes : (new : List (List Match)) → TakesLater (image_of l.scene.view.now) l.scene.file.now 0 (hits_in l.gathered.later.items) (items_of l.gathered.lists.items) new
      → TakesLater (image_of l.scene.view.now) l.scene.file.now 0 (hits_in l.fn.gathered.later.items) (items_of l.fn.gathered.lists.items) new;
  lists : length l.gathered.lists.items ≡ length l.fn.gathered.lists.items;
  few : length l.gathered.later.items ≤ length (image_of l.scene.view.now).splits;
  inside : AreInFile (image_of l.scene.view.now) l.scene.file.now (hits_in l.gathered.later.items);
  room : l.marks.room ≡ l.fn.marks.room;
  least : l.initial.steps ≤ l.steps;
  most : l.steps + owed (image_of l.scene.view.now) (length l.scene.file.now) (state_of l.gathered)
      ≤ l.initial.steps + owed (image_of l.scene.view.now) (length l.scene.file.now) (state_of l.fn.gathered);
}

abbrev pub decreases-taking : goal.decreases-taking
decreases-taking g l = length l.gathered.later.items
