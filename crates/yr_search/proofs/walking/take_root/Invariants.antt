use Rattle.std.proofs.Common.{◌≡◌, ◌+◌, ◌-◌, ◌*◌, ◌≤◌, length}
use Rattle.yr_image.specs.Views.{image_of}
use Rattle.yr_machine.specs.Budget.{output_cost}
use Rattle.yr_search.specs.State.{State, state_of, IsFor, owed}
use Rattle.yr_search.specs.Taking.{TakesFronts}
use Rattle.yr_search.specs.Uppers.{own, costs}
use Rattle.yr_search.specs.Walked.{repeated, root_fronts}
use Rattle.yr_search.proofs.walking.take_root.Given as goal

abbrev pub invariant-loop-at : goal.invariant-loop-at
invariant-loop-at g l = record {
  takes : (new : State) → TakesFronts (image_of l.scene.view.now) l.scene.file.now l.at
      (repeated (length l.scene.file.now + 1 - l.at) (own (image_of l.scene.view.now) 0)) (state_of l.gathered) new
      → TakesFronts (image_of l.scene.view.now) l.scene.file.now 0 (root_fronts (image_of l.scene.view.now) l.scene.file.now) (state_of l.fn.gathered) new;
  count : l.count ≡ l.at * length (own (image_of l.scene.view.now) 0);
  room : l.marks.room ≡ l.fn.marks.room;
  fits : IsFor (image_of l.scene.view.now) l.scene.file.now l.gathered;
  least : l.initial.steps + l.count ≤ l.steps;
  most : l.steps + owed (image_of l.scene.view.now) (length l.scene.file.now) (state_of l.gathered)
      ≤ l.initial.steps + owed (image_of l.scene.view.now) (length l.scene.file.now) (state_of l.fn.gathered) + l.at * costs (output_cost (image_of l.scene.view.now) (length l.scene.file.now)) (own (image_of l.scene.view.now) 0);
}
