use Rattle.std.proofs.Common.{◌≡◌, ◌+◌, ◌<◌, ◌≤◌, length}
use Rattle.yr_image.specs.Views.{image_of}
use Rattle.yr_machine.specs.Budget.{output_cost}
use Rattle.yr_search.specs.State.{State, state_of, IsFor, owed}
use Rattle.yr_search.specs.Taking.{TakesAll}
use Rattle.yr_search.specs.Uppers.{upper, depth_of, costs}
use Rattle.yr_search.proofs.node.take_upper.Given as goal

abbrev pub invariant-rising : goal.invariant-rising
invariant-rising g l = record {
  inside : l.up < length (image_of l.scene.view.now).nodes;
  deep : depth_of (image_of l.scene.view.now) l.up ≤ l.at;
  takes : (new : State) → TakesAll (image_of l.scene.view.now) l.scene.file.now l.at (upper (image_of l.scene.view.now) l.up) (state_of l.gathered) new
      → TakesAll (image_of l.scene.view.now) l.scene.file.now l.at (upper (image_of l.scene.view.now) l.fn.node) (state_of l.fn.gathered) new;
  count : l.count + length (upper (image_of l.scene.view.now) l.up) ≡ length (upper (image_of l.scene.view.now) l.fn.node);
  room : l.marks.room ≡ l.fn.marks.room;
  fits : IsFor (image_of l.scene.view.now) l.scene.file.now l.gathered;
  least : l.initial.steps + l.count ≤ l.steps;
  most : l.steps + owed (image_of l.scene.view.now) (length l.scene.file.now) (state_of l.gathered)
      + costs (output_cost (image_of l.scene.view.now) (length l.scene.file.now)) (upper (image_of l.scene.view.now) l.up)
      ≤ l.initial.steps + owed (image_of l.scene.view.now) (length l.scene.file.now) (state_of l.fn.gathered)
      + costs (output_cost (image_of l.scene.view.now) (length l.scene.file.now)) (upper (image_of l.scene.view.now) l.fn.node);
}

abbrev pub decreases-rising : goal.decreases-rising
decreases-rising g l = l.up
