use Rattle.std.proofs.Common.{◌≡◌, ◌+◌, ◌-◌, ◌*◌, ◌<◌, ◌≤◌, length}
use Rattle.yr_image.specs.Views.{image_of}
use Rattle.yr_machine.specs.Budget.{output_cost}
use Rattle.yr_search.specs.State.{state_of, IsFor, owed}
use Rattle.yr_search.specs.Uppers.{own, costs, depth_of}
use Rattle.yr_search.specs.Walked.{Stands, Walked, front_cost}
use Rattle.yr_search.proofs.walking.walk.Given as goal

abbrev pub invariant-along : goal.invariant-along
invariant-along g l = record {
  stands : Stands (image_of l.scene.view.now) l.scene.file.now l.at l.node;
  far : l.at ≤ length l.scene.file.now;
  inside : l.node < length (image_of l.scene.view.now).nodes;
  deep : depth_of (image_of l.scene.view.now) l.node ≤ l.at;
  walked : Walked (image_of l.scene.view.now) l.scene.file.now l.at (state_of l.fn.gathered) (state_of l.gathered) l.count;
  room : l.marks.room ≡ l.fn.marks.room;
  fits : IsFor (image_of l.scene.view.now) l.scene.file.now l.gathered;
  small : l.count ≤ l.at * 1073741824;
  least : l.initial.steps + l.count ≤ l.steps;
  most : l.steps + owed (image_of l.scene.view.now) (length l.scene.file.now) (state_of l.gathered) + l.at * costs (output_cost (image_of l.scene.view.now) (length l.scene.file.now)) (own (image_of l.scene.view.now) 0)
      ≤ l.initial.steps + owed (image_of l.scene.view.now) (length l.scene.file.now) (state_of l.fn.gathered) + 5 * l.at + l.at * front_cost (image_of l.scene.view.now) (length l.scene.file.now);
}

abbrev pub decreases-along : goal.decreases-along
decreases-along g l = length l.scene.file.now - l.at
