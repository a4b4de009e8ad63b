use Rattle.std.proofs.Common.{◌≡◌, ◌+◌, ◌≤◌, length, drop}
use Rattle.yr_image.specs.Views.{image_of}
use Rattle.yr_machine.specs.Budget.{output_cost}
use Rattle.yr_search.specs.State.{State, state_of, IsFor, owed}
use Rattle.yr_search.specs.Taking.{TakesAll}
use Rattle.yr_search.specs.Uppers.{own, costs}
use Rattle.yr_search.proofs.node.take_own.Given as goal

abbrev pub invariant-loop-k : goal.invariant-loop-k
invariant-loop-k g l = record {
  takes : (new : State) → TakesAll (image_of l.scene.view.now) l.scene.file.now l.at (drop l.k (own (image_of l.scene.view.now) l.node)) (state_of l.gathered) new
      → TakesAll (image_of l.scene.view.now) l.scene.file.now l.at (own (image_of l.scene.view.now) l.node) (state_of l.fn.gathered) new;
  room : l.marks.room ≡ l.fn.marks.room;
  fits : IsFor (image_of l.scene.view.now) l.scene.file.now l.gathered;
  least : l.initial.steps + l.k ≤ l.steps;
  most : l.steps + owed (image_of l.scene.view.now) (length l.scene.file.now) (state_of l.gathered)
      + costs (output_cost (image_of l.scene.view.now) (length l.scene.file.now)) (drop l.k (own (image_of l.scene.view.now) l.node))
      ≤ l.initial.steps + owed (image_of l.scene.view.now) (length l.scene.file.now) (state_of l.fn.gathered)
      + costs (output_cost (image_of l.scene.view.now) (length l.scene.file.now)) (own (image_of l.scene.view.now) l.node);
}
