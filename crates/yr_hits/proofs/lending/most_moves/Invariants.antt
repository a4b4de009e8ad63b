use Rattle.std.proofs.Common.{ℕ, ◌<◌, ◌≤◌}
use Rattle.yr_image.specs.Views.{image_of}
use Rattle.yr_machine.specs.Budget.{moves_count}
use Rattle.yr_hits.proofs.lending.most_moves.Given as goal

abbrev pub invariant-loop-k : goal.invariant-loop-k
invariant-loop-k l = (k : ℕ) → k < l.k → moves_count (image_of l.view) k ≤ l.most
