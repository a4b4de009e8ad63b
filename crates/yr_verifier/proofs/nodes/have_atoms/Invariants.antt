use Rattle.std.proofs.Common.{ℕ, ◌<◌, ◌+◌, ◌≡◌, Some}
use Rattle.std.specs.Prelude.{slice_get}
use Rattle.yr_image.specs.Views.{image_of}
use Rattle.yr_machine.specs.Automaton.{HasAtomOf}
use Rattle.yr_verifier.proofs.nodes.have_atoms.Given as goal

abbrev pub invariant-loop-k : goal.invariant-loop-k
invariant-loop-k l = (j : ℕ) → j < l.k → (split : ℕ) → slice_get (image_of l.view).outputs (l.first + j) ≡ Some split → HasAtomOf (image_of l.view) l.depth split
