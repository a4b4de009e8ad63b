-- What the code of the walk says of its steps.
use Rattle.std.specs.Prelude.{◌≡◌, ℕ, Bool, true, false, List, [], ◌∷◌}
use Rattle.yr_machine.specs.CodeWalk.{Verdict, fails, goes_on, finished, open_loops}
use Rattle.yr_machine.specs.declared.block.Block.{Block}
use Rattle.yr_machine.specs.declared.block.Opener.{Opener}
use Rattle.yr_machine.specs.declared.block.Opener.TheVariants.{Skip, Loop}
use Rattle.yr_verifier.specs.declared.walk.Pass.{Pass}
use Rattle.yr_verifier.specs.declared.walk.Pass.TheVariants as pass
use Rattle.yr_verifier.specs.declared.walk.Walk.{Walk}

-- what a step answered, and the stacks that it left
abbrev pub verdict_of : Pass → Walk → Verdict
verdict_of pass.Fails walk = fails
verdict_of pass.GoesOn walk = goes_on walk.kinds walk.blocks
verdict_of pass.Finished walk = finished

abbrev pub verdict_if : Bool → Walk → Verdict
verdict_if true walk = goes_on walk.kinds walk.blocks
verdict_if false walk = fails

-- the open loops are those of the open blocks
abbrev pub Agrees : Walk → Type 0
Agrees walk = walk.loops ≡ open_loops walk.blocks

-- they are where the walk goes on
abbrev pub AgreesAfter : Pass → Walk → Type 0
AgreesAfter pass.Fails walk = Unit {0}
AgreesAfter pass.GoesOn walk = Agrees walk
AgreesAfter pass.Finished walk = Unit {0}

-- the block was opened by a loop that keeps so many values
abbrev pub KeepsBy : Opener → (kept : ℕ) → Type 0
KeepsBy Skip kept = ⊥
KeepsBy (Loop place strings k) kept = k ≡ kept

-- so was the innermost block
abbrev pub IsLoopOf : (kept : ℕ) → List Block → Type 0
IsLoopOf kept [] = ⊥
IsLoopOf kept (b ∷ blocks) = KeepsBy b.opener kept
