use Rattle.std.proofs.Common.{◌≡◌, ℕ, Bool, List, take}
use Rattle.yr_answer.specs.Truths.{truths_shown}
use Rattle.yr_machine.specs.ImageRun.{KnowsPrograms}
use Rattle.yr_machine.proofs.RuleLemmas.{AreFirst}
use Rattle.yr_vm.specs.Worlds.{context_of}
use Rattle.yr_vm.proofs.evaluating.run_rules.Given as goal

abbrev pub invariant-loop-k : goal.invariant-loop-k
invariant-loop-k g l =
    let context_by = context_of g.M.Modules.field_of g.M.Modules.call_of l.world in
    ((occurs : ℕ → List ℕ → Bool) → KnowsPrograms (context_by occurs) → AreFirst (context_by occurs) l.k (truths_shown (take l.k l.results)) l.initial.steps l.steps)
    × (l.marks.room ≡ l.initial.marks.room)
