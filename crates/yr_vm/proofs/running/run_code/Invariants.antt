use Rattle.std.proofs.Common.{◌≡◌, ◌+◌, ◌-◌, ℕ, Bool, false, List, length}
use Rattle.yr_answer.specs.Truths.{truths_shown}
use Rattle.yr_image.specs.Image.{code_of}
use Rattle.yr_image.specs.Views.{image_of}
use Rattle.yr_machine.specs.Budget.{code_cost}
use Rattle.yr_machine.specs.ImageRun.{KnowsPrograms}
use Rattle.yr_machine.proofs.RunLemmas.{Lives}
use Rattle.yr_machine.proofs.ShortTexts.{AreShort}
use Rattle.yr_vm.specs.OpenLoops.{loops_shown}
use Rattle.yr_vm.specs.Running.{longest_text}
use Rattle.yr_vm.specs.States.{seen}
use Rattle.yr_vm.specs.Worlds.{context_of}
use Rattle.yr_vm.proofs.AmongLemmas.{AreKept}
use Rattle.yr_vm.proofs.running.run_code.Given as goal

-- for every function that knows the programs the machine stands here
abbrev pub invariant-loop-truth : goal.invariant-loop-truth
invariant-loop-truth g l =
    let image = image_of l.world.image in
    let context_by = context_of g.M.Modules.field_of g.M.Modules.call_of l.world in
    let truths = truths_shown l.truths in
    let rows = code_of image l.rule in
    let x = longest_text (context_by (λ k text. false)) in
    let most = code_cost image x rows in
    ((occurs : ℕ → List ℕ → Bool) → KnowsPrograms (context_by occurs) → Lives (context_by occurs) truths rows x most most l.initial.steps l.steps (seen image.lists l.state))
    × AreShort x l.state.stack
    × AreKept (length l.world.matches.now.lists) (loops_shown image.lists l.state.loops) × (l.marks.room ≡ l.initial.marks.room)

-- each row is a step at least
abbrev pub decreases-loop-truth : goal.decreases-loop-truth
decreases-loop-truth g l =
    let image = image_of l.world.image in
    let x = longest_text (context_of g.M.Modules.field_of g.M.Modules.call_of l.world (λ k text. false)) in
    l.initial.steps + code_cost image x (code_of image l.rule) - l.steps
