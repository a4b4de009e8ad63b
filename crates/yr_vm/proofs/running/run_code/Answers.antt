use Rattle.std.proofs.Common.{◌≡◌, ◌+◌, ◌-◌, ◌<◌, ◌≤◌, ℕ, List, [], Option, Some, None, Bool, length, map, refl, sym, ap, ◌∙◌, subst, arith}
use Rattle.std.proofs.lemmas.List.{length-map}
use Rattle.yr_values.specs.Values.{Value, shown}
use Rattle.yr_answer.specs.Truths.{truths_shown, is_yes}
use Rattle.yr_answer.specs.Turns.{Turn}
use Rattle.yr_image.specs.Image.{code_of}
use Rattle.yr_image.specs.Views.{image_of}
use Rattle.yr_machine.specs.Budget.{code_cost}
use Rattle.yr_machine.specs.CodeWalk.{IsWellformedCode}
use Rattle.yr_machine.specs.Machine.{Machine, OpenLoop, going, done, step, start}
use Rattle.yr_machine.specs.Counts.{NotStuck}
use Rattle.yr_machine.proofs.RunLemmas.{Lives, lives_first, lives_goes, lives_next, lives_end}
use Rattle.yr_machine.proofs.ShortTexts.{AreShort, step-short, text-bounds}
use Rattle.yr_hits.specs.Programs.{HasRoom}
use Rattle.yr_vm.specs.OpenLoops.{loops_shown}
use Rattle.yr_vm.specs.Running.{longest_text}
use Rattle.yr_vm.specs.States.{seen, outcome_of}
use Rattle.yr_vm.specs.Taken.{AreAmong}
use Rattle.yr_vm.specs.Worlds.{context_of}
use Rattle.yr_vm.proofs.AmongLemmas.{AreKept, presents-among, step-kept}
use Rattle.yr_vm.proofs.LoopLemmas.{same-presents}
use Rattle.yr_machine.specs.ImageRun.{KnowsPrograms}
use Rattle.yr_vm.proofs.running.run_code.Given.{Over}
use Rattle.yr_vm.proofs.running.run_code.Goals as goal
use Rattle.yr_vm.proofs.running.run_code.Goals.{In_default}

pub loop-truth-init : goal.loop-truth-init
loop-truth-init g c =
    let image = image_of c.args.world.now.image in
    let begun : seen image.lists c.begin.new.self ≡ start = c.begin.ensures image.lists in
    let none : c.begin.new.self.stack ≡ [] = ap (λ (m : Machine). m.stack) begun in
    let closed : loops_shown image.lists c.begin.new.self.loops ≡ [] = ap (λ (m : Machine). m.loops) begun in (
      (λ occurs knows.
          let world = c.args.world.now in
          let image = image_of world.image in
          let context = context_of g.M.Modules.field_of g.M.Modules.call_of world occurs in
          let truths = truths_shown c.args.truths.now in
          let rows = code_of image c.args.rule.now in
          let x = longest_text context in
          let most = code_cost image x rows in
          subst (λ (m : Machine). Lives context truths rows x most most c.args.steps.now c.args.steps.now m) (sym begun)
          (lives_first context truths rows x c.requires.externals c.requires.modules
          (subst (λ n. IsWellformedCode image n rows) (sym (length-map c.args.truths.now is_yes)) c.requires.code) c.args.steps.now)),
      subst (AreShort _) (sym none) tt,
      subst (AreKept (length c.args.world.now.matches.now.lists)) (sym closed) tt,
      refl,
    )

pub step-requires-clause-externals : goal.step-requires-clause-externals
step-requires-clause-externals g c = sym (length-map c.args.world.now.externals.now shown) ∙ c.requires.externals.count

pub step-requires-clause-room : goal.step-requires-clause-room
step-requires-clause-room g c =
    subst (HasRoom (image_of c.args.world.now.image)) (sym c.loop-truth.invariant.3) c.requires.room

pub step-requires-clause-among : goal.step-requires-clause-among
step-requires-clause-among g c =
    let lists = (image_of c.args.world.now.image).lists in
    let s = c.loop-truth.state in
    let count = length c.args.world.now.matches.now.lists in
    subst (AreAmong count) (same-presents lists s.loops) (presents-among count (loops_shown lists s.loops) c.loop-truth.invariant.2)

pub step-requires-clause-goes : goal.step-requires-clause-goes
step-requires-clause-goes g c occurs knows =
    let world = c.args.world.now in
    let image = image_of world.image in
    let context = context_of g.M.Modules.field_of g.M.Modules.call_of world occurs in
    let truths = truths_shown c.args.truths.now in
    let rows = code_of image c.args.rule.now in
    let x = longest_text context in
    let most = code_cost image x rows in
    let s = c.loop-truth.state in
    let m = seen image.lists s in
    let before = c.args.steps.now in
    let now = c.loop-truth.steps in
    lives_goes context truths rows x most most before now m (c.loop-truth.invariant.0 occurs knows)

pub returns-in-Some-clause-truth : goal.returns-in-Some-clause-truth
returns-in-Some-clause-truth g c occurs knows =
    let world = c.args.world.now in
    let image = image_of world.image in
    let context = context_of g.M.Modules.field_of g.M.Modules.call_of world occurs in
    let truths = truths_shown c.args.truths.now in
    let rows = code_of image c.args.rule.now in
    let x = longest_text context in
    let most = code_cost image x rows in
    let s = c.loop-truth.state in
    let m = seen image.lists s in
    let before = c.args.steps.now in
    let now = c.loop-truth.steps in
    let short = c.loop-truth.invariant.1 in
    let l = c.loop-truth.invariant.0 occurs knows in
    let q : step context truths rows m ≡ done c.in-Some.truth =
    sym (c.step.ensures.outcome occurs knows) ∙ ap (λ r. outcome_of image.lists r c.step.new.state) c.in-Some.is in
    let e = lives_end context truths rows x most most before now m l c.step.new.steps c.in-Some.truth c.step.ensures.least (c.step.ensures.most occurs x short) q in
    record { count = e.0; ends = e.1; least = e.2; most = e.3 }

pub loop-truth-smaller : goal.loop-truth-smaller
loop-truth-smaller g c =
    let occurs = c.requires.knows.0 in
    let knows = c.requires.knows.1 in
    let world = c.args.world.now in
    let image = image_of world.image in
    let context = context_of g.M.Modules.field_of g.M.Modules.call_of world occurs in
    let truths = truths_shown c.args.truths.now in
    let rows = code_of image c.args.rule.now in
    let x = longest_text context in
    let most = code_cost image x rows in
    let s = c.loop-truth.state in
    let m = seen image.lists s in
    let before = c.args.steps.now in
    let now = c.loop-truth.steps in
    let later = c.step.new.steps in
    let m1 = seen image.lists c.step.new.state in
    let q : step context truths rows m ≡ going m1 =
    sym (c.step.ensures.outcome occurs knows) ∙ ap (λ (r : Option Bool). outcome_of image.lists r c.step.new.state) c.in_default.is in
    let next : Lives context truths rows x most most before later m1 =
    lives_next context truths rows x most most before now m (c.loop-truth.invariant.0 occurs knows) later m1 c.step.ensures.least
    (c.step.ensures.most occurs x c.loop-truth.invariant.1) q in
    omega (arith, next.greatest, c.step.ensures.least)

lives-on : (g : Over) (c : In_default g) (occurs : ℕ → List ℕ → Bool) → (knows : KnowsPrograms (context_of g.M.Modules.field_of g.M.Modules.call_of c.args.world.now occurs)) →
    Lives (context_of g.M.Modules.field_of g.M.Modules.call_of c.args.world.now occurs) (truths_shown c.args.truths.now)
    (code_of (image_of c.args.world.now.image) c.args.rule.now) (longest_text (context_of g.M.Modules.field_of g.M.Modules.call_of c.args.world.now occurs))
    (code_cost (image_of c.args.world.now.image) (longest_text (context_of g.M.Modules.field_of g.M.Modules.call_of c.args.world.now occurs)) (code_of (image_of c.args.world.now.image) c.args.rule.now))
    (code_cost (image_of c.args.world.now.image) (longest_text (context_of g.M.Modules.field_of g.M.Modules.call_of c.args.world.now occurs)) (code_of (image_of c.args.world.now.image) c.args.rule.now))
    c.args.steps.now c.step.new.steps (seen (image_of c.args.world.now.image).lists c.step.new.state)
lives-on g c occurs knows =
    let world = c.args.world.now in
    let image = image_of world.image in
    let context = context_of g.M.Modules.field_of g.M.Modules.call_of world occurs in
    let truths = truths_shown c.args.truths.now in
    let rows = code_of image c.args.rule.now in
    let x = longest_text context in
    let most = code_cost image x rows in
    let s = c.loop-truth.state in
    let m = seen image.lists s in
    let before = c.args.steps.now in
    let now = c.loop-truth.steps in
    let later = c.step.new.steps in
    let m1 = seen image.lists c.step.new.state in
    let q : step context truths rows m ≡ going m1 =
    sym (c.step.ensures.outcome occurs knows) ∙ ap (λ (r : Option Bool). outcome_of image.lists r c.step.new.state) c.in_default.is in
    let next : Lives context truths rows x most most before later m1 =
    lives_next context truths rows x most most before now m (c.loop-truth.invariant.0 occurs knows) later m1 c.step.ensures.least
    (c.step.ensures.most occurs x c.loop-truth.invariant.1) q in
    next

pub loop-truth-preserved : goal.loop-truth-preserved
loop-truth-preserved g c =
    let occurs = c.requires.knows.0 in
    let knows = c.requires.knows.1 in
    let world = c.args.world.now in
    let image = image_of world.image in
    let context = context_of g.M.Modules.field_of g.M.Modules.call_of world occurs in
    let truths = truths_shown c.args.truths.now in
    let rows = code_of image c.args.rule.now in
    let x = longest_text context in
    let most = code_cost image x rows in
    let s = c.loop-truth.state in
    let m = seen image.lists s in
    let before = c.args.steps.now in
    let now = c.loop-truth.steps in
    let later = c.step.new.steps in
    let m1 = seen image.lists c.step.new.state in
    let q : step context truths rows m ≡ going m1 =
    sym (c.step.ensures.outcome occurs knows) ∙ ap (λ (r : Option Bool). outcome_of image.lists r c.step.new.state) c.in_default.is in (
      lives-on g c,
      step-short x context c.requires.externals c.requires.modules (text-bounds context) truths rows m m1 q c.loop-truth.invariant.1,
      step-kept (length world.matches.now.lists) context truths c.requires.lists rows m m1 q c.loop-truth.invariant.2,
      c.step.ensures.room ∙ c.loop-truth.invariant.3,
    )
