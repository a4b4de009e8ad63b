use Rattle.std.proofs.Common.{◌≡◌, suc, set, ◌+◌, ◌<◌, ◌≤◌, ℕ, Bool, List, [], ◌∷◌, ◌++◌, length, map, take, refl, sym, ap, ◌∙◌, subst, arith}
use Rattle.std.proofs.lemmas.List.{length-take-le}
use Rattle.std.proofs.Math.Seq.{take-length}
use Rattle.yr_base.specs.declared.value.Truth.{Truth}
use Rattle.yr_answer.specs.Truths.{truths_shown, is_yes}
use Rattle.yr_image.specs.Image.{code_of}
use Rattle.yr_image.specs.Views.{image_of, shown_bytes}
use Rattle.yr_machine.specs.CodeWalk.{IsWellformedCode}
use Rattle.yr_machine.proofs.RuleLemmas.{AreFirst, first_none, first_more, first_all}
use Rattle.yr_vm.specs.Worlds.{context_of}
use Rattle.yr_vm.proofs.EvaluationLemmas.{rules-small, code-small, code-wellformed, truths-more}
use Rattle.yr_vm.proofs.evaluating.run_rules.Goals as goal

take-none : (xs : List Truth) → truths_shown (take 0 xs) ≡ []
take-none [] = refl
take-none (x ∷ xs) = refl

pub loop-k-init : goal.loop-k-init
loop-k-init g c = (
  (λ occurs knows.
      subst (λ (truths : List Bool). AreFirst (context_of g.M.Modules.field_of g.M.Modules.call_of c.args.world.now occurs) 0 truths c.args.steps.now c.args.steps.now)
      (sym (take-none c.args.results.now)) (first_none (context_of g.M.Modules.field_of g.M.Modules.call_of c.args.world.now occurs) c.args.steps.now)),
  refl,
)

pub overflow_cast-k : goal.overflow_cast-k
overflow_cast-k g c =
    omega (arith, rules-small (shown_bytes c.args.world.now.image) c.requires.wellformed, c.requires.results)

pub run_code-truth-requires-clause-small : goal.run_code-truth-requires-clause-small
run_code-truth-requires-clause-small g c = code-small (shown_bytes c.args.world.now.image) c.requires.wellformed

pub run_code-truth-requires-clause-code : goal.run_code-truth-requires-clause-code
run_code-truth-requires-clause-code g c =
    let image = image_of c.args.world.now.image in
    let size : length (take c.loop-k.k c.loop-k.results) ≡ c.loop-k.k =
    length-take-le c.loop-k.k c.loop-k.results (omega (arith, c.loop-k.auto.results, c.loop-k-test.true)) in
    subst (λ n. IsWellformedCode image n (code_of image c.rule-rule.result)) (sym size)
    (code-wellformed (shown_bytes c.args.world.now.image) c.requires.wellformed c.loop-k.k c.rule-rule.result c.rule-rule.ensures)

pub loop-k-preserved : goal.loop-k-preserved
loop-k-preserved g c = (
  (λ occurs knows.
      let context = context_of g.M.Modules.field_of g.M.Modules.call_of c.args.world.now occurs in
      let k = c.loop-k.k in
      let results = c.loop-k.results in
      let before = c.args.steps.now in
      let later = c.run_code-truth.new.steps in
      let truths = truths_shown (take k results) in
      let truth = c.run_code-truth.result in
      let r = c.run_code-truth.ensures.truth occurs knows in
      let one : suc k ≡ k + 1 = omega arith in
      let inside : k < length results = omega (arith, c.loop-k.auto.results, c.loop-k-test.true) in
      let next : AreFirst context (suc k) (truths ++ (truth ∷ [])) before later =
      first_more context k truths before c.loop-k.steps (c.loop-k.invariant.0 occurs knows) c.rule-rule.result c.rule-rule.ensures truth r.count later r.ends
      r.least r.most in
      subst (λ n. AreFirst context n (truths_shown (take (k + 1) (set results k c.truth_of.result))) before later) one
      (subst (λ (ts : List Bool). AreFirst context (suc k) ts before later) (sym (truths-more results k c.truth_of.result truth inside c.truth_of.ensures)) next)),
  c.run_code-truth.ensures.room ∙ c.loop-k.invariant.1,
)

pub returns-clause-evaluation : goal.returns-clause-evaluation
returns-clause-evaluation g c occurs knows =
    let image = image_of c.args.world.now.image in
    let context = context_of g.M.Modules.field_of g.M.Modules.call_of c.args.world.now occurs in
    let results = c.loop-k.results in
    let before = c.args.steps.now in
    let now = c.loop-k.steps in
    let first = c.loop-k.invariant.0 occurs knows in
    let end : c.loop-k.k ≡ length results = omega (arith, c.loop-k.auto.results, c.loop-k.auto.k-end, c.loop-k-test.false) in
    let all : length results ≡ length image.rules = omega (arith, c.loop-k.auto.results, c.requires.results) in
    let whole : truths_shown (take c.loop-k.k results) ≡ truths_shown results = ap (λ n. truths_shown (take n results)) end ∙ ap truths_shown (take-length results) in
    let done : AreFirst context (length image.rules) (truths_shown results) before now =
    subst (λ n. AreFirst context n (truths_shown results) before now) (end ∙ all)
    (subst (λ (ts : List Bool). AreFirst context c.loop-k.k ts before now) whole first) in
    let r = first_all context (truths_shown results) before now done in
    record { truths_are = r.0; counts = r.1.0; counted = r.1.1; least = r.1.2; most = r.1.3 }
