use Rattle.std.proofs.Common.{◌≡◌, ◌/◌, ◌%◌, ◌+◌, ◌*◌, ◌∷◌, [], false, inl, inr, length, sym, ap, ◌∙◌, subst, arith, length-append}
use Rattle.std.specs.Prelude.{slice_get}
use Rattle.yr_image.specs.Views.{image_of}
use Rattle.yr_search.specs.Skips.{IsPassed}
use Rattle.yr_search.proofs.SkipLemmas.{push_cases, pair_parts}
use Rattle.yr_search.proofs.skipping.pair_table.Goals as goal

pub loop-pair-preserved : goal.loop-pair-preserved
loop-pair-preserved c =
    let image = image_of c.args.scene.now.view.now in
    let old = c.loop-pair.table.items in
    let x = c.is_live.result in
    let inv = c.loop-pair.invariant in
    record {
      long = ap length c.in_ok-push.ensures.items ∙ (let long = length-append old (x ∷ []) in omega (arith, long, inv.long));
      passed = λ j at. elim (push_cases old x j false (ap (λ l. slice_get l j) (sym c.in_ok-push.ensures.items) ∙ at)) [
        | inl before ↦ inv.passed j before
        | inr here ↦
            let same : j ≡ c.loop-pair.pair = here.0 ∙ inv.long in
            subst (λ k. IsPassed image (k / 256) (k % 256)) (sym same) (c.is_live.ensures here.1)
      ];
    }

pub returns : goal.returns
returns c =
    let image = image_of c.args.scene.now.view.now in
    record {
      long = omega (arith, c.loop-pair.invariant.long, c.loop-pair-test.false, c.loop-pair.auto.pair-end);
      passed = λ b k lt at.
          let parts = pair_parts b k lt in
          subst (λ n. IsPassed image n k) parts.0 (subst (λ n. IsPassed image ((b * 256 + k) / 256) n) parts.1 (c.loop-pair.invariant.passed (b * 256 + k) at));
    }
