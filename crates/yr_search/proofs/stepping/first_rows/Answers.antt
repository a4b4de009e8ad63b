use Rattle.std.proofs.Common.{◌≡◌, ◌/◌, ◌%◌, ◌+◌, ◌*◌, ◌∷◌, [], inl, inr, length, sym, ap, ◌∙◌, subst, arith, length-append}
use Rattle.std.specs.Prelude.{slice_get}
use Rattle.yr_image.specs.Views.{shown_bytes, image_of}
use Rattle.yr_search.specs.Skips.{LeadsOn}
use Rattle.yr_search.proofs.SceneLemmas.{some_nodes, node_rows}
use Rattle.yr_search.proofs.SkipLemmas.{push_cases, pair_parts}
use Rattle.yr_search.proofs.stepping.first_rows.Goals as goal

pub loop-place-preserved : goal.loop-place-preserved
loop-place-preserved c =
    let image = image_of c.args.scene.now.view.now in
    let old = c.loop-place.rows.items in
    let to = c.target_by-target.result in
    let inv = c.loop-place.invariant in
    record {
      long = ap length c.in_ok-push.ensures.items ∙ (let long = length-append old (to ∷ []) in omega (arith, long, inv.long));
      leads = λ n b x lt at. elim (push_cases old to (n * 256 + b) x (ap (λ l. slice_get l (n * 256 + b)) (sym c.in_ok-push.ensures.items) ∙ at)) [
        | inl before ↦ inv.leads n b x lt before
        | inr here ↦
            let same : n * 256 + b ≡ c.loop-place.place = here.0 ∙ inv.long in
            let parts = pair_parts n b lt in
            let node : c.loop-place.place / 256 ≡ n = ap (λ k. k / 256) (sym same) ∙ parts.0 in
            let byte : c.loop-place.place % 256 ≡ b = ap (λ k. k % 256) (sym same) ∙ parts.1 in
            subst (λ m. LeadsOn image m b x) node (subst (λ m. LeadsOn image (c.loop-place.place / 256) m x) byte
            (subst (λ y. LeadsOn image (c.loop-place.place / 256) (c.loop-place.place % 256) y) here.1 c.target_by-target.ensures))
      ];
    }

pub target_by-target-requires-clause-node : goal.target_by-target-requires-clause-node
target_by-target-requires-clause-node c =
    omega (arith, node_rows (shown_bytes c.args.scene.now.view.now) c.requires.wellformed, c.loop-place-test.true, c.rows.ensures, c.min-count.ensures)

pub target_by-target-requires-clause-rows : goal.target_by-target-requires-clause-rows
target_by-target-requires-clause-rows c =
    λ n b x lt at. c.loop-place.invariant.leads n b x lt (ap (λ l. slice_get l (n * 256 + b)) (sym c.deref.ensures.value) ∙ at)

pub returns : goal.returns
returns c =
    let bytes = shown_bytes c.args.scene.now.view.now in
    record {
      root = omega (arith, node_rows bytes c.requires.wellformed, some_nodes bytes c.requires.wellformed, c.loop-place.invariant.long, c.loop-place-test.false, c.loop-place.auto.place-end, c.rows.ensures, c.min-count.ensures);
      leads = c.loop-place.invariant.leads;
    }
