use Rattle.std.proofs.Common.{◌≡◌, ◌≢◌, ◌∷◌, [], Some, false, inl, inr, length, refl, sym, ap, ◌∙◌, subst, arith, length-append}
use Rattle.std.specs.Prelude.{slice_get}
use Rattle.std.proofs.lemmas.Option.{slice_get_read}
use Rattle.yr_image.specs.Views.{shown_bytes, image_of}
use Rattle.yr_search.specs.Uppers.{upper}
use Rattle.yr_search.proofs.NodeLemmas.{link_falls}
use Rattle.yr_search.proofs.SceneLemmas.{node_rows, some_nodes, scene_inside, scene_node}
use Rattle.yr_search.proofs.SkipLemmas.{push_cases, either_none, own_none, no_upper, no_outputs}
use Rattle.yr_search.proofs.skipping.output_flags.Goals as goal

pub node_at-row-requires : goal.node_at-row-requires
node_at-row-requires c =
    let bytes = shown_bytes c.args.scene.now.view.now in
    scene_inside c.args.scene.now c.requires c.loop-node.node (omega (arith, node_rows bytes c.requires.wellformed, c.loop-node-test.true, c.rows-node-end.ensures))

pub index-up-requires : goal.index-up-requires
index-up-requires c =
    let at = scene_node c.args.scene.now c.requires c.loop-node.node c.node_at-row.result c.node_at-row.ensures in
    let some : c.loop-node.node ≢ 0 = omega (arith, c.loop-node.auto.node) in
    let falls = link_falls (shown_bytes c.args.scene.now.view.now) c.requires.wellformed c.loop-node.node c.node_at-row.result at some in
    omega (arith, falls.0, c.loop-node.invariant.long, c.loop-node.flags.ok.0)

pub loop-node-preserved : goal.loop-node-preserved
loop-node-preserved c =
    let image = image_of c.args.scene.now.view.now in
    let bytes = shown_bytes c.args.scene.now.view.now in
    let old = c.loop-node.flags.items in
    let n = c.loop-node.node in
    let row = c.node_at-row.result in
    let inv = c.loop-node.invariant in
    let at = scene_node c.args.scene.now c.requires n row c.node_at-row.ensures in
    let some : n ≢ 0 = omega (arith, c.loop-node.auto.node) in
    let falls = link_falls bytes c.requires.wellformed n row at some in
    record {
      long = ap length c.in_ok-push-2.ensures.items ∙ (let long = length-append old (c.either.result ∷ []) in omega (arith, long, inv.long));
      none = λ j is. elim (push_cases old c.either.result j false (ap (λ l. slice_get l j) (sym c.in_ok-push-2.ensures.items) ∙ is)) [
        | inl before ↦ inv.none j before
        | inr here ↦
            let same : j ≡ n = here.0 ∙ inv.long in
            let both = either_none _ _ (sym c.either.ensures ∙ here.1) in
            let empty : row.outputs ≡ 0 = no_outputs row.outputs both.0 in
            let up = slice_get_read old (length old) row.failure c.index-up.result.now refl (omega (arith, falls.0, inv.long)) c.index-up.ensures in
            let none : upper image row.failure ≡ [] = inv.none row.failure (up ∙ ap Some both.1) in
            subst (λ m. upper image m ≡ []) (sym same) (no_upper bytes c.requires.wellformed n row at some (own_none bytes c.requires.wellformed n row at empty) none)
      ];
    }

pub returns : goal.returns
returns c =
    let bytes = shown_bytes c.args.scene.now.view.now in
    record {
      long = omega (arith, node_rows bytes c.requires.wellformed, some_nodes bytes c.requires.wellformed, c.loop-node.invariant.long, c.loop-node-test.false, c.loop-node.auto.node-end, c.rows-node-end.ensures);
      none = c.loop-node.invariant.none;
    }
