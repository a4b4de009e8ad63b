use Rattle.std.proofs.Common.{◌≡◌, ◌≢◌, ◌+◌, ◌*◌, None, Some, sym, ap, ◌∙◌, arith}
use Rattle.std.specs.Prelude.{slice_get}
use Rattle.yr_rows.specs.Nodes.{edge_of, link_of}
use Rattle.yr_image.specs.Views.{image_of}
use Rattle.yr_search.proofs.SceneLemmas.{scene_rows, image_inside}
use Rattle.yr_search.proofs.SkipLemmas.{scene_edge}
use Rattle.yr_search.proofs.StepLemmas.{scene_link, leads_edge, leads_up, not_root}
use Rattle.yr_search.proofs.stepping.step.Goals as goal

pub returns-in-Some-clause-leads : goal.returns-in-Some-clause-leads
returns-in-Some-clause-leads g c =
    let i = c.asking.at * 256 + c.args.byte in
    let at : slice_get c.args.skips.now.rows.items i ≡ Some c.in-Some.target =
    ap (λ l. slice_get l i) (sym c.deref.ensures.value) ∙ sym c.target_in_row.ensures ∙ c.in-Some.is in
    c.asking.invariant.comes c.in-Some.target (c.requires.skips.rows.leads c.asking.at c.args.byte c.in-Some.target (omega (arith, c.ranges.byte.fits)) at)

pub edge-requires-clause-wellformed : goal.edge-requires-clause-wellformed
edge-requires-clause-wellformed g c = scene_rows c.args.scene.now c.requires.scene

pub returns-in-Some-edge-clause-leads : goal.returns-in-Some-edge-clause-leads
returns-in-Some-edge-clause-leads g c =
    let scene = c.args.scene.now in
    let to = c.in-Some-edge.target in
    c.asking.invariant.comes to (leads_edge (image_of scene.view.now) c.asking.at c.args.byte to
    (sym (scene_edge scene c.requires.scene c.asking.at c.args.byte) ∙ sym c.edge.ensures.value ∙ c.in-Some-edge.is)
    (image_inside scene c.requires.scene to c.in-Some-edge.ensures.inside))

pub failure-at-requires-clause-wellformed : goal.failure-at-requires-clause-wellformed
failure-at-requires-clause-wellformed g c = scene_rows c.args.scene.now c.requires.scene

pub asking-preserved : goal.asking-preserved
asking-preserved g c =
    let scene = c.args.scene.now in
    let at = c.asking.at in
    let up = c.failure-at.result in
    let i = at * 256 + c.args.byte in
    let past : slice_get c.args.skips.now.rows.items i ≡ None =
    ap (λ l. slice_get l i) (sym c.deref.ensures.value) ∙ sym c.target_in_row.ensures ∙ c.in_default.is in
    let other : at ≢ 0 = not_root c.args.skips.now.rows.items at c.args.byte (omega (arith, c.ranges.byte.fits)) c.requires.skips.rows.root past in
    let none : edge_of (image_of scene.view.now).nodes (image_of scene.view.now).edges at c.args.byte ≡ None =
    sym (scene_edge scene c.requires.scene at c.args.byte) ∙ sym c.edge.ensures.value ∙ c.in_default-edge.is in
    let link : link_of (image_of scene.view.now).nodes at ≡ up = sym (scene_link scene c.requires.scene at) ∙ sym c.failure-at.ensures.value in
    record {
      inside = omega (arith, c.failure-at.ensures.below other, c.asking.invariant.inside);
      comes = λ x h. c.asking.invariant.comes x (leads_up (image_of scene.view.now) at up c.args.byte x other none link h);
    }

pub asking-smaller : goal.asking-smaller
asking-smaller g c =
    let i = c.asking.at * 256 + c.args.byte in
    let past : slice_get c.args.skips.now.rows.items i ≡ None =
    ap (λ l. slice_get l i) (sym c.deref.ensures.value) ∙ sym c.target_in_row.ensures ∙ c.in_default.is in
    c.failure-at.ensures.below (not_root c.args.skips.now.rows.items c.asking.at c.args.byte (omega (arith, c.ranges.byte.fits)) c.requires.skips.rows.root past)
