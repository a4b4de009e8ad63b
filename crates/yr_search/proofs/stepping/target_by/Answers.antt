use Rattle.std.proofs.Common.{◌≡◌, ◌+◌, ◌*◌, None, sym, ◌∙◌, arith, get_or}
use Rattle.std.proofs.lemmas.Option.{slice_get-get_or}
use Rattle.yr_rows.specs.Nodes.{edge_of}
use Rattle.yr_image.specs.Views.{shown_bytes, image_of}
use Rattle.yr_search.proofs.SceneLemmas.{some_nodes, scene_rows, scene_inside, image_inside}
use Rattle.yr_search.proofs.SkipLemmas.{scene_edge}
use Rattle.yr_search.proofs.StepLemmas.{scene_link, leads_edge, leads_root, leads_up}
use Rattle.yr_search.proofs.stepping.target_by.Goals as goal

pub edge-requires-clause-wellformed : goal.edge-requires-clause-wellformed
edge-requires-clause-wellformed c = scene_rows c.args.scene.now c.requires.scene

pub edge-requires-clause-inside : goal.edge-requires-clause-inside
edge-requires-clause-inside c = scene_inside c.args.scene.now c.requires.scene c.args.node c.requires.node

pub failure-up-requires-clause-wellformed : goal.failure-up-requires-clause-wellformed
failure-up-requires-clause-wellformed c = scene_rows c.args.scene.now c.requires.scene

pub failure-up-requires-clause-inside : goal.failure-up-requires-clause-inside
failure-up-requires-clause-inside c = scene_inside c.args.scene.now c.requires.scene c.args.node c.requires.node

pub returns-in-Some : goal.returns-in-Some
returns-in-Some c =
    let scene = c.args.scene.now in
    leads_edge (image_of scene.view.now) c.args.node c.args.byte c.in-Some.target
    (sym (scene_edge scene c.requires.scene c.args.node c.args.byte) ∙ sym c.edge.ensures.value ∙ c.in-Some.is)
    (image_inside scene c.requires.scene c.in-Some.target c.in-Some.ensures.inside)

pub returns-then-node-eq0 : goal.returns-then-node-eq0
returns-then-node-eq0 c =
    let scene = c.args.scene.now in
    leads_root (image_of scene.view.now) c.args.node c.args.byte c.if-node-eq0.true
    (sym (scene_edge scene c.requires.scene c.args.node c.args.byte) ∙ sym c.edge.ensures.value ∙ c.in_default.is)
    (some_nodes (shown_bytes scene.view.now) c.requires.scene.wellformed)

pub returns : goal.returns
returns c =
    let scene = c.args.scene.now in
    let up = c.failure-up.result in
    let none : edge_of (image_of scene.view.now).nodes (image_of scene.view.now).edges c.args.node c.args.byte ≡ None =
    sym (scene_edge scene c.requires.scene c.args.node c.args.byte) ∙ sym c.edge.ensures.value ∙ c.in_default.is in
    let below = c.failure-up.ensures.below c.if-node-eq0.false in
    let i = up * 256 + c.args.byte in
    let at = slice_get-get_or c.args.rows.now i 0 (omega (arith, below, c.requires.before, c.ranges.byte.fits)) in
    leads_up (image_of scene.view.now) c.args.node up c.args.byte (get_or c.args.rows.now i 0) c.if-node-eq0.false none
    (sym (scene_link scene c.requires.scene c.args.node) ∙ sym c.failure-up.ensures.value)
    (c.requires.rows up c.args.byte (get_or c.args.rows.now i 0) (omega (arith, c.ranges.byte.fits)) at)
