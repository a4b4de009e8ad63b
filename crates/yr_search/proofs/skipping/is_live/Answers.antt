use Rattle.std.proofs.Common.{sym, ◌∙◌}
use Rattle.yr_image.specs.Views.{shown_bytes, image_of}
use Rattle.yr_search.proofs.SceneLemmas.{some_nodes, scene_rows, scene_inside, image_inside, scene_node}
use Rattle.yr_search.proofs.SkipLemmas.{scene_edge, passed_none, passed_node, none_from, own_none}
use Rattle.yr_search.proofs.skipping.is_live.Goals as goal

pub edge-requires-clause-wellformed : goal.edge-requires-clause-wellformed
edge-requires-clause-wellformed c = scene_rows c.args.scene.now c.requires

pub edge-requires-clause-inside : goal.edge-requires-clause-inside
edge-requires-clause-inside c = scene_inside c.args.scene.now c.requires 0 (some_nodes (shown_bytes c.args.scene.now.view.now) c.requires.wellformed)

pub edge-requires-2-clause-wellformed : goal.edge-requires-2-clause-wellformed
edge-requires-2-clause-wellformed c = scene_rows c.args.scene.now c.requires

pub returns-in_default : goal.returns-in_default
returns-in_default c = λ e.
    let image = image_of c.args.scene.now.view.now in
    passed_none image c.args.first c.args.second (sym (scene_edge c.args.scene.now c.requires 0 c.args.first) ∙ sym c.edge.ensures.value ∙ c.in_default.is)

pub returns : goal.returns
returns c = λ e.
    let scene = c.args.scene.now in
    let image = image_of scene.view.now in
    let n = c.in-Some.node in
    let at = scene_node scene c.requires n c.node_at.result c.node_at.ensures in
    let inside = image_inside scene c.requires n c.in-Some.ensures.inside in
    let none = own_none (shown_bytes scene.view.now) c.requires.wellformed n c.node_at.result at c.if-node_at-ne0.false in
    passed_node image c.args.first c.args.second n (sym (scene_edge scene c.requires 0 c.args.first) ∙ sym c.edge.ensures.value ∙ c.in-Some.is) inside none
    (sym (scene_edge scene c.requires n c.args.second) ∙ sym c.edge-2.ensures.value ∙ none_from c.edge-2.result (sym c.is_some.ensures ∙ e))
