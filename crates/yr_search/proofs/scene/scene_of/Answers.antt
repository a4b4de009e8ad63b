use Rattle.std.proofs.Common.{ap, arith, length}
use Rattle.yr_image.specs.Views.{shown_bytes}
use Rattle.yr_machine.proofs.CallerLemmas.{has_sections}
use Rattle.yr_hits.proofs.SectionLemmas.{section_bytes}
use Rattle.yr_search.proofs.scene.scene_of.Goals as goal

pub over-requires-clause-nodes : goal.over-requires-clause-nodes
over-requires-clause-nodes c =
    let bytes = shown_bytes c.args.view.now in
    let size = section_bytes bytes 8 (has_sections bytes c.requires.wellformed) (omega arith) in
    omega (arith, size, ap length c.automaton-rows.ensures.nodes)

pub over-requires-clause-edges : goal.over-requires-clause-edges
over-requires-clause-edges c =
    let bytes = shown_bytes c.args.view.now in
    let size = section_bytes bytes 9 (has_sections bytes c.requires.wellformed) (omega arith) in
    omega (arith, size, ap length c.automaton-rows.ensures.edges)

pub over-requires-clause-outputs : goal.over-requires-clause-outputs
over-requires-clause-outputs c =
    let bytes = shown_bytes c.args.view.now in
    let size = section_bytes bytes 10 (has_sections bytes c.requires.wellformed) (omega arith) in
    omega (arith, size, ap length c.automaton-rows.ensures.outputs)
