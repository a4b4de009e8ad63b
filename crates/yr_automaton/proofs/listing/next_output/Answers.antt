use Rattle.std.proofs.Common.{◌≡◌, ◌+◌, ◌∷◌, ap, sym, subst, ◌∙◌}
use Rattle.std.specs.Option.{option_map_or}
use Rattle.yr_rows.specs.declared.nodes.NodeRow.{NodeRow}
use Rattle.yr_rows.specs.Nodes.{nodes_of, outputs_of, link_of}
use Rattle.yr_automaton.specs.Outputs.{left_at, left_of, IsStartOf}
use Rattle.yr_automaton.proofs.ListLemmas.{get_or_some}
use Rattle.yr_automaton.proofs.OutputLemmas.{left_one, follow}
use Rattle.yr_automaton.proofs.listing.next_output.Goals as goal

pub returns-then-place-clause-item : goal.returns-then-place-clause-item
returns-then-place-clause-item c =
    let nodes = c.args.nodes.now in
    let outputs = c.args.outputs.now in
    let l = c.loop-place.place in
    c.loop-place.invariant.left
    ∙ (left_one (nodes_of nodes) (outputs_of outputs) c.requires.listable l.node l.next l.end c.if-place.true c.loop-place.invariant.place.end_in
    ∙ (ap (λ x. x ∷ left_of (nodes_of nodes) (outputs_of outputs) l.node (l.next + 1) l.end) (get_or_some (outputs_of outputs) l.next 0 c.own_output.result c.own_output.ensures.output)
    ∙ ap (λ p. c.own_output.result ∷ left_at nodes outputs p) (sym c.own_output.ensures.place)))

pub loop-place-preserved : goal.loop-place-preserved
loop-place-preserved c =
    let nodes = nodes_of c.args.nodes.now in
    let l = c.loop-place.place in
    let link : link_of nodes l.node ≡ c.node_at-up.result.failure = ap (λ o. option_map_or (λ (r : NodeRow). r.failure) o 0) c.node_at-up.ensures in
    let start = subst (λ n. IsStartOf nodes n c.place_at.result) (sym link) c.place_at.ensures in
    let on = follow nodes (outputs_of c.args.outputs.now) c.requires.listable l c.place_at.result c.loop-place.invariant.place c.if-place-eq0.false c.if-place.false start in
    record { place = on.0; left = c.loop-place.invariant.left ∙ on.1 }
