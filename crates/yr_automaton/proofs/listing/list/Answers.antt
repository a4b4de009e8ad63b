use Rattle.yr_rows.specs.Nodes.{nodes_of, outputs_of}
use Rattle.yr_automaton.proofs.OutputLemmas.{start}
use Rattle.yr_automaton.proofs.listing.list.Goals as goal

pub invariant_of-result : goal.invariant_of-result
invariant_of-result c =
    let s = start (nodes_of c.args.nodes.now) (outputs_of c.args.outputs.now) c.requires.listable c.args.node c.place_at-place.result c.requires.inside c.place_at-place.ensures in
    (c.requires.listable, s.0)

pub returns : goal.returns
returns c = (start (nodes_of c.args.nodes.now) (outputs_of c.args.outputs.now) c.requires.listable c.args.node c.place_at-place.result c.requires.inside c.place_at-place.ensures).1
