use Rattle.std.proofs.Common.{◌+◌, ◌<◌, refl, sym, subst, arith, length}
use Rattle.std.specs.Prelude.{slice_set}
use Rattle.std.proofs.lemmas.Option.{slice_get_read}
use Rattle.yr_cert.specs.Tries.{AreParents}
use Rattle.yr_cert.specs.declared.parent.Step.{Step}
use Rattle.yr_cert.proofs.ParentLemmas.{parents_next}
use Rattle.yr_cert.proofs.reaching.note_edges.Goals as goal

pub loop-k-preserved : goal.loop-k-preserved
loop-k-preserved c =
    let trie = c.args.trie.now in
    let k = c.loop-k.k in
    let inv = c.loop-k.invariant in
    let parents = c.loop-k.parents.items in
    let edge = c.edge_at-edge.result in
    let step : Step = record { source = c.args.source; byte = edge.byte } in
    let inside : edge.target < length parents = omega (arith, (c.requires.readable.formed.each_edge k edge c.edge_at-edge.ensures).1, inv.are.long) in
    let old = slice_get_read parents (length parents) edge.target c.index.result.now refl inside c.index.ensures in
    let next = parents_next trie c.requires.readable c.args.source c.node_at-row.result k edge parents c.index.result.now step c.node_at-row.ensures inv.low c.loop-k-test.true
    c.edge_at-edge.ensures refl refl inv.are old in
    record {
      low = omega (arith, inv.low);
      high = omega (arith, c.loop-k-test.true);
      are = subst (λ p. AreParents trie (k + 1) (slice_set parents edge.target p)) (sym c.with.ensures) next;
    }
