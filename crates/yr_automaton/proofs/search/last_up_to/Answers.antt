use Rattle.std.proofs.Common.{◌+◌, ◌-◌, ◌/◌, arith}
use Rattle.yr_rows.specs.Nodes.{edges_of}
use Rattle.yr_automaton.proofs.SearchLemmas.{less_before, greater_from}
use Rattle.yr_automaton.proofs.search.last_up_to.Goals as goal

pub loop-high-preserved-then-edge_at-from : goal.loop-high-preserved-then-edge_at-from
loop-high-preserved-then-edge_at-from c =
    let l = c.loop-high in
    let i = l.invariant in
    let middle = l.low + (l.high - l.low) / 2 in
    record {
      from = omega (arith, i.from);
      to = omega (arith, i.to, c.loop-high-test.true);
      end = i.end;
      before = less_before (edges_of c.args.edges.now) c.args.row.now c.args.byte c.requires.rise middle c.edge_at.result (omega (arith, i.from)) (omega (arith, i.to, i.end, c.loop-high-test.true)) c.edge_at.ensures
          (omega (arith, c.if-edge_at-from.true, c.from.ensures));
      after = i.after;
    }

pub loop-high-preserved : goal.loop-high-preserved
loop-high-preserved c =
    let l = c.loop-high in
    let i = l.invariant in
    let middle = l.low + (l.high - l.low) / 2 in
    record {
      from = i.from;
      to = omega (arith, i.to, c.loop-high-test.true);
      end = omega (arith, i.to, i.end);
      before = i.before;
      after = greater_from (edges_of c.args.edges.now) c.args.row.now c.args.byte c.requires.rise middle c.edge_at.result (omega (arith, i.from)) (omega (arith, i.to, i.end, c.loop-high-test.true)) c.edge_at.ensures
          (omega (arith, c.if-edge_at-from.false, c.from.ensures));
    }
