use Rattle.std.proofs.Common.{◌≡◌, ap, arith}
use Rattle.std.proofs.lemmas.Bool.{ltb-true, lt-ltb}
use Rattle.yr_rows.specs.declared.nodes.NodeRow.{NodeRow}
use Rattle.yr_verifier.proofs.nodes.has_depth.Goals as goal

pub returns : goal.returns
returns c = (
  λ t. record {
    low = omega (arith, c.if-row-gt4.false);
    root = λ e. absurd (c.if-n-eq0.false e);
    deep = λ _. omega (arith, c.if-row-eq0-2.false);
    below = λ _. c.if-row-n.false;
    falls = λ _ up at.
        let is : c.node.result ≡ up = cc (at, c.node.ensures) in
        let lt = ltb-true c.node.result.depth c.args.row.depth t in
        omega (arith, lt, ap (λ (r : NodeRow). r.depth) is);
  },
  λ good. lt-ltb c.node.result.depth c.args.row.depth (good.falls c.if-n-eq0.false c.node.result c.node.ensures),
)
