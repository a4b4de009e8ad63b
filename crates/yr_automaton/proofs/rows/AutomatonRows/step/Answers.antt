use Rattle.std.proofs.Common.{◌≡◌, ◌+◌, ◌-◌, length, Some, None, sym, ap, subst, ◌∙◌, arith}
use Rattle.std.specs.Option.{option_and_then, option_map_or}
use Rattle.yr_rows.specs.Walk.{Asks}
use Rattle.yr_rows.specs.declared.nodes.NodeRow.{NodeRow}
use Rattle.yr_rows.specs.Nodes.{nodes_of, edges_of, target_in, edges_at}
use Rattle.yr_automaton.specs.Rows.{edge, link}
use Rattle.yr_automaton.proofs.RowLemmas.{target_inside, asked_more, asked_target, asked_root, Asked}
use Rattle.yr_automaton.proofs.rows.AutomatonRows.step.Goals as goal

pub returns-in-Some-clause-asks : goal.returns-in-Some-clause-asks
returns-in-Some-clause-asks g c =
    let rows = c.args.self.now in
    let at = c.loop-target.at in
    let inv = c.loop-target.invariant in
    let found : edge rows at c.args.byte ≡ Some c.in-Some.target =
    ap (option_and_then (λ (r : NodeRow). target_in (edges_at (edges_of rows.edges.now) r) c.args.byte)) c.node_at-row.ensures ∙ (sym c.target.ensures ∙ c.in-Some.is) in
    let ticked : (c.loop-target.steps - c.args.steps.now) + 1 ≡ c.tick.new.self - c.args.steps.now = omega (arith, c.tick.ensures, inv.start) in
    subst (λ k. Asks (edge rows) (link rows) k c.args.node c.args.byte c.in-Some.target) ticked
    (asked_target (edge rows) (link rows) c.args.byte (c.loop-target.steps - c.args.steps.now) c.args.node at c.in-Some.target inv.asked found)

pub returns-in-Some-clause-inside : goal.returns-in-Some-clause-inside
returns-in-Some-clause-inside g c =
    let rows = c.args.self.now in
    let formed = c.requires.wellformed in
    let row = c.node_at-row.result in
    target_inside (length (nodes_of rows.nodes.now)) (edges_of rows.edges.now) row c.args.byte c.in-Some.target (λ k e here. (formed.each_edge k e here).1)
    (formed.each_node c.loop-target.at row c.node_at-row.ensures).edges_inside (sym c.target.ensures ∙ c.in-Some.is)

pub returns-then-at-eq0-clause-asks : goal.returns-then-at-eq0-clause-asks
returns-then-at-eq0-clause-asks g c =
    let rows = c.args.self.now in
    let at = c.loop-target.at in
    let inv = c.loop-target.invariant in
    let none : edge rows at c.args.byte ≡ None =
    ap (option_and_then (λ (r : NodeRow). target_in (edges_at (edges_of rows.edges.now) r) c.args.byte)) c.node_at-row.ensures ∙ (sym c.target.ensures ∙ c.in_default.is) in
    let ticked : (c.loop-target.steps - c.args.steps.now) + 1 ≡ c.tick.new.self - c.args.steps.now = omega (arith, c.tick.ensures, inv.start) in
    subst (λ k. Asks (edge rows) (link rows) k c.args.node c.args.byte 0) ticked
    (asked_root (edge rows) (link rows) c.args.byte (c.loop-target.steps - c.args.steps.now) c.args.node at inv.asked none c.if-at-eq0.true)

pub loop-target-preserved : goal.loop-target-preserved
loop-target-preserved g c =
    let rows = c.args.self.now in
    let row = c.node_at-row.result in
    let at = c.loop-target.at in
    let inv = c.loop-target.invariant in
    let formed = c.requires.wellformed.each_node at row c.node_at-row.ensures in
    let below = formed.below c.if-at-eq0.false in
    let none : edge rows at c.args.byte ≡ None =
    ap (option_and_then (λ (r : NodeRow). target_in (edges_at (edges_of rows.edges.now) r) c.args.byte)) c.node_at-row.ensures ∙ (sym c.target.ensures ∙ c.in_default.is) in
    let up : link rows at ≡ row.failure = ap (λ o. option_map_or (λ (r : NodeRow). r.failure) o 0) c.node_at-row.ensures in
    let ticked : (c.loop-target.steps - c.args.steps.now) + 1 ≡ c.tick.new.self - c.args.steps.now = omega (arith, c.tick.ensures, inv.start) in
    let more = asked_more (edge rows) (link rows) c.args.byte (c.loop-target.steps - c.args.steps.now) c.args.node at inv.asked none c.if-at-eq0.false in
    let counted : Asked (edge rows) (link rows) c.args.byte (c.tick.new.self - c.args.steps.now) c.args.node (link rows at) = subst (λ j. Asked (edge rows) (link rows) c.args.byte j c.args.node (link rows at)) ticked more in
    record {
      start = omega (arith, c.tick.ensures, inv.start);
      inside = omega (arith, below, inv.inside);
      asked = subst (λ n. Asked (edge rows) (link rows) c.args.byte (c.tick.new.self - c.args.steps.now) c.args.node n) up counted;
      few = λ above e. omega (arith, ticked, formed.falls c.if-at-eq0.false above e, inv.few row c.node_at-row.ensures);
    }
