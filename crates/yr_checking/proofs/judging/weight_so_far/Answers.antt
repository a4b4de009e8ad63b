use Rattle.std.proofs.Common.{◌≡◌, Some, sym, ap, arith}
use Rattle.std.specs.Option.{option_map}
use Rattle.yr_rules.specs.NodeTree.{tree_of as node_tree}
use Rattle.yr_checks.specs.Checked.{checked_rule, with_node}
use Rattle.yr_checking.specs.AtHand.{given_at, placed_at}
use Rattle.yr_checking.proofs.WalkLemmas.{weight-more}
use Rattle.yr_checking.proofs.judging.weight_so_far.Goals as goal

pub returns : goal.returns
returns c =
    let given = given_at c.args.at.now in
    let p = placed_at c.args.at.now in
    let made : Some (with_node p (node_tree c.args.condition.now)) ≡ checked_rule given p = sym (ap (option_map (with_node p)) c.requires.condition) in
    let more = weight-more given p.before p.unit p.space p.rule (with_node p (node_tree c.args.condition.now)) made in
    omega (arith, more, c.rule_weight.ensures, c.saturating_add.ensures, c.saturating_add-2.ensures, c.requires.strings, c.requires.before.weight)
