use Rattle.std.proofs.Common.{◌≡◌, [], arith, ap, subst, true}
use Rattle.std.specs.Prelude.{IfOk}
use Rattle.std.specs.Option.{option_map}
use Rattle.yr_conditions.specs.Fixed.{the_readers}
use Rattle.yr_conditions.specs.Shapes.{shape_of}
use Rattle.yr_rules.specs.NodeTree.{tree_of as node_tree}
use Rattle.yr_conditions.specs.SetWeights.{set_weights}
use Rattle.yr_conditions.specs.Meanings.{Around}
use Rattle.yr_checking.specs.AtHand.{given_at, placed_at}
use Rattle.yr_checking.proofs.LightLemmas.{if-exact-light, sets-heavy}
use Rattle.yr_checking.proofs.light.counted_node.Goals as goal

pub returns-then-weight-gt-WEIGHT_LIMIT : goal.returns-then-weight-gt-WEIGHT_LIMIT
returns-then-weight-gt-WEIGHT_LIMIT c =
    let p = placed_at c.args.at.now in
    let same = ap (λ (a : Around). set_weights a p.rule.condition) c.requires.around in
    sets-heavy (given_at c.args.at.now) p c.requires.passed (omega (arith, same, c.in_ok-weight.ensures, c.if-weight-gt-WEIGHT_LIMIT.true))

pub returns : goal.returns
returns c =
    let p = placed_at c.args.at.now in
    if-exact-light (given_at c.args.at.now) p c.condition_node.result
    (subst (λ (a : Around). IfOk c.condition_node.result (λ o. option_map node_tree o ≡ shape_of true the_readers a p.rule.condition [])) c.requires.around c.condition_node.ensures)
    c.requires.passed
