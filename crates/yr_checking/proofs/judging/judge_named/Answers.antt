use Rattle.std.proofs.Common.{[], ap, ◌∙◌, arith}
use Rattle.std.specs.Option.{option_and_then}
use Rattle.yr_conditions.specs.Fixed.{the_readers}
use Rattle.yr_rules.specs.Kinds.{kind_of}
use Rattle.yr_rules.specs.NodeTree.{NodeTree}
use Rattle.yr_conditions.specs.Meanings.{Around}
use Rattle.yr_checks.specs.Given.{around}
use Rattle.yr_checking.specs.AtHand.{given_at, placed_at}
use Rattle.yr_checking.specs.Sets.{is_at_once}
use Rattle.yr_conditions.proofs.ShapeLemmas.{shape-kind}
use Rattle.yr_checking.proofs.judging.judge_named.Goals as goal

pub when_made-sets-requires : goal.when_made-sets-requires
when_made-sets-requires c =
    let same = ap (λ (a : Around). a.first_string) c.rule_around-around.ensures in omega (arith, same, c.requires.before.strings, c.requires.before.few_strings)

pub later_fault-requires-clause-kind : goal.later_fault-requires-clause-kind
later_fault-requires-clause-kind c =
    let given = given_at c.args.at.now in
    let p = placed_at c.args.at.now in
    c.node_kind-kind.ensures
    ∙ ap (option_and_then (λ (n : NodeTree). kind_of given.externals n [])) c.in_ok-node.ensures
    ∙ shape-kind the_readers (around given p) (is_at_once c.when_made-sets.result) p.rule.condition
