use Rattle.std.proofs.Common.{◌≡◌, [], Some, sym, subst, Option}
use Rattle.std.specs.Prelude.{MatchOption}
use Rattle.yr_rules.specs.NodeTree.{tree_of as node_tree}
use Rattle.yr_rules.specs.declared.node.Node.{Node}
use Rattle.yr_checks.specs.declared.check.Check.TheVariants as check
use Rattle.yr_checks.specs.declared.refusal.Code.TheVariants as code
use Rattle.yr_checks.specs.Given.{finding, rule_node}
use Rattle.yr_checks.specs.Refusals.{at_rule}
use Rattle.yr_checking.specs.AtHand.{given_at, placed_at}
use Rattle.yr_checking.specs.Judged.{IsTooHeavy, weight_fault}
use Rattle.yr_checking.proofs.JudgeLemmas.{explains-same}
use Rattle.yr_checking.proofs.StageLemmas.{few-counts}
use Rattle.yr_checking.proofs.judging.weigh.Goals as goal

pub returns-in-None-clause-refused : goal.returns-in-None-clause-refused
returns-in-None-clause-refused c =
    let given = given_at c.args.at.now in
    let p = placed_at c.args.at.now in
    let heavy : IsTooHeavy given p = subst (λ (o : Option Node). MatchOption o (IsTooHeavy given p) (λ n. rule_node given p ≡ Some (node_tree n))) c.in-None.is c.requires.node in
    explains-same c.too_heavy.result (Some (at_rule p check.Weight (finding code.TooHeavy []))) (weight_fault given p) (sym heavy) c.too_heavy.ensures

pub weigh_exact-requires-clause-few_rules : goal.weigh_exact-requires-clause-few_rules
weigh_exact-requires-clause-few_rules c = (few-counts (given_at c.args.at.now) (placed_at c.args.at.now) c.requires.passed).0

pub weigh_exact-requires-clause-few_strings : goal.weigh_exact-requires-clause-few_strings
weigh_exact-requires-clause-few_strings c = (few-counts (given_at c.args.at.now) (placed_at c.args.at.now) c.requires.passed).1
