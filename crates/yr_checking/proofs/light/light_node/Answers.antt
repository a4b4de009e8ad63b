use Rattle.std.proofs.Common.{sym, ap, ◌∙◌}
use Rattle.yr_checking.specs.AtHand.{given_at, placed_at}
use Rattle.yr_checking.specs.Sets.{is_at_once, is_few, is_made}
use Rattle.yr_checking.proofs.LightLemmas.{exact-light, few-heavy, few-room}
use Rattle.yr_checking.proofs.light.light_node.Goals as goal

pub returns-in-AtOnce : goal.returns-in-AtOnce
returns-in-AtOnce c =
    exact-light (given_at c.args.at.now) (placed_at c.args.at.now) (is_at_once c.args.sets) c.args.node (ap is_at_once c.in-AtOnce.is) c.requires.node c.requires.passed

pub counted_node-requires-clause-room : goal.counted_node-requires-clause-room
counted_node-requires-clause-room c = few-room c.args.around.now (sym c.requires.sets ∙ ap is_made c.in-Counted.is)

pub returns-in-Never : goal.returns-in-Never
returns-in-Never c =
    few-heavy (given_at c.args.at.now) (placed_at c.args.at.now) (sym (ap is_few c.requires.around) ∙ sym c.requires.sets ∙ ap is_made c.in-Never.is) c.requires.passed
