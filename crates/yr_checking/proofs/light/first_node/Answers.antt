use Rattle.std.proofs.Common.{◌≡◌, [], subst, Bool, sym}
use Rattle.std.specs.Prelude.{IfOk}
use Rattle.std.specs.Option.{option_map}
use Rattle.yr_conditions.specs.Fixed.{the_readers}
use Rattle.yr_conditions.specs.Room.{IsRoomy}
use Rattle.yr_conditions.specs.Shapes.{shape_of}
use Rattle.yr_rules.specs.NodeTree.{tree_of as node_tree}
use Rattle.yr_conditions.specs.Around.{around_of}
use Rattle.yr_conditions.specs.Meanings.{Around}
use Rattle.yr_checking.specs.AtHand.{placed_at}
use Rattle.yr_checking.specs.Sets.{is_at_once}
use Rattle.yr_checking.proofs.LightLemmas.{at-once-room}
use Rattle.yr_checking.proofs.light.first_node.Goals as goal

pub condition_node-requires-clause-room : goal.condition_node-requires-clause-room
condition_node-requires-clause-room c =
    subst (λ (b : Bool). IsRoomy b c.args.around.now) (sym c.at_once.ensures) (at-once-room c.args.around.now c.args.sets c.requires.sets)

pub returns : goal.returns
returns c =
    let p = placed_at c.args.at.now in
    let r = c.condition_node.result in
    subst (λ (a : Around). IfOk r (λ o. option_map node_tree o ≡ shape_of (is_at_once c.args.sets) the_readers a p.rule.condition [])) c.requires.around
    (subst (λ (b : Bool). IfOk r (λ o. option_map node_tree o ≡ shape_of b the_readers (around_of c.args.around.now) p.rule.condition [])) c.at_once.ensures c.condition_node.ensures)
