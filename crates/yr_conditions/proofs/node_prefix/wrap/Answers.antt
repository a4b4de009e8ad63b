use Rattle.std.proofs.Common.{◌≡◌, ◌∙◌, ◌++◌, ◌∷◌, [], ap, refl, rules}
use Rattle.yr_rules.specs.declared.node.Node.TheVariants as node
use Rattle.yr_rules.specs.NodeTree.{tree_of}
use Rattle.yr_rules.proofs.CallerLemmas.{tree_of-Prefix}
use Rattle.yr_conditions.specs.NodeViews.{wrapped}
use Rattle.yr_conditions.proofs.MadeLemmas.{wrap-step}
use Rattle.yr_conditions.proofs.node_prefix.wrap.Goals as goal

pub loop-op-preserved : goal.loop-op-preserved
loop-op-preserved c =
    let split : c.loop-op.ops.items ≡ c.pop.new.self.items ++ c.in-Some.op ∷ [] = search rules in
    let made : c.in_ok-whole.whole.value ≡ node.Prefix c.in-Some.op c.loop-op.whole = search rules in
    ap (λ n. wrapped c.pop.new.self.items (tree_of n)) made
    ∙ ap (wrapped c.pop.new.self.items) (tree_of-Prefix c.in-Some.op c.loop-op.whole)
    ∙ wrap-step c.loop-op.ops.items c.pop.new.self.items c.in-Some.op (tree_of c.loop-op.whole.value) (tree_of c.loop-op.whole.value) (wrapped c.args.ops.items (tree_of c.args.node.value)) split refl c.loop-op.invariant
