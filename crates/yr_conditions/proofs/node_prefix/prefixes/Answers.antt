use Rattle.std.proofs.Common.{◌≡◌, ◌∙◌, ap, sym, subst, rules}
use Rattle.yr_syntax.specs.Condition as tree
use Rattle.yr_syntax.specs.declared.condition.Cond.{the_lemmas}
use Rattle.yr_syntax.specs.Forms.{HasForms}
use Rattle.yr_syntax.proofs.CallerLemmas.{tree_of-Prefix}
use Rattle.yr_conditions.proofs.MadeLemmas.{prefix-step}
use Rattle.yr_conditions.proofs.node_prefix.prefixes.Goals as goal

pub loop-operand-preserved : goal.loop-operand-preserved
loop-operand-preserved c =
    let same : c.deref-operand.result.now ≡ c.in-Prefix.inner.value = search rules in
    let is : tree.tree_of c.loop-operand.operand.now ≡ tree.Prefix c.in-Prefix.op (tree.tree_of c.deref-operand.result.now) =
    ap tree.tree_of c.in-Prefix.is ∙ tree_of-Prefix c.in-Prefix.op c.in-Prefix.inner ∙ ap (λ x. tree.Prefix c.in-Prefix.op (tree.tree_of x)) (sym same) in
    record {
      shape =
          prefix-step c.args.op c.in-Prefix.op c.loop-operand.ops.items c.push-in-Prefix.new.self.items (tree.tree_of c.args.inner.now) (tree.tree_of c.loop-operand.operand.now)
          (tree.tree_of c.deref-operand.result.now) is c.in_ok-push-2.ensures.items c.loop-operand.invariant.shape;
      height = search rules;
      forms = subst HasForms is c.loop-operand.invariant.forms;
      low = search (rules, the_lemmas);
    }
