use Rattle.std.proofs.Common.{◌≡◌, ◌+◌, ℕ, min, sym, ap, subst, ◌∙◌}
use Rattle.std.specs.Prelude.{IfOk}
use Rattle.yr_syntax.specs.Condition.{tree_of}
use Rattle.yr_syntax.specs.declared.condition.Cond.{Cond}
use Rattle.yr_syntax.proofs.CallerLemmas.{tree_of-Prefix}
use Rattle.yr_conditions.specs.Around.{around_of}
use Rattle.yr_conditions.specs.SetWeights.{set_weights}
use Rattle.yr_conditions.proofs.sets_of_condition.+sets.Goals as goal

pub add_sets-returns-in-Prefix : goal.add_sets-returns-in-Prefix
add_sets-returns-in-Prefix t c =
    let around = around_of c.args.around.now in
    let is = ap (λ (x : Cond). set_weights around (tree_of x)) c.in-Prefix.is ∙ ap (set_weights around) (tree_of-Prefix c.in-Prefix.op c.in-Prefix.inner) in
    let same = c.behind_prefixes.ensures.same around ∙ ap (λ (x : Cond). set_weights around (tree_of x)) c.deref-in-Prefix.ensures ∙ sym is in
    subst (λ (n : ℕ). IfOk c.add_sets-in-Prefix.result (λ w. w ≡ min (c.args.so_far + n) c.args.limit)) same c.add_sets-in-Prefix.ensures
