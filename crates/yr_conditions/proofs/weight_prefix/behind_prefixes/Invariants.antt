use Rattle.std.proofs.Common.{◌≡◌, ◌≤◌}
use Rattle.yr_syntax.specs.Condition.{tree_of}
use Rattle.yr_syntax.specs.declared.condition.Cond.{size-Cond}
use Rattle.yr_conditions.specs.Meanings.{Around}
use Rattle.yr_conditions.specs.SetWeights.{set_weights}
use Rattle.yr_conditions.proofs.weight_prefix.behind_prefixes.Given as goal

abbrev pub invariant-loop-operand : goal.invariant-loop-operand
invariant-loop-operand l = record {
  same : (around : Around) → set_weights around (tree_of l.operand) ≡ set_weights around (tree_of l.condition);
  low : size-Cond l.operand ≤ size-Cond l.condition;
}
