use Rattle.std.proofs.Common.{◌≡◌, ◌≤◌, List}
use Rattle.yr_syntax.specs.Condition.{tree_of}
use Rattle.yr_syntax.specs.declared.condition.Cond.{size-Cond}
use Rattle.yr_conditions.specs.Meanings.{Around, Scope}
use Rattle.yr_conditions.specs.Uses.{uses_of}
use Rattle.yr_conditions.proofs.use_prefix.behind_prefixes.Given as goal

abbrev pub invariant-loop-operand : goal.invariant-loop-operand
invariant-loop-operand l = record {
  same : (around : Around) (scopes : List Scope) → uses_of around (tree_of l.operand) scopes ≡ uses_of around (tree_of l.condition) scopes;
  low : size-Cond l.operand ≤ size-Cond l.condition;
}
