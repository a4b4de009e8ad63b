use Rattle.std.proofs.Common.{◌≡◌, ◌-◌, ◌∷◌, ◌∙◌, sym, ap, map, take, Some, arith, true, false}
use Rattle.yr_conditions.specs.Meanings.{current_of}
use Rattle.yr_conditions.specs.UseViews.{innermost_first, scope_of}
use Rattle.yr_conditions.proofs.MeaningLemmas.{loops-at, loops-before, current-here, current-outside}
use Rattle.yr_conditions.proofs.scopes.current_in.Goals as goal

pub returns-then-is_members : goal.returns-then-is_members
returns-then-is_members c =
    let n = c.loop-left.left in
    let rest = innermost_first (map scope_of (take (n - 1) c.args.loops.now)) in
    let step = ap current_of (loops-at scope_of c.args.loops.now n (n - 1) c.index-loops-left.result (omega arith) (omega arith) c.index-loops-left.is) in
    sym (c.loop-left.invariant.rest ∙ step
    ∙ current-here (scope_of c.index-loops-left.result) rest (n - 1) (loops-before scope_of c.args.loops.now (n - 1) (omega arith)) (sym c.is_members.ensures ∙ c.if-is_members.true))

pub loop-left-preserved : goal.loop-left-preserved
loop-left-preserved c =
    let n = c.loop-left.left in
    let rest = innermost_first (map scope_of (take (n - 1) c.args.loops.now)) in
    let step = ap current_of (loops-at scope_of c.args.loops.now n (n - 1) c.index-loops-left.result (omega arith) (omega arith) c.index-loops-left.is) in
    record {
      within = omega arith;
      rest = c.loop-left.invariant.rest ∙ step ∙ current-outside (scope_of c.index-loops-left.result) rest (sym c.is_members.ensures ∙ c.if-is_members.false);
    }
