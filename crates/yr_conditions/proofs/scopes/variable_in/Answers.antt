use Rattle.std.proofs.Common.{◌≡◌, ◌-◌, ◌∷◌, ◌∙◌, sym, ap, map, take, Some, None, Option, arith, true, false}
use Rattle.std.specs.Prelude.{is_some}
use Rattle.std.specs.Option.{option_map, option_or}
use Rattle.yr_conditions.specs.Meanings.{Meaning, variable_meaning}
use Rattle.yr_conditions.specs.UseViews.{innermost_first, own_meaning, scope_of, shown}
use Rattle.yr_conditions.proofs.MeaningLemmas.{loops-at, loops-before, variable-in, or-there, or-none, shown-some, shown-none}
use Rattle.yr_conditions.proofs.scopes.variable_in.Goals as goal

-- the variable among the loops up to a number, by the one before it
pub returns-then-is_some : goal.returns-then-is_some
returns-then-is_some c =
    let n = c.loop-left.left in
    let rest = innermost_first (map scope_of (take (n - 1) c.args.loops.now)) in
    let step = ap (variable_meaning c.args.word.now) (loops-at scope_of c.args.loops.now n (n - 1) c.index-loops-left.result (omega arith) (omega arith) c.index-loops-left.is) in
    let own = variable-in c.args.word.now (scope_of c.index-loops-left.result) rest (n - 1) (loops-before scope_of c.args.loops.now (n - 1) (omega arith)) in
    let there = shown-some shown c.variable_of-found.result (sym c.is_some.ensures ∙ c.if-is_some.true) in
    sym (c.loop-left.invariant.rest ∙ step ∙ own ∙ or-there (own_meaning c.args.word.now (n - 1) (scope_of c.index-loops-left.result)) (variable_meaning c.args.word.now rest) (ap is_some (sym c.variable_of-found.ensures) ∙ there) ∙ sym c.variable_of-found.ensures)

pub loop-left-preserved : goal.loop-left-preserved
loop-left-preserved c =
    let n = c.loop-left.left in
    let rest = innermost_first (map scope_of (take (n - 1) c.args.loops.now)) in
    let step = ap (variable_meaning c.args.word.now) (loops-at scope_of c.args.loops.now n (n - 1) c.index-loops-left.result (omega arith) (omega arith) c.index-loops-left.is) in
    let own = variable-in c.args.word.now (scope_of c.index-loops-left.result) rest (n - 1) (loops-before scope_of c.args.loops.now (n - 1) (omega arith)) in
    let gone = shown-none shown c.variable_of-found.result (sym c.is_some.ensures ∙ c.if-is_some.false) in
    record {
      within = omega arith;
      rest = c.loop-left.invariant.rest ∙ step ∙ own ∙ or-none (own_meaning c.args.word.now (n - 1) (scope_of c.index-loops-left.result)) (variable_meaning c.args.word.now rest) (sym c.variable_of-found.ensures ∙ gone);
    }
