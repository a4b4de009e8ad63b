use Rattle.std.proofs.Common.{◌≡◌, ◌<◌, ◌-◌, ◌∷◌, ◌∙◌, sym, ap, map, take, drop, length, length-drop, arith}
use Rattle.std.proofs.Math.Seq.{drop-cons}
use Rattle.yr_syntax.specs.Condition.{step_of, steps_of}
use Rattle.yr_conditions.specs.Around.{around_of}
use Rattle.yr_conditions.specs.Meanings.{path_meaning, steps_meaning}
use Rattle.yr_conditions.specs.UseViews.{shown}
use Rattle.yr_conditions.proofs.MeaningLemmas.{path-head, take-whole}
use Rattle.yr_conditions.proofs.path.path_meaning.Goals as goal

pub returns-in-len1-up : goal.returns-in-len1-up
returns-in-len1-up c =
    let steps = c.args.steps.now in
    let head = c.head-item.result in
    let within : 0 < length steps = omega (arith, c.in-len1-up.len_at_least) in
    let behind : take (length steps - 1) (drop 1 steps) ≡ drop 1 steps = ap (λ n. take n (drop 1 steps)) (sym (length-drop 1 steps)) ∙ take-whole (drop 1 steps) in
    let whole : steps ≡ head ∷ drop 1 steps = drop-cons steps 0 head within ∙ ap (λ x. x ∷ drop 1 steps) (sym c.head-item.is) in
    c.steps_meaning.ensures
    ∙ ap (λ l. steps_meaning (steps_of (map step_of l)) (shown c.head_meaning.result)) behind
    ∙ ap (λ m. steps_meaning (steps_of (map step_of (drop 1 steps))) m) c.head_meaning.ensures
    ∙ sym (path-head (around_of c.args.around.now) (step_of head) (map step_of (drop 1 steps)) c.args.scopes.now)
    ∙ ap (λ l. path_meaning (around_of c.args.around.now) (steps_of (map step_of l)) c.args.scopes.now) (sym whole)
