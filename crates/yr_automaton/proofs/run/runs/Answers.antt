use Rattle.std.proofs.Common.{◌≡◌, ◌+◌, [], ◌∷◌, ◌++◌, arith, sym, ap, subst, ◌∙◌}
use Rattle.yr_automaton.proofs.BuildLemmas.{Running, running_start, running_step, running_done}
use Rattle.yr_automaton.proofs.run.runs.Goals as goal

pub end_of_run-at-requires : goal.end_of_run-at-requires
end_of_run-at-requires c = c.loop-key.invariant.low

pub loop-key-init : goal.loop-key-init
loop-key-init c =
    let first : c.push.new.self.items ≡ 0 ∷ [] = c.in_ok-push.ensures.items ∙ ap (λ l. l ++ 0 ∷ []) c.new-starts.ensures.items in
    subst (Running c.args.keys.now c.args.xs.now 0 0) (sym first) (running_start c.args.keys.now c.args.xs.now c.requires.keys c.requires.sorted c.requires.known)

pub loop-key-preserved : goal.loop-key-preserved
loop-key-preserved c =
    let e = c.end_of_run-at.ensures in
    subst (Running c.args.keys.now c.args.xs.now (c.loop-key.key-index + 1) c.end_of_run-at.result) (sym c.in_ok-push-2.ensures.items)
    (running_step c.args.keys.now c.args.xs.now c.requires.keys c.requires.sorted c.requires.known c.loop-key.key-index c.loop-key.at c.end_of_run-at.result c.loop-key.starts.items
    c.loop-key-test.true c.loop-key.invariant e.range.0 e.range.1 e.run e.end)

pub returns : goal.returns
returns c = running_done c.args.keys.now c.args.xs.now c.requires.keys c.requires.sorted c.requires.known c.loop-key.key-index c.loop-key.at c.loop-key.starts.items (omega (arith, c.loop-key-test.false, c.loop-key.auto.key-index-end)) c.loop-key.invariant
