use Rattle.std.proofs.Common.{arith, ◌≡◌, ◌-◌, ap, sym, ◌∙◌}
use Rattle.std.proofs.lemmas.Result.{err_from_is_err_and}
use Rattle.yr_hex.specs.Parts.{part_of, list_of, choice_of}
use Rattle.yr_hex.specs.Reading.{group_at, items_from, branches_from}
use Rattle.yr_hex.proofs.StepLemmas.{one_more, no_more, deeper, fails_with, items-none, list-end, list-next, branches-no_bar, branches-none, choice-end, choice-next, group-none, first-end, first-next}
use Rattle.yr_hex.proofs.item.+hex.Goals as goal

pub list-returns-in_err-part : goal.list-returns-in_err-part
list-returns-in_err-part t c =
    let e = one_more (λ n. items_from c.args.inside (group_at c.args.depth) n (list_of c.loop-turn.list) c.loop-turn.text) _ c.loop-turn._turn c.loop-turn-test.true c.loop-turn.invariant in
    let p = err_from_is_err_and c.from_residual.result c.from_residual.ensures.1 in
    rw (p.1, p.2) (fails_with part_of part_of _ _ _ _ _ c.in_err-part.ensures
    (λ h. e ∙ items-none c.args.inside (group_at c.args.depth) _ (list_of c.loop-turn.list) c.loop-turn.text h))

pub list-returns-then-ends : goal.list-returns-then-ends
list-returns-then-ends t c =
    let e = one_more (λ n. items_from c.args.inside (group_at c.args.depth) n (list_of c.loop-turn.list) c.loop-turn.text) _ c.loop-turn._turn c.loop-turn-test.true c.loop-turn.invariant in
    e ∙ list-end c.args.inside (group_at c.args.depth) _ (list_of c.loop-turn.list) c.loop-turn.text (part_of c.in_ok-part.part) c.item.new.text c.skip_gap-in-loop-turn.new.self
    (list_of c.push.new.self) (part_of c.sequence.result) c.in_ok-part.ensures c.in_ok-push.ensures c.skip_gap-in-loop-turn.ensures (sym c.if-ends.ensures) c.sequence.ensures

pub list-loop-turn-preserved : goal.list-loop-turn-preserved
list-loop-turn-preserved t c =
    let e = one_more (λ n. items_from c.args.inside (group_at c.args.depth) n (list_of c.loop-turn.list) c.loop-turn.text) _ c.loop-turn._turn c.loop-turn-test.true c.loop-turn.invariant in
    e ∙ list-next c.args.inside (group_at c.args.depth) _ (list_of c.loop-turn.list) c.loop-turn.text (part_of c.in_ok-part.part) c.item.new.text c.skip_gap-in-loop-turn.new.self
    (list_of c.push.new.self) c.in_ok-part.ensures c.in_ok-push.ensures c.skip_gap-in-loop-turn.ensures (sym c.if-ends.ensures)

pub list-returns : goal.list-returns
unfolding items_from
list-returns t c =
    no_more (λ n. items_from c.args.inside (group_at c.args.depth) n (list_of c.loop-turn.list) c.loop-turn.text) _ c.loop-turn._turn c.loop-turn-test.false c.loop-turn.invariant

pub branches-returns-in_err-expect : goal.branches-returns-in_err-expect
branches-returns-in_err-expect t c =
    let e = one_more (λ n. branches_from (group_at c.args.depth) n (choice_of c.loop-turn.choice) c.loop-turn.text) _ c.loop-turn._turn c.loop-turn-test.true c.loop-turn.invariant in
    let p = err_from_is_err_and c.from_residual-in_err-expect.result c.from_residual-in_err-expect.ensures.1 in
    rw (p.1, p.2) (fails_with (λ x. x) part_of _ _ _ _ _ c.in_err-expect.ensures
    (λ h. e ∙ branches-no_bar (group_at c.args.depth) _ (choice_of c.loop-turn.choice) c.loop-turn.text h))

pub branches-returns-in_err-branch : goal.branches-returns-in_err-branch
branches-returns-in_err-branch t c =
    let e = one_more (λ n. branches_from (group_at c.args.depth) n (choice_of c.loop-turn.choice) c.loop-turn.text) _ c.loop-turn._turn c.loop-turn-test.true c.loop-turn.invariant in
    let p = err_from_is_err_and c.from_residual-in_err-branch.result c.from_residual-in_err-branch.ensures.1 in
    rw (p.1, p.2) (fails_with part_of part_of _ _ _ _ _ c.in_err-branch.ensures
    (λ h. e ∙ branches-none (group_at c.args.depth) _ (choice_of c.loop-turn.choice) c.loop-turn.text c.expect.new.self c.in_ok-expect.ensures h))

pub branches-returns-then-eat : goal.branches-returns-then-eat
branches-returns-then-eat t c =
    let e = one_more (λ n. branches_from (group_at c.args.depth) n (choice_of c.loop-turn.choice) c.loop-turn.text) _ c.loop-turn._turn c.loop-turn-test.true c.loop-turn.invariant in
    e ∙ choice-end (group_at c.args.depth) _ (choice_of c.loop-turn.choice) c.loop-turn.text c.expect.new.self c.list.new.text c.eat.new.self (part_of c.in_ok-branch.branch)
    (choice_of c.push.new.self) (part_of c.choice.result) c.in_ok-expect.ensures c.in_ok-branch.ensures c.in_ok-push.ensures c.eat.ensures.after (sym c.if-eat.ensures.found) c.choice.ensures

pub branches-loop-turn-preserved : goal.branches-loop-turn-preserved
branches-loop-turn-preserved t c =
    let e = one_more (λ n. branches_from (group_at c.args.depth) n (choice_of c.loop-turn.choice) c.loop-turn.text) _ c.loop-turn._turn c.loop-turn-test.true c.loop-turn.invariant in
    e ∙ choice-next (group_at c.args.depth) _ (choice_of c.loop-turn.choice) c.loop-turn.text c.expect.new.self c.list.new.text c.eat.new.self (part_of c.in_ok-branch.branch)
    (choice_of c.push.new.self) c.in_ok-expect.ensures c.in_ok-branch.ensures c.in_ok-push.ensures c.eat.ensures.after (sym c.if-eat.ensures.found)

pub branches-returns : goal.branches-returns
unfolding branches_from
branches-returns t c =
    no_more (λ n. branches_from (group_at c.args.depth) n (choice_of c.loop-turn.choice) c.loop-turn.text) _ c.loop-turn._turn c.loop-turn-test.false c.loop-turn.invariant

pub group-returns-then-depth-eq0 : goal.group-returns-then-depth-eq0
unfolding group_at
group-returns-then-depth-eq0 t c = let none : c.args.depth ≡ 0 = omega arith in ap (λ n. group_at n c.args.text.now) none

pub group-returns-in_err-first : goal.group-returns-in_err-first
unfolding group_at
group-returns-in_err-first t c =
    let e = deeper (λ n. group_at n c.args.text.now) c.args.depth (omega arith) in
    let p = err_from_is_err_and c.from_residual.result c.from_residual.ensures.1 in
    rw (p.1, p.2) (fails_with part_of part_of _ _ _ _ _ c.in_err-first.ensures (λ h. e ∙ group-none (group_at (c.args.depth - 1)) c.args.text.now h))

pub group-returns-then-eat : goal.group-returns-then-eat
unfolding group_at
group-returns-then-eat t c =
    let e = deeper (λ n. group_at n c.args.text.now) c.args.depth (omega arith) in
    e ∙ first-end (group_at (c.args.depth - 1)) c.args.text.now c.list.new.text c.eat.new.self (part_of c.in_ok-first.first) c.in_ok-first.ensures c.eat.ensures.after (sym c.if-eat.ensures.found)

pub group-returns : goal.group-returns
unfolding group_at
group-returns t c =
    let e = deeper (λ n. group_at n c.args.text.now) c.args.depth (omega arith) in
    let f = first-next (group_at (c.args.depth - 1)) c.args.text.now c.list.new.text c.eat.new.self (part_of c.in_ok-first.first) c.in_ok-first.ensures c.eat.ensures.after (sym c.if-eat.ensures.found) in
    rw (e, f) c.branches.ensures
