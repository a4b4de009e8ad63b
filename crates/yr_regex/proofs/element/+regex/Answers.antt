use Rattle.std.proofs.Common.{arith, ◌≡◌, ◌-◌, ap, sym, ◌∙◌}
use Rattle.std.proofs.lemmas.Result.{err_from_is_err_and}
use Rattle.yr_regex.specs.Parts.{part_of, parts_of}
use Rattle.yr_regex.specs.Reading.{grouped_at, pieces_at, branches_at, sequence_at, single}
use Rattle.yr_regex.proofs.StepLemmas.{one_more, no_more, deeper, fails_with, pieces-stop, pieces-none, pieces-next, pieces-last, pieces-over, branches-none, branches-end, branches-next, group-none, group-end, group-open}
use Rattle.yr_regex.proofs.element.+regex.Goals as goal

pub sequence-returns-then-ends : goal.sequence-returns-then-ends
sequence-returns-then-ends t c =
    one_more (λ n. pieces_at c.args.flags.nocase c.args.flags.dot_all (grouped_at c.args.flags.nocase c.args.flags.dot_all c.args.depth) n (parts_of c.loop-turn.pieces) c.loop-turn.text) _ c.loop-turn._turn c.loop-turn-test.true c.loop-turn.invariant
    ∙ pieces-stop c.args.flags.nocase c.args.flags.dot_all (grouped_at c.args.flags.nocase c.args.flags.dot_all c.args.depth) _ (parts_of c.loop-turn.pieces) c.loop-turn.text (part_of c.sequence.result) (sym c.if-ends.ensures) c.sequence.ensures

pub sequence-returns-in_err-part : goal.sequence-returns-in_err-part
sequence-returns-in_err-part t c =
    let e = one_more (λ n. pieces_at c.args.flags.nocase c.args.flags.dot_all (grouped_at c.args.flags.nocase c.args.flags.dot_all c.args.depth) n (parts_of c.loop-turn.pieces) c.loop-turn.text) _ c.loop-turn._turn c.loop-turn-test.true c.loop-turn.invariant in
    let p = err_from_is_err_and c.from_residual.result c.from_residual.ensures.1 in
    rw (p.1, p.2) (fails_with part_of part_of _ _ _ _ _ c.in_err-part.ensures (λ h. e ∙ pieces-none c.args.flags.nocase c.args.flags.dot_all (grouped_at c.args.flags.nocase c.args.flags.dot_all c.args.depth) _ (parts_of c.loop-turn.pieces) c.loop-turn.text (sym c.if-ends.ensures) h))

pub sequence-loop-turn-preserved : goal.sequence-loop-turn-preserved
sequence-loop-turn-preserved t c =
    one_more (λ n. pieces_at c.args.flags.nocase c.args.flags.dot_all (grouped_at c.args.flags.nocase c.args.flags.dot_all c.args.depth) n (parts_of c.loop-turn.pieces) c.loop-turn.text) _ c.loop-turn._turn c.loop-turn-test.true c.loop-turn.invariant
    ∙ pieces-next c.args.flags.nocase c.args.flags.dot_all (grouped_at c.args.flags.nocase c.args.flags.dot_all c.args.depth) _ (parts_of c.loop-turn.pieces) c.loop-turn.text (part_of c.in_ok-part.part) c.piece.new.text (parts_of c.push.new.self) (sym c.if-ends.ensures) c.in_ok-part.ensures c.in_ok-push.ensures

pub sequence-returns-then-ends-2 : goal.sequence-returns-then-ends-2
sequence-returns-then-ends-2 t c =
    no_more (λ n. pieces_at c.args.flags.nocase c.args.flags.dot_all (grouped_at c.args.flags.nocase c.args.flags.dot_all c.args.depth) n (parts_of c.loop-turn.pieces) c.loop-turn.text) _ c.loop-turn._turn c.loop-turn-test.false c.loop-turn.invariant
    ∙ pieces-last c.args.flags.nocase c.args.flags.dot_all (grouped_at c.args.flags.nocase c.args.flags.dot_all c.args.depth) 0 (parts_of c.loop-turn.pieces) c.loop-turn.text (part_of c.sequence-then-ends-2.result) (sym c.if-ends-2.ensures) c.sequence-then-ends-2.ensures

pub sequence-returns : goal.sequence-returns
sequence-returns t c =
    no_more (λ n. pieces_at c.args.flags.nocase c.args.flags.dot_all (grouped_at c.args.flags.nocase c.args.flags.dot_all c.args.depth) n (parts_of c.loop-turn.pieces) c.loop-turn.text) _ c.loop-turn._turn c.loop-turn-test.false c.loop-turn.invariant
    ∙ pieces-over c.args.flags.nocase c.args.flags.dot_all (grouped_at c.args.flags.nocase c.args.flags.dot_all c.args.depth) 0 (parts_of c.loop-turn.pieces) c.loop-turn.text (sym c.if-ends-2.ensures)

pub branches-returns-in_err-branch : goal.branches-returns-in_err-branch
branches-returns-in_err-branch t c =
    let e = one_more (λ n. branches_at c.args.flags.nocase c.args.flags.dot_all (grouped_at c.args.flags.nocase c.args.flags.dot_all c.args.depth) n (parts_of c.loop-turn.branches) c.loop-turn.text) _ c.loop-turn._turn c.loop-turn-test.true c.loop-turn.invariant in
    let p = err_from_is_err_and c.from_residual-in_err-branch.result c.from_residual-in_err-branch.ensures.1 in
    rw (p.1, p.2) (fails_with part_of part_of (sequence_at c.args.flags.nocase c.args.flags.dot_all (grouped_at c.args.flags.nocase c.args.flags.dot_all c.args.depth) c.loop-turn.text)
    (branches_at c.args.flags.nocase c.args.flags.dot_all (grouped_at c.args.flags.nocase c.args.flags.dot_all c.args.depth) c.args.count (single (part_of c.args.first)) c.args.text.now) _ _ _ c.in_err-branch.ensures (λ h. e ∙ branches-none c.args.flags.nocase c.args.flags.dot_all (grouped_at c.args.flags.nocase c.args.flags.dot_all c.args.depth) _ (parts_of c.loop-turn.branches) c.loop-turn.text h))

pub branches-returns-then-not-eat : goal.branches-returns-then-not-eat
branches-returns-then-not-eat t c =
    one_more (λ n. branches_at c.args.flags.nocase c.args.flags.dot_all (grouped_at c.args.flags.nocase c.args.flags.dot_all c.args.depth) n (parts_of c.loop-turn.branches) c.loop-turn.text) _ c.loop-turn._turn c.loop-turn-test.true c.loop-turn.invariant
    ∙ branches-end c.args.flags.nocase c.args.flags.dot_all (grouped_at c.args.flags.nocase c.args.flags.dot_all c.args.depth) _ (parts_of c.loop-turn.branches) c.loop-turn.text (part_of c.in_ok-branch.branch) c.sequence.new.text c.eat.new.self (parts_of c.push.new.self) (part_of c.choice.result)
    c.in_ok-branch.ensures c.in_ok-push.ensures c.eat.ensures.after (sym c.if-not-eat.ensures.found) c.choice.ensures

pub branches-loop-turn-preserved : goal.branches-loop-turn-preserved
branches-loop-turn-preserved t c =
    one_more (λ n. branches_at c.args.flags.nocase c.args.flags.dot_all (grouped_at c.args.flags.nocase c.args.flags.dot_all c.args.depth) n (parts_of c.loop-turn.branches) c.loop-turn.text) _ c.loop-turn._turn c.loop-turn-test.true c.loop-turn.invariant
    ∙ branches-next c.args.flags.nocase c.args.flags.dot_all (grouped_at c.args.flags.nocase c.args.flags.dot_all c.args.depth) _ (parts_of c.loop-turn.branches) c.loop-turn.text (part_of c.in_ok-branch.branch) c.sequence.new.text c.eat.new.self (parts_of c.push.new.self)
    c.in_ok-branch.ensures c.in_ok-push.ensures c.eat.ensures.after (sym c.if-not-eat.ensures.found)

pub branches-returns : goal.branches-returns
unfolding branches_at
branches-returns t c =
    no_more (λ n. branches_at c.args.flags.nocase c.args.flags.dot_all (grouped_at c.args.flags.nocase c.args.flags.dot_all c.args.depth) n (parts_of c.loop-turn.branches) c.loop-turn.text) _ c.loop-turn._turn c.loop-turn-test.false c.loop-turn.invariant

pub group-returns-then-depth-eq0 : goal.group-returns-then-depth-eq0
unfolding grouped_at
group-returns-then-depth-eq0 t c =
    let none : c.args.depth ≡ 0 = omega arith in ap (λ n. grouped_at c.args.flags.nocase c.args.flags.dot_all n c.args.text.now) none

pub group-returns-in_err-inside : goal.group-returns-in_err-inside
group-returns-in_err-inside t c =
    let e = deeper (λ n. grouped_at c.args.flags.nocase c.args.flags.dot_all n c.args.text.now) c.args.depth (omega arith) in
    let p = err_from_is_err_and c.from_residual.result c.from_residual.ensures.1 in
    rw (p.1, p.2) (fails_with part_of part_of _ _ _ _ _ c.in_err-inside.ensures (λ h. e ∙ group-none c.args.flags.nocase c.args.flags.dot_all (c.args.depth - 1) c.args.text.now h))

pub group-returns-then-eat : goal.group-returns-then-eat
group-returns-then-eat t c =
    deeper (λ n. grouped_at c.args.flags.nocase c.args.flags.dot_all n c.args.text.now) c.args.depth (omega arith)
    ∙ group-end c.args.flags.nocase c.args.flags.dot_all (c.args.depth - 1) c.args.text.now (part_of c.in_ok-inside.inside) c.expression.new.text c.eat.new.self c.in_ok-inside.ensures c.eat.ensures.after (sym c.if-eat.ensures.found)

pub group-returns : goal.group-returns
group-returns t c =
    deeper (λ n. grouped_at c.args.flags.nocase c.args.flags.dot_all n c.args.text.now) c.args.depth (omega arith)
    ∙ group-open c.args.flags.nocase c.args.flags.dot_all (c.args.depth - 1) c.args.text.now (part_of c.in_ok-inside.inside) c.expression.new.text c.expression.new.text c.in_ok-inside.ensures (sym c.if-eat.ensures.found)
