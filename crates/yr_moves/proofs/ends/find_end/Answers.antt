use Rattle.std.proofs.Common.{◌≡◌, ◌<◌, ◌≤◌, ◌+◌, inl, inr, ℕ, length, sym, ap, ◌∙◌, subst, arith, true≢false}
use Rattle.std.proofs.lemmas.Bool.{cases_lt}
use Rattle.yr_moves.specs.Marked.{Shown}
use Rattle.yr_moves.specs.Passes.{AreBelow}
use Rattle.yr_moves.specs.Programs.{moves_of, sets_of}
use Rattle.yr_moves.proofs.MemberLemmas.{is_empty, not_empty}
use Rattle.yr_moves.proofs.EndLemmas.{Searching, first_member, spent_start, spent_more, searching_start, searching_keep, searching_new, least_end, finished, over_when_empty, end_inside, inside_of, cost_of}
use Rattle.yr_moves.proofs.ends.find_end.Goals as goal
use Rattle.yr_moves.proofs.ends.find_end.Goals.{then-found+then-is_wanted+else-not-greedy, else-found, else-found-via-then-found+else-is_wanted, else-found-via-else-found}

pub loop-i-init : goal.loop-i-init
loop-i-init g c =
    let rows = c.args.rows.now in
    let first = first_member c.clear.new.self.items c.add.new.self.items (length (moves_of rows)) c.clear.ensures.items c.add.ensures.1 c.requires.wellformed.0 in (
      searching_start (moves_of rows) (sets_of rows) c.args.file.now c.args.at c.args.least c.args.greedy c.args.border c.add.new.self.items first.0,
      first.1,
      c.add.ensures.0 ∙ c.clear.ensures.room,
      c.requires.same_room,
      spent_start (length (moves_of rows)) c.args.at c.args.steps.now,
      λ e. first.2,
    )

pub returns-then-is_empty-clause-end : goal.returns-then-is_empty-clause-end
returns-then-is_empty-clause-end g c =
    let rows = c.args.rows.now in
    let s = c.loop-i.invariant.0 in
    let empty : length c.loop-i.now.items ≡ 0 = is_empty (length c.loop-i.now.items) c.is_empty.result c.is_empty.ensures c.if-is_empty.true in
    (finished (moves_of rows) (sets_of rows) c.args.file.now c.args.at c.args.least c.args.greedy c.args.border c.loop-i.i c.loop-i.now.items c.loop-i.best s
    (over_when_empty (moves_of rows) (sets_of rows) c.args.file.now c.args.at c.args.least c.args.greedy c.args.border c.loop-i.i c.loop-i.now.items c.loop-i.best s empty)).0

pub returns-then-is_empty-clause-none : goal.returns-then-is_empty-clause-none
returns-then-is_empty-clause-none g c =
    let rows = c.args.rows.now in
    let s = c.loop-i.invariant.0 in
    let empty : length c.loop-i.now.items ≡ 0 = is_empty (length c.loop-i.now.items) c.is_empty.result c.is_empty.ensures c.if-is_empty.true in
    (finished (moves_of rows) (sets_of rows) c.args.file.now c.args.at c.args.least c.args.greedy c.args.border c.loop-i.i c.loop-i.now.items c.loop-i.best s
    (over_when_empty (moves_of rows) (sets_of rows) c.args.file.now c.args.at c.args.least c.args.greedy c.args.border c.loop-i.i c.loop-i.now.items c.loop-i.best s empty)).1

pub returns-then-is_empty-clause-inside : goal.returns-then-is_empty-clause-inside
returns-then-is_empty-clause-inside g c =
    let rows = c.args.rows.now in
    inside_of (moves_of rows) (sets_of rows) c.args.file.now c.args.at c.args.least c.args.greedy c.args.border c.loop-i.i c.loop-i.now.items c.loop-i.best c.requires.place c.loop-i.invariant.0

pub returns-then-is_empty-clause-least_cost : goal.returns-then-is_empty-clause-least_cost
returns-then-is_empty-clause-least_cost g c =
    let rows = c.args.rows.now in
    let spent = c.loop-i.invariant.4 in
    let empty : length c.loop-i.now.items ≡ 0 = is_empty (length c.loop-i.now.items) c.is_empty.result c.is_empty.ensures c.if-is_empty.true in
    let more : c.args.at < c.loop-i.i = later c.args.at c.loop-i.i (length c.loop-i.now.items) spent.from empty c.loop-i.invariant.5 in
    cost_of (moves_of rows) (sets_of rows) c.args.file.now c.args.at c.args.least c.args.greedy c.args.border c.loop-i.i (length (moves_of rows)) c.args.steps.now c.loop-i.steps c.loop-i.now.items c.loop-i.best
    c.loop-i.invariant.0 spent more
  where
    later : (at i n : ℕ) → at ≤ i → n ≡ 0 → (i ≡ at → 0 < n) → at < i
    later at i n le none fresh = elim (cases_lt at i) [ inl lt ↦ lt | inr ge ↦ absurd (omega (arith, none, fresh (omega (arith, le, ge)))) ]

pub returns-then-not-greedy-clause-end : goal.returns-then-not-greedy-clause-end
returns-then-not-greedy-clause-end g c =
    let rows = c.args.rows.now in
    let wanted = c.is_wanted.ensures.0 c.if-is_wanted.true in
    least_end (moves_of rows) (sets_of rows) c.args.file.now c.args.at c.args.least c.args.greedy c.args.border c.loop-i.i c.byte_at.result c.loop-i.now.items c.pass-found.new.onwards.items c.loop-i.best
    c.pass-found.result c.byte_at.ensures c.loop-i.invariant.0 c.pass-found.ensures.passes c.if-found.true wanted.0 wanted.1 c.if-not-greedy.true

pub loop-i-preserved : goal.loop-i-preserved
loop-i-preserved g c =
    let rows = c.args.rows.now in
    let s = c.loop-i.invariant.0 in
    let p = c.pass-found.ensures.passes in
    let now = c.loop-i.now.items in
    let on = c.pass-found.new.onwards.items in
    let nonempty : 0 < length now = not_empty (length now) c.is_empty.result c.is_empty.ensures c.if-is_empty.false in
    let next : Searching (moves_of rows) (sets_of rows) c.args.file.now c.args.at c.args.least c.args.greedy c.args.border (c.loop-i.i + 1) on c.if-found.best = elim c.if-found.branch [
      | then-found+then-is_wanted+else-not-greedy w ↦
          let wanted = w.is_wanted.ensures.0 w.if-is_wanted.true in
          searching_new (moves_of rows) (sets_of rows) c.args.file.now c.args.at c.args.least c.args.greedy c.args.border c.loop-i.i c.byte_at.result now on c.loop-i.best c.pass-found.result c.byte_at.ensures s p
          c.if-found.best w.best-is w.if-found.true wanted.0 wanted.1 w.if-not-greedy.false
      | else-found w ↦
          searching_keep (moves_of rows) (sets_of rows) c.args.file.now c.args.at c.args.least c.args.greedy c.args.border c.loop-i.i c.byte_at.result now on c.loop-i.best c.pass-found.result c.byte_at.ensures s p
          c.if-found.best w.best-is
          (λ yes_found le fits. elim w.else-found.branch [
            | else-found-via-then-found+else-is_wanted v ↦ true≢false (sym (v.is_wanted.ensures.1 (le, fits)) ∙ v.if-is_wanted.false)
            | else-found-via-else-found v ↦ true≢false (sym yes_found ∙ v.if-found.false)
          ])
    ] in
    let S : Shown → Type 0 = λ x. Searching (moves_of rows) (sets_of rows) c.args.file.now c.args.at c.args.least c.args.greedy c.args.border (c.loop-i.i + 1) x.items c.if-found.best in
    let B : Shown → Type 0 = λ x. AreBelow (length (moves_of rows)) x.items in
    let spent = c.loop-i.invariant.4 in (
      subst S (sym c.swap.ensures.x_after) next,
      subst B (sym c.swap.ensures.x_after) c.pass-found.ensures.below,
      ap (λ (x : Shown). x.room) c.swap.ensures.x_after ∙ c.pass-found.ensures.room.1 ∙ c.loop-i.invariant.3,
      ap (λ (x : Shown). x.room) c.swap.ensures.y_after ∙ c.pass-found.ensures.room.0 ∙ c.loop-i.invariant.2,
      spent_more (length (moves_of rows)) c.args.at c.loop-i.i c.args.steps.now c.loop-i.steps c.pass-found.new.steps (length now) spent nonempty c.pass-found.ensures.least_cost c.pass-found.ensures.most_cost,
      λ e. absurd (omega (arith, e, spent.from)),
    )

pub returns-clause-end : goal.returns-clause-end
returns-clause-end g c =
    let rows = c.args.rows.now in
    (finished (moves_of rows) (sets_of rows) c.args.file.now c.args.at c.args.least c.args.greedy c.args.border c.loop-i.i c.loop-i.now.items c.loop-i.best c.loop-i.invariant.0
    (λ o end. let le = end_inside (moves_of rows) (sets_of rows) c.args.file.now c.args.at c.args.least c.args.greedy c.args.border c.requires.place o end in omega (arith, le, c.loop-i-test.false))).0

pub returns-clause-none : goal.returns-clause-none
returns-clause-none g c =
    let rows = c.args.rows.now in
    (finished (moves_of rows) (sets_of rows) c.args.file.now c.args.at c.args.least c.args.greedy c.args.border c.loop-i.i c.loop-i.now.items c.loop-i.best c.loop-i.invariant.0
    (λ o end. let le = end_inside (moves_of rows) (sets_of rows) c.args.file.now c.args.at c.args.least c.args.greedy c.args.border c.requires.place o end in omega (arith, le, c.loop-i-test.false))).1

pub returns-clause-inside : goal.returns-clause-inside
returns-clause-inside g c =
    let rows = c.args.rows.now in
    inside_of (moves_of rows) (sets_of rows) c.args.file.now c.args.at c.args.least c.args.greedy c.args.border c.loop-i.i c.loop-i.now.items c.loop-i.best c.requires.place c.loop-i.invariant.0

pub returns-clause-least_cost : goal.returns-clause-least_cost
returns-clause-least_cost g c =
    let rows = c.args.rows.now in
    cost_of (moves_of rows) (sets_of rows) c.args.file.now c.args.at c.args.least c.args.greedy c.args.border c.loop-i.i (length (moves_of rows)) c.args.steps.now c.loop-i.steps c.loop-i.now.items c.loop-i.best
    c.loop-i.invariant.0 c.loop-i.invariant.4 (omega (arith, c.loop-i-test.false, c.requires.place))
