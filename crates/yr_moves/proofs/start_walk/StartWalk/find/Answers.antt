use Rattle.std.proofs.Common.{◌≡◌, ◌<◌, ◌+◌, ◌-◌, ℕ, length, true, sym, ap, ◌∙◌, subst, arith, true≢false}
use Rattle.yr_moves.specs.Walks.{Walk, IsMidway, IsBest, IsStart}
use Rattle.yr_moves.proofs.MemberLemmas.{is_empty, not_empty}
use Rattle.yr_moves.proofs.EndLemmas.{Spent, spent_more}
use Rattle.yr_moves.proofs.WalkLemmas.{falling_more, falling_best, falling_none, falling_empty, midway_end}
use Rattle.yr_moves.proofs.start_walk.StartWalk.find.Goals as goal

pub returns-then-is_empty-clause-none : goal.returns-then-is_empty-clause-none
returns-then-is_empty-clause-none g c =
    falling_empty c.args.self.now c.falling.self c.falling.now c.falling.invariant.1 c.falling.invariant.0 (is_empty (length c.falling.now.items) c.is_empty.result c.is_empty.ensures c.if-is_empty.true)

pub returns-then-is_empty-clause-midway : goal.returns-then-is_empty-clause-midway
returns-then-is_empty-clause-midway g c =
    let M : Walk → Type 0 = λ x. IsMidway x c.falling.now in
    let done = midway_end c.falling.self c.falling.now c.falling.invariant.0 (is_empty (length c.falling.now.items) c.is_empty.result c.is_empty.ensures c.if-is_empty.true) in
    (subst M (sym c.end.ensures) done, c.falling.invariant.2, c.falling.invariant.3)

pub returns-then-fall-clause-start : goal.returns-then-fall-clause-start
returns-then-fall-clause-start g c =
    let more : 0 < c.falling.self.place = omega (arith, c.falling-test.true, c.place.ensures) in
    let B : ℕ → Type 0 = λ x. IsBest true (IsStart c.args.self.now) x in
    subst B (sym c.place-then-fall.ensures)
    (falling_best c.args.self.now c.falling.self c.fall.new.self c.falling.invariant.1 more c.fall.ensures.walk (c.fall.ensures.start.0 c.if-fall.true))

pub falling-preserved : goal.falling-preserved
falling-preserved g c =
    let more : 0 < c.falling.self.place = omega (arith, c.falling-test.true, c.place.ensures) in
    let f = c.falling.invariant.1 in
    let m = length c.args.self.now.moves in
    let same : length c.falling.self.moves ≡ m = ap (λ (x : Walk). length x.moves) f.same in
    let fell : c.fall.new.self.place ≡ c.falling.self.place - 1 = ap (λ (x : Walk). x.place) c.fall.ensures.walk in
    let one : c.args.self.now.place - c.falling.self.place + 1 ≡ c.args.self.now.place - c.fall.new.self.place = omega (arith, fell, more, f.lower) in
    let S : ℕ → Type 0 = λ d. Spent m 0 d c.args.steps.now c.fall.new.steps in (
      c.fall.ensures.midway,
      falling_more c.args.self.now c.falling.self c.fall.new.self f more c.fall.ensures.walk (λ acc. true≢false (sym (c.fall.ensures.start.1 acc) ∙ c.if-fall.false)),
      c.fall.ensures.room.0 ∙ c.falling.invariant.2,
      c.fall.ensures.room.1 ∙ c.falling.invariant.2,
      subst S one
          (spent_more m 0 (c.args.self.now.place - c.falling.self.place) c.args.steps.now c.falling.steps c.fall.new.steps (length c.falling.now.items) c.falling.invariant.4
          (not_empty (length c.falling.now.items) c.is_empty.result c.is_empty.ensures c.if-is_empty.false) c.fall.ensures.least_cost (omega (arith, same, c.fall.ensures.most_cost))),
    )

pub returns-clause-none : goal.returns-clause-none
returns-clause-none g c = falling_none c.args.self.now c.falling.self c.falling.invariant.1 (omega (arith, c.falling-test.false, c.place.ensures))
