use Rattle.std.proofs.Common.{length, inl, inr, sym, ◌∙◌, arith, true≢false}
use Rattle.yr_moves.specs.Programs.{moves_of, sets_of}
use Rattle.yr_moves.proofs.MemberLemmas.{member_get}
use Rattle.yr_moves.proofs.PassLemmas.{passing_step, passing_done}
use Rattle.yr_moves.proofs.pass.pass.Goals as goal
use Rattle.yr_moves.proofs.pass.pass.Goals.{then-visit, else-visit}

pub move_at-v-requires-clause-inside : goal.move_at-v-requires-clause-inside
move_at-v-requires-clause-inside g c = c.loop-k.invariant.0.below c.get.result (member_get c.loop-k.now.items c.loop-k.k c.get.result c.get.ensures)

pub loop-k-preserved : goal.loop-k-preserved
loop-k-preserved g c =
    let rows = c.args.rows.now in (
      passing_step (moves_of rows) (sets_of rows) c.args.file.now c.args.i c.args.byte c.loop-k.k c.args.now.now.items c.loop-k.now.items c.visit.new.now.items c.loop-k.onwards.items
          c.visit.new.onwards.items c.loop-k.found c.if-visit.found c.visit.result c.get.result c.move_at-v.result (omega (arith, c.loop-k-test.true, c.len.ensures.len)) c.get.ensures
          c.move_at-v.ensures.is c.move_at-v.ensures.names c.loop-k.invariant.0 c.visit.ensures.visits
          (λ e. elim c.if-visit.branch [ then-visit w ↦ w.found-is | else-visit w ↦ absurd (true≢false (sym e ∙ w.if-visit.false)) ])
          (λ e. elim c.if-visit.branch [ then-visit w ↦ w.found-is | else-visit w ↦ w.found-is ∙ e ])
          (λ e. elim c.if-visit.branch [ then-visit w ↦ inl w.if-visit.true | else-visit w ↦ inr (sym w.found-is ∙ e) ]),
      c.visit.ensures.room ∙ c.loop-k.invariant.1,
      c.visit.ensures.room_on ∙ c.loop-k.invariant.2,
      omega (arith, c.visit.ensures.cost, c.loop-k.invariant.3),
    )

pub returns-clause-passes : goal.returns-clause-passes
returns-clause-passes g c =
    let rows = c.args.rows.now in
    passing_done (moves_of rows) (sets_of rows) c.args.file.now c.args.i c.args.byte c.loop-k.k c.args.now.now.items c.loop-k.now.items c.loop-k.onwards.items c.loop-k.found
    (omega (arith, c.loop-k-test.false, c.len.ensures.len)) c.loop-k.invariant.0

pub returns-clause-most_cost : goal.returns-clause-most_cost
returns-clause-most_cost g c =
    let few = c.len.ensures.few (length (moves_of c.args.rows.now)) c.loop-k.invariant.0.below in
    omega (arith, few, c.loop-k.invariant.0.done, c.loop-k.invariant.3, c.len.ensures.len, c.loop-k-test.false)
