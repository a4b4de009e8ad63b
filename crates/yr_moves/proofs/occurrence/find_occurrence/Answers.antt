use Rattle.std.proofs.Common.{◌+◌, length, refl, sym, ap, ◌∙◌, subst, arith, true≢false}
use Rattle.yr_moves.specs.Marked.{Shown}
use Rattle.yr_moves.specs.Passes.{AreBelow}
use Rattle.yr_moves.specs.Programs.{moves_of, sets_of}
use Rattle.yr_moves.proofs.MemberLemmas.{first_below}
use Rattle.yr_moves.proofs.EndLemmas.{spent_more}
use Rattle.yr_moves.proofs.OccursLemmas.{Looking, looking_found, looking_more, looking_done}
use Rattle.yr_moves.proofs.occurrence.find_occurrence.Goals as goal

pub pass-requires-clause-below : goal.pass-requires-clause-below
pass-requires-clause-below g c =
    (first_below c.loop-i.now.items c.add.new.self.items (length (moves_of c.args.rows.now)) c.loop-i.invariant.1 c.add.ensures.1 c.requires.wellformed.0).0

pub returns-then-pass-clause-occurs : goal.returns-then-pass-clause-occurs
returns-then-pass-clause-occurs g c =
    let rows = c.args.rows.now in (
      λ e. looking_found (moves_of rows) (sets_of rows) c.args.text.now c.loop-i.i c.byte_at.result c.loop-i.now.items c.add.new.self.items c.pass.new.onwards.items c.pass.result c.byte_at.ensures
          c.loop-i.invariant.0 c.add.ensures.1 c.pass.ensures.passes (omega (arith, c.loop-i-test.true)) c.if-pass.true,
      λ o. refl,
    )

pub loop-i-preserved : goal.loop-i-preserved
loop-i-preserved g c =
    let rows = c.args.rows.now in
    let n = length (moves_of rows) in
    let on = c.pass.new.onwards.items in
    let first = first_below c.loop-i.now.items c.add.new.self.items n c.loop-i.invariant.1 c.add.ensures.1 c.requires.wellformed.0 in
    let next = looking_more (moves_of rows) (sets_of rows) c.args.text.now c.loop-i.i c.byte_at.result c.loop-i.now.items c.add.new.self.items on c.pass.result c.byte_at.ensures c.loop-i.invariant.0
    c.add.ensures.1 c.pass.ensures.passes c.if-pass.false
    in
    let S : Shown → Type 0 = λ x. Looking (moves_of rows) (sets_of rows) c.args.text.now (c.loop-i.i + 1) x.items in
    let B : Shown → Type 0 = λ x. AreBelow n x.items in (
      subst S (sym c.swap.ensures.x_after) next,
      subst B (sym c.swap.ensures.x_after) c.pass.ensures.below,
      ap (λ (x : Shown). x.room) c.swap.ensures.x_after ∙ c.pass.ensures.room.1 ∙ c.loop-i.invariant.3,
      ap (λ (x : Shown). x.room) c.swap.ensures.y_after ∙ c.pass.ensures.room.0 ∙ c.add.ensures.0 ∙ c.loop-i.invariant.2,
      spent_more n 0 c.loop-i.i c.args.steps.now c.loop-i.steps c.pass.new.steps (length c.add.new.self.items) c.loop-i.invariant.4 first.1 c.pass.ensures.least_cost c.pass.ensures.most_cost,
    )

pub returns-clause-occurs : goal.returns-clause-occurs
returns-clause-occurs g c =
    let rows = c.args.rows.now in (
      λ e. absurd (true≢false (sym e)),
      λ o. absurd (looking_done (moves_of rows) (sets_of rows) c.args.text.now c.loop-i.i c.loop-i.now.items c.loop-i.invariant.0 (omega (arith, c.loop-i-test.false)) o),
    )
