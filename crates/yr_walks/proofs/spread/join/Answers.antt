use Rattle.std.proofs.Common.{◌-◌, refl, ◌∙◌, arith}
use Rattle.yr_moves.specs.Programs.{moves_of, sets_of}
use Rattle.yr_walks.proofs.FollowLemmas.{following_start, following_arc, following_falls, following_step, following_end}
use Rattle.yr_walks.proofs.spread.join.Goals as goal

pub loop-link-init : goal.loop-link-init
loop-link-init c =
    let rows = c.args.rows.now in
    let edges = c.args.edges.now in (
      following_start edges.back (moves_of rows) (sets_of rows) c.args.file.now c.args.i c.args.byte c.args.x c.args.end edges.after.items edges.first.items c.first-link.result c.args.list.now.items
          c.requires.edges.1 c.requires.inside c.first-link.ensures,
      refl,
    )

pub move_at-v-requires-clause-inside : goal.move_at-v-requires-clause-inside
move_at-v-requires-clause-inside c =
    let rows = c.args.rows.now in
    let edges = c.args.edges.now in
    let l = c.loop-link.link in
    let lt = following_arc edges.back (moves_of rows) (sets_of rows) c.args.file.now c.args.i c.args.byte c.args.x c.args.end edges.after.items l (l - 1) c.args.list.now.items c.loop-link.list.items
    c.loop-link.invariant.0 (omega (arith, c.loop-link-test.true)) in
    omega (arith, lt)

pub follow-requires-clause-arc : goal.follow-requires-clause-arc
follow-requires-clause-arc c =
    let rows = c.args.rows.now in
    let edges = c.args.edges.now in
    let l = c.loop-link.link in
    following_arc edges.back (moves_of rows) (sets_of rows) c.args.file.now c.args.i c.args.byte c.args.x c.args.end edges.after.items l (l - 1) c.args.list.now.items c.loop-link.list.items
    c.loop-link.invariant.0 (omega (arith, c.loop-link-test.true))

pub after-link-requires : goal.after-link-requires
after-link-requires c =
    let rows = c.args.rows.now in
    let edges = c.args.edges.now in
    let l = c.loop-link.link in
    let lt = following_arc edges.back (moves_of rows) (sets_of rows) c.args.file.now c.args.i c.args.byte c.args.x c.args.end edges.after.items l (l - 1) c.args.list.now.items c.loop-link.list.items
    c.loop-link.invariant.0 (omega (arith, c.loop-link-test.true)) in
    omega (arith, lt, c.requires.edges.1.afters)

pub loop-link-smaller : goal.loop-link-smaller
loop-link-smaller c =
    let rows = c.args.rows.now in
    let edges = c.args.edges.now in
    let l = c.loop-link.link in
    let le = following_falls edges.back (moves_of rows) (sets_of rows) c.args.file.now c.args.i c.args.byte c.args.x c.args.end edges.after.items l (l - 1) c.after-link.result c.args.list.now.items
    c.loop-link.list.items c.loop-link.invariant.0 (omega (arith, c.loop-link-test.true)) c.after-link.ensures in
    omega (arith, le, c.loop-link-test.true)

pub loop-link-preserved : goal.loop-link-preserved
loop-link-preserved c =
    let rows = c.args.rows.now in
    let edges = c.args.edges.now in
    let l = c.loop-link.link in (
      following_step edges.back (moves_of rows) (sets_of rows) c.args.file.now c.args.i c.args.byte c.args.x c.args.end edges.after.items l (l - 1) c.after-link.result c.move_at-v.result c.args.list.now.items
          c.loop-link.list.items c.follow.new.list.items c.loop-link.invariant.0 (omega (arith, c.loop-link-test.true)) c.after-link.ensures c.move_at-v.ensures.is c.follow.ensures.follows,
      c.follow.ensures.room ∙ c.loop-link.invariant.1,
    )

pub returns-clause-spreads : goal.returns-clause-spreads
returns-clause-spreads c =
    let rows = c.args.rows.now in
    let edges = c.args.edges.now in
    following_end edges.back (moves_of rows) (sets_of rows) c.args.file.now c.args.i c.args.byte c.args.x c.args.end edges.after.items c.loop-link.link c.args.list.now.items c.loop-link.list.items
    c.loop-link.invariant.0 (omega (arith, c.loop-link-test.false))
