use Rattle.std.proofs.Common.{◌+◌, length, refl, ◌∙◌, arith}
use Rattle.yr_moves.specs.Programs.{moves_of, sets_of}
use Rattle.yr_walks.proofs.SpreadLemmas.{closing_start, closing_step, closing_end, bound_inside, below_all}
use Rattle.yr_walks.proofs.spread.close.Goals as goal

pub loop-k-init : goal.loop-k-init
loop-k-init g c =
    let rows = c.args.rows.now in
    (closing_start c.args.edges.now.back (moves_of rows) (sets_of rows) c.args.file.now c.args.i c.args.end c.args.from c.args.list.now.items c.requires.from c.requires.end c.requires.below, refl, refl)

pub join-requires-clause-inside : goal.join-requires-clause-inside
join-requires-clause-inside g c =
    let rows = c.args.rows.now in
    bound_inside c.args.edges.now.back (length (moves_of rows)) c.get.result.by (c.loop-k.invariant.0.below c.get.result.by c.get.result.end (c.loop-k.k, c.get.ensures))

pub loop-k-smaller : goal.loop-k-smaller
loop-k-smaller g c =
    let n = length (moves_of c.args.rows.now) in
    let few = c.len.ensures.few (n + 1) (below_all c.args.edges.now.back n c.loop-k.list.items c.loop-k.invariant.0.below) in
    omega (arith, few, c.loop-k-test.true)

pub loop-k-preserved : goal.loop-k-preserved
loop-k-preserved g c =
    let rows = c.args.rows.now in (
      closing_step c.args.edges.now.back (moves_of rows) (sets_of rows) c.args.file.now c.args.i c.args.end c.args.from c.loop-k.k c.get.result c.args.list.now.items c.loop-k.list.items c.join.new.list.items
          c.requires.wellformed c.loop-k.invariant.0 c.get.ensures c.join.ensures.spreads,
      c.join.ensures.room ∙ c.loop-k.invariant.1,
      omega (arith, c.loop-k.invariant.2, c.tick.ensures),
    )

pub returns-clause-closed : goal.returns-clause-closed
returns-clause-closed g c = λ greatest floor closed.
    let rows = c.args.rows.now in
    closing_end c.args.edges.now.back (moves_of rows) (sets_of rows) c.args.file.now c.args.i c.args.end c.args.from c.loop-k.k c.args.list.now.items c.loop-k.list.items c.loop-k.invariant.0
    (omega (arith, c.loop-k-test.false, c.len.ensures.len)) greatest floor closed

pub returns-clause-cost : goal.returns-clause-cost
returns-clause-cost g c = omega (arith, c.loop-k.invariant.2, c.loop-k.invariant.0.done, c.loop-k-test.false, c.len.ensures.len)
