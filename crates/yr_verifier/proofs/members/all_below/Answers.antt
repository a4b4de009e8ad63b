use Rattle.std.proofs.Common.{sym, arith}
use Rattle.yr_image.specs.Views.{image_of}
use Rattle.yr_verifier.proofs.BlockLemmas.{below_all, below_not}
use Rattle.yr_verifier.proofs.members.all_below.Goals as goal

pub returns-then-list-bound : goal.returns-then-list-bound
returns-then-list-bound c =
    sym (below_not (image_of c.args.view.now).lists c.args.bound c.args.first c.args.rows c.requires.inside c.loop-k.k c.list.result c.loop-k.invariant.low
    (omega (arith, c.loop-k-test.true, c.from.ensures, c.from-2.ensures)) c.list.ensures c.if-list-bound.true)

pub returns : goal.returns
returns c =
    sym (below_all (image_of c.args.view.now).lists c.args.bound c.args.first c.args.rows c.requires.inside
    (λ j m low high. c.loop-k.invariant.below j m low (omega (arith, high, c.loop-k-test.false, c.from.ensures, c.from-2.ensures))))
