use Rattle.std.proofs.Common.{◌≡◌, ◌+◌, ◌*◌, ◌<◌, ap, ◌∙◌, subst, length, arith, length-set}
use Rattle.yr_image.specs.Views.{image_of}
use Rattle.yr_verifier.specs.Blocks.{AreAtMost}
use Rattle.yr_verifier.proofs.BlockLemmas.{blocks_more}
use Rattle.yr_verifier.proofs.lists.Lists.of.Goals as goal

pub loop-b-preserved : goal.loop-b-preserved
loop-b-preserved c =
    let members = (image_of c.args.view.now).lists in
    let size = c.size_for-size.result in
    let most = c.loop-b.most in
    let b = c.loop-b.b in
    let new = c.greatest.result in
    let place : c.from.result * c.from-in-loop-b.result ≡ b * size = ap (λ x. x * c.from-in-loop-b.result) c.from.ensures ∙ ap (λ y. b * y) c.from-in-loop-b.ensures in
    let here : AreAtMost members new (b * size) (b * size + size) = subst (λ f. AreAtMost members new f (f + size)) place c.greatest.ensures in
    let inside : b < length most = omega (arith, c.loop-b.invariant.room, c.loop-b-test.true, c.fewer-blocks.ensures) in
    record {
      room = omega (arith, length-set most b new, c.loop-b.invariant.room);
      each = blocks_more members most size b new inside c.loop-b.invariant.each here;
    }
