use Rattle.std.proofs.Common.{◌≡◌, ◌++◌, Some, length, sym, ap, ◌∙◌, subst, arith, length-append}
use Rattle.std.specs.Prelude.{slice_get}
use Rattle.yr_image.specs.Views.{shown_bytes, image_of}
use Rattle.yr_machine.specs.Budget.{output_cost}
use Rattle.yr_search.specs.State.{state_of}
use Rattle.yr_search.specs.Taking.{TakesAll}
use Rattle.yr_search.specs.Uppers.{own, upper, costs}
use Rattle.yr_search.proofs.NodeLemmas.{link_falls, next_upper, upper_at, costs_append}
use Rattle.yr_search.proofs.TakeLemmas.{takes_then}
use Rattle.yr_search.proofs.node.take_upper.Goals as goal

pub returns-in_err-count-clause-most_cost : goal.returns-in_err-count-clause-most_cost
returns-in_err-count-clause-most_cost g c =
    let image = image_of c.args.scene.now.view.now in
    let cost = output_cost image (length c.args.scene.now.file.now) in
    let up = c.rising.up in
    let next = next_upper (shown_bytes c.args.scene.now.view.now) c.requires.scene.wellformed up c.rising.invariant.inside c.rising-test.true in
    let sum = ap (costs cost) next.1.1 ∙ costs_append cost (own image up) (upper image next.0.failure) in
    omega (arith, c.rising.invariant.most, c.in_err-count.ensures.most_cost, sum)

pub overflow_add-count : goal.overflow_add-count
overflow_add-count g c =
    let image = image_of c.args.scene.now.view.now in
    let up = c.rising.up in
    let next = next_upper (shown_bytes c.args.scene.now.view.now) c.requires.scene.wellformed up c.rising.invariant.inside c.rising-test.true in
    let size = ap length next.1.1 ∙ length-append (own image up) (upper image next.0.failure) in
    omega (arith, c.rising.invariant.count, size, c.in_ok-count.ensures.count, c.requires.few)

pub rising-smaller : goal.rising-smaller
rising-smaller g c =
    let row = c.node_at-up.result in
    let at : slice_get (image_of c.args.scene.now.view.now).nodes c.rising.up ≡ Some row = subst (λ ns. slice_get ns c.rising.up ≡ Some row) c.requires.scene.nodes c.node_at-up.ensures in
    (link_falls (shown_bytes c.args.scene.now.view.now) c.requires.scene.wellformed c.rising.up row at c.rising-test.true).0

pub rising-preserved : goal.rising-preserved
rising-preserved g c =
    let bytes = shown_bytes c.args.scene.now.view.now in
    let image = image_of c.args.scene.now.view.now in
    let file = c.args.scene.now.file.now in
    let cost = output_cost image (length file) in
    let up = c.rising.up in
    let inv = c.rising.invariant in
    let one = c.in_ok-count.ensures in
    let row = c.node_at-up.result in
    let at : slice_get image.nodes up ≡ Some row = subst (λ ns. slice_get ns up ≡ Some row) c.requires.scene.nodes c.node_at-up.ensures in
    let falls = link_falls bytes c.requires.scene.wellformed up row at c.rising-test.true in
    let next : upper image up ≡ own image up ++ upper image row.failure = upper_at bytes c.requires.scene.wellformed up row at c.rising-test.true in
    let size = ap length next ∙ length-append (own image up) (upper image row.failure) in
    let sum = ap (costs cost) next ∙ costs_append cost (own image up) (upper image row.failure) in
    record {
      inside = falls.1;
      deep = omega (arith, falls.2, inv.deep);
      takes = λ new h. inv.takes new (subst (λ l. TakesAll image file c.args.at l (state_of c.rising.gathered) new) (sym next)
          (takes_then image file c.args.at (own image up) (upper image row.failure) (state_of c.rising.gathered) (state_of c.take_own.new.gathered) new one.takes h));
      count = omega (arith, inv.count, size, one.count);
      room = one.room ∙ inv.room;
      fits = one.gathered;
      least = omega (arith, inv.least, one.least_cost);
      most = omega (arith, inv.most, one.most_cost, sum);
    }
