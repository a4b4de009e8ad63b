use Rattle.std.proofs.Common.{◌≡◌, ◌≤◌, ◌+◌, ◌*◌, [], length, refl, sym, ap, ◌∙◌, subst, arith}
use Rattle.std.proofs.lemmas.List.{nil_from_length}
use Rattle.yr_image.specs.Views.{shown_bytes, image_of}
use Rattle.yr_machine.specs.Budget.{output_cost}
use Rattle.yr_search.specs.State.{state_of}
use Rattle.yr_search.specs.Taking.{TakesFronts}
use Rattle.yr_search.specs.Uppers.{own, costs}
use Rattle.yr_search.proofs.NodeLemmas.{own_length}
use Rattle.yr_search.proofs.WalkLemmas.{root_depth}
use Rattle.yr_search.proofs.SceneLemmas.{some_nodes, few_own, scene_inside, scene_node, nothing_taken, repeated_next, repeated_done, times_more, times_bound}
use Rattle.yr_search.proofs.walking.take_root.Goals as goal

pub node_at-requires : goal.node_at-requires
node_at-requires g c = scene_inside c.args.scene.now c.requires.scene 0 (some_nodes (shown_bytes c.args.scene.now.view.now) c.requires.scene.wellformed)

pub returns-then-node_at-eq0-clause-takes : goal.returns-then-node_at-eq0-clause-takes
returns-then-node_at-eq0-clause-takes g c =
    let image = image_of c.args.scene.now.view.now in
    let row = scene_node c.args.scene.now c.requires.scene 0 c.node_at.result c.node_at.ensures in
    let size = own_length (shown_bytes c.args.scene.now.view.now) c.requires.scene.wellformed 0 c.node_at.result row in
    let none : own image 0 ≡ [] = nil_from_length (own image 0) (omega (arith, size, c.if-node_at-eq0.true)) in
    nothing_taken image c.args.scene.now.file.now 0 (length c.args.scene.now.file.now + 1) (own image 0) (state_of c.args.gathered.now) none

pub returns-then-node_at-eq0-clause-count : goal.returns-then-node_at-eq0-clause-count
returns-then-node_at-eq0-clause-count g c =
    let row = scene_node c.args.scene.now c.requires.scene 0 c.node_at.result c.node_at.ensures in
    let size = own_length (shown_bytes c.args.scene.now.view.now) c.requires.scene.wellformed 0 c.node_at.result row in
    let none : length (own (image_of c.args.scene.now.view.now) 0) ≡ 0 = omega (arith, size, c.if-node_at-eq0.true) in
    let product = ap (λ x. (length c.args.scene.now.file.now + 1) * x) none in
    omega (arith, product)

pub take_own-requires-clause-depth : goal.take_own-requires-clause-depth
take_own-requires-clause-depth g c =
    let bytes = shown_bytes c.args.scene.now.view.now in
    omega (arith, root_depth bytes c.requires.scene.wellformed (some_nodes bytes c.requires.scene.wellformed))

pub returns-in_err-count-clause-most_cost : goal.returns-in_err-count-clause-most_cost
returns-in_err-count-clause-most_cost g c =
    let image = image_of c.args.scene.now.view.now in
    let n = length c.args.scene.now.file.now in
    let cost = costs (output_cost image n) (own image 0) in
    let more = times_more c.loop-at.at cost in
    let bound = times_bound (c.loop-at.at + 1) (n + 1) cost (omega (arith, c.loop-at-test.true)) in
    omega (arith, c.loop-at.invariant.most, c.in_err-count.ensures.most_cost, more, bound)

pub overflow_add-count : goal.overflow_add-count
overflow_add-count g c =
    let image = image_of c.args.scene.now.view.now in
    let size = length (own image 0) in
    let few = few_own (shown_bytes c.args.scene.now.view.now) c.requires.scene.wellformed in
    let bound : c.loop-at.at * size ≤ 268435457 * size = times_bound c.loop-at.at 268435457 size (omega (arith, c.loop-at-test.true, c.requires.scene.small)) in
    omega (arith, c.loop-at.invariant.count, c.in_ok-count.ensures.count, few, bound)

pub loop-at-preserved : goal.loop-at-preserved
loop-at-preserved g c =
    let image = image_of c.args.scene.now.view.now in
    let file = c.args.scene.now.file.now in
    let n = length file in
    let at = c.loop-at.at in
    let inv = c.loop-at.invariant in
    let one = c.in_ok-count.ensures in
    let next = repeated_next (n + 1) at (own image 0) c.loop-at-test.true in
    record {
      takes = λ new h. inv.takes new (subst (λ l. TakesFronts image file at l (state_of c.loop-at.gathered) new) (sym next) (state_of c.take_own.new.gathered, one.takes, h));
      count = let more = times_more at (length (own image 0)) in omega (arith, inv.count, one.count, more);
      room = one.room ∙ inv.room;
      fits = one.gathered;
      least = omega (arith, inv.least, one.least_cost);
      most = let more = times_more at (costs (output_cost image n) (own image 0)) in omega (arith, inv.most, one.most_cost, more);
    }

pub returns-clause-takes : goal.returns-clause-takes
returns-clause-takes g c =
    let image = image_of c.args.scene.now.view.now in
    let file = c.args.scene.now.file.now in
    let done = repeated_done (length file + 1) c.loop-at.at (own image 0) c.loop-at-test.false in
    let state = state_of c.loop-at.gathered in
    c.loop-at.invariant.takes state (subst (λ l. TakesFronts image file c.loop-at.at l state state) (sym done) refl)

pub returns-clause-count : goal.returns-clause-count
returns-clause-count g c =
    let last : c.loop-at.at ≡ length c.args.scene.now.file.now + 1 = omega (arith, c.loop-at-test.false, c.loop-at.auto.at-end) in
    c.loop-at.invariant.count ∙ ap (λ k. k * length (own (image_of c.args.scene.now.view.now) 0)) last

pub returns-clause-most_cost : goal.returns-clause-most_cost
returns-clause-most_cost g c =
    let image = image_of c.args.scene.now.view.now in
    let n = length c.args.scene.now.file.now in
    let last : c.loop-at.at ≡ n + 1 = omega (arith, c.loop-at-test.false, c.loop-at.auto.at-end) in
    let product = ap (λ k. k * costs (output_cost image n) (own image 0)) last in
    omega (arith, c.loop-at.invariant.most, product)
