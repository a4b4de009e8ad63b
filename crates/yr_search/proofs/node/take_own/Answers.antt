use Rattle.std.proofs.Common.{◌≡◌, ◌+◌, Some, ◌∷◌, length, drop, refl, sym, ap, ◌∙◌, subst, arith}
use Rattle.std.specs.Prelude.{slice_get}
use Rattle.yr_image.specs.Views.{shown_bytes, image_of}
use Rattle.yr_machine.specs.Budget.{output_cost}
use Rattle.yr_search.specs.State.{state_of}
use Rattle.yr_search.specs.Taking.{TakesAll}
use Rattle.yr_search.specs.Uppers.{own, costs}
use Rattle.yr_search.proofs.NodeLemmas.{own_next, own_done, own_length, own_atom, outputs_inside}
use Rattle.yr_hits.proofs.SplitLemmas.{output_is_split}
use Rattle.yr_search.proofs.node.take_own.Goals as goal

pub node_at-row-requires : goal.node_at-row-requires
node_at-row-requires g c = omega (arith, ap length c.requires.scene.nodes, c.requires.node)

pub output_at-split-requires : goal.output_at-split-requires
output_at-split-requires g c =
    let row = c.node_at-row.result in
    let at : slice_get (image_of c.args.scene.now.view.now).nodes c.args.node ≡ Some row = subst (λ ns. slice_get ns c.args.node ≡ Some row) c.requires.scene.nodes c.node_at-row.ensures in
    let inside = outputs_inside (shown_bytes c.args.scene.now.view.now) c.requires.scene.wellformed c.args.node row at in
    omega (arith, ap length c.requires.scene.outputs, inside, c.loop-k-test.true)

pub take_hit-requires-clause-split : goal.take_hit-requires-clause-split
take_hit-requires-clause-split g c =
    let row = c.node_at-row.result in
    let split = c.output_at-split.result in
    let out : slice_get (image_of c.args.scene.now.view.now).outputs (row.first_output + c.loop-k.k) ≡ Some split =
    subst (λ os. slice_get os (row.first_output + c.loop-k.k) ≡ Some split) c.requires.scene.outputs c.output_at-split.ensures in
    output_is_split (shown_bytes c.args.scene.now.view.now) (row.first_output + c.loop-k.k) split c.requires.scene.wellformed out

pub take_hit-requires-clause-atom : goal.take_hit-requires-clause-atom
take_hit-requires-clause-atom g c =
    let row = c.node_at-row.result in
    let split = c.output_at-split.result in
    let at : slice_get (image_of c.args.scene.now.view.now).nodes c.args.node ≡ Some row = subst (λ ns. slice_get ns c.args.node ≡ Some row) c.requires.scene.nodes c.node_at-row.ensures in
    let out : slice_get (image_of c.args.scene.now.view.now).outputs (row.first_output + c.loop-k.k) ≡ Some split =
    subst (λ os. slice_get os (row.first_output + c.loop-k.k) ≡ Some split) c.requires.scene.outputs c.output_at-split.ensures in
    own_atom (shown_bytes c.args.scene.now.view.now) c.requires.scene.wellformed c.args.node row c.loop-k.k split c.args.at at c.loop-k-test.true out c.requires.depth

pub take_hit-requires-clause-room : goal.take_hit-requires-clause-room
take_hit-requires-clause-room g c = λ k. omega (arith, c.requires.room k, c.loop-k.invariant.room)

pub take_hit-requires-clause-gathered : goal.take_hit-requires-clause-gathered
take_hit-requires-clause-gathered g c = c.loop-k.invariant.fits

pub loop-k-preserved : goal.loop-k-preserved
loop-k-preserved g c =
    let image = image_of c.args.scene.now.view.now in
    let file = c.args.scene.now.file.now in
    let row = c.node_at-row.result in
    let split = c.output_at-split.result in
    let k = c.loop-k.k in
    let all = own image c.args.node in
    let at : slice_get image.nodes c.args.node ≡ Some row = subst (λ ns. slice_get ns c.args.node ≡ Some row) c.requires.scene.nodes c.node_at-row.ensures in
    let out : slice_get image.outputs (row.first_output + k) ≡ Some split = subst (λ os. slice_get os (row.first_output + k) ≡ Some split) c.requires.scene.outputs c.output_at-split.ensures in
    let next : drop k all ≡ split ∷ drop (k + 1) all = own_next (shown_bytes c.args.scene.now.view.now) c.requires.scene.wellformed c.args.node row k split at c.loop-k-test.true out in
    let cost = output_cost image (length file) in
    let sum : costs cost (drop k all) ≡ cost split + costs cost (drop (k + 1) all) = ap (costs cost) next in
    let one = c.in_ok-take_hit.ensures in
    let inv = c.loop-k.invariant in
    record {
      takes = λ new h. inv.takes new (subst (λ l. TakesAll image file c.args.at l (state_of c.loop-k.gathered) new) (sym next) (state_of c.take_hit.new.gathered, one.takes, h));
      room = one.room ∙ inv.room;
      fits = one.gathered;
      least = omega (arith, inv.least, one.least_cost);
      most = omega (arith, inv.most, one.most_cost, sum);
    }

pub loop-k-init : goal.loop-k-init
loop-k-init g c =
    let image = image_of c.args.scene.now.view.now in
    record { takes = λ new h. h; room = refl; fits = c.requires.gathered; least = omega arith; most = omega arith }

pub returns-in_err-take_hit-clause-most_cost : goal.returns-in_err-take_hit-clause-most_cost
returns-in_err-take_hit-clause-most_cost g c =
    let image = image_of c.args.scene.now.view.now in
    let file = c.args.scene.now.file.now in
    let row = c.node_at-row.result in
    let split = c.output_at-split.result in
    let k = c.loop-k.k in
    let all = own image c.args.node in
    let at : slice_get image.nodes c.args.node ≡ Some row = subst (λ ns. slice_get ns c.args.node ≡ Some row) c.requires.scene.nodes c.node_at-row.ensures in
    let out : slice_get image.outputs (row.first_output + k) ≡ Some split = subst (λ os. slice_get os (row.first_output + k) ≡ Some split) c.requires.scene.outputs c.output_at-split.ensures in
    let next : drop k all ≡ split ∷ drop (k + 1) all = own_next (shown_bytes c.args.scene.now.view.now) c.requires.scene.wellformed c.args.node row k split at c.loop-k-test.true out in
    let cost = output_cost image (length file) in
    let sum : costs cost (drop k all) ≡ cost split + costs cost (drop (k + 1) all) = ap (costs cost) next in
    omega (arith, c.loop-k.invariant.most, c.in_err-take_hit.ensures.most_cost, sum)

pub returns-clause-takes : goal.returns-clause-takes
returns-clause-takes g c =
    let image = image_of c.args.scene.now.view.now in
    let file = c.args.scene.now.file.now in
    let row = c.node_at-row.result in
    let at : slice_get image.nodes c.args.node ≡ Some row = subst (λ ns. slice_get ns c.args.node ≡ Some row) c.requires.scene.nodes c.node_at-row.ensures in
    let done = own_done (shown_bytes c.args.scene.now.view.now) c.requires.scene.wellformed c.args.node row c.loop-k.k at c.loop-k-test.false in
    let state = state_of c.loop-k.gathered in
    c.loop-k.invariant.takes state (subst (λ l. TakesAll image file c.args.at l state state) (sym done) refl)

pub returns-clause-count : goal.returns-clause-count
returns-clause-count g c =
    let row = c.node_at-row.result in
    let at : slice_get (image_of c.args.scene.now.view.now).nodes c.args.node ≡ Some row = subst (λ ns. slice_get ns c.args.node ≡ Some row) c.requires.scene.nodes c.node_at-row.ensures in
    let long = own_length (shown_bytes c.args.scene.now.view.now) c.requires.scene.wellformed c.args.node row at in
    omega (arith, long, c.from.ensures)
