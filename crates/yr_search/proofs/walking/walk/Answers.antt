use Rattle.std.proofs.Common.{◌≡◌, ◌+◌, ◌*◌, ℕ, length, get_or, refl, sym, ap, ◌∙◌, subst, arith}
use Rattle.yr_image.specs.Views.{shown_bytes, image_of}
use Rattle.std.proofs.lemmas.Option.{slice_get-get_or}
use Rattle.yr_machine.specs.Budget.{output_cost}
use Rattle.yr_search.specs.State.{State, state_of, owed}
use Rattle.yr_search.specs.Uppers.{own, upper, costs}
use Rattle.yr_search.specs.Walked.{Walked, front_cost}
use Rattle.yr_search.proofs.NodeLemmas.{outputs_cost}
use Rattle.yr_search.proofs.WalkLemmas.{stands_first, stands_step, stands_at, asks_depth, root_depth, walked_first, walked_next}
use Rattle.yr_search.proofs.SkipLemmas.{pass_to, paid_pass}
use Rattle.yr_search.proofs.SceneLemmas.{some_nodes, few_upper, paid_front, paid_to_end}
use Rattle.yr_search.proofs.walking.walk.Goals as goal

pub along-init : goal.along-init
along-init g c =
    let bytes = shown_bytes c.args.scene.now.view.now in
    let some = some_nodes bytes c.requires.scene.wellformed in
    let image = image_of c.args.scene.now.view.now in
    record {
      stands = stands_first bytes c.requires.scene.wellformed c.args.scene.now.file.now some;
      far = omega arith;
      inside = some;
      deep = omega (arith, root_depth bytes c.requires.scene.wellformed some);
      walked = walked_first image c.args.scene.now.file.now (state_of c.args.gathered.now) some;
      room = refl;
      fits = c.requires.gathered;
      small = omega arith;
      least = omega arith;
      most = omega arith;
    }

pub take_flagged-requires-clause-depth : goal.take_flagged-requires-clause-depth
take_flagged-requires-clause-depth g c =
    let scene = c.args.scene.now in
    let bytes = shown_bytes scene.view.now in
    let inside = c.step-node.ensures.leads.2 in
    let asks = c.step-node.ensures.leads.1 in
    let deep = asks_depth bytes c.requires.scene.wellformed _ c.along.node _ c.step-node.result c.along.invariant.inside inside asks in
    omega (arith, deep, c.along.invariant.deep, c.place_from-place.ensures.low)

pub take_flagged-requires-clause-few : goal.take_flagged-requires-clause-few
take_flagged-requires-clause-few g c =
    let scene = c.args.scene.now in
    let inside = c.step-node.ensures.leads.2 in
    omega (arith, few_upper (shown_bytes scene.view.now) c.requires.scene.wellformed c.step-node.result inside)

pub overflow_add-count : goal.overflow_add-count
overflow_add-count g c =
    let scene = c.args.scene.now in
    let inside = c.step-node.ensures.leads.2 in
    let few = few_upper (shown_bytes scene.view.now) c.requires.scene.wellformed c.step-node.result inside in
    omega (arith, few, c.along.invariant.small, c.in_ok-count.ensures.count, c.along-test.true, c.requires.scene.small)

pub returns-in_err-count-clause-most_cost : goal.returns-in_err-count-clause-most_cost
returns-in_err-count-clause-most_cost g c =
    let scene = c.args.scene.now in
    let image = image_of scene.view.now in
    let bytes = shown_bytes scene.view.now in
    let n = length scene.file.now in
    let q = c.place_from-place.result in
    let inside = c.step-node.ensures.leads.2 in
    let share = outputs_cost bytes c.requires.scene.wellformed (output_cost image n) c.step-node.result inside in
    let root = costs (output_cost image n) (own image 0) in
    let old = owed image n (state_of c.args.gathered.now) in
    let now = owed image n (state_of c.along.gathered) in
    let new = owed image n (state_of c.take_flagged.new.gathered) in
    let passed = paid_pass c.along.at q root (front_cost image n) (c.args.steps.now + old) (c.along.steps + now) c.place_from-place.ensures.low (omega (arith, share)) c.along.invariant.most in
    paid_to_end q n root (front_cost image n) (costs (output_cost image n) (upper image c.step-node.result))
    (c.args.steps.now + old) (c.along.steps + now) (c.step-node.new.steps + now) (c.take_flagged.new.steps + new) passed (omega (arith, c.step-node.ensures.cost)) c.in_err-count.ensures.most_cost share c.place_from-place.ensures.high

pub along-preserved : goal.along-preserved
along-preserved g c =
    let scene = c.args.scene.now in
    let image = image_of scene.view.now in
    let bytes = shown_bytes scene.view.now in
    let file = scene.file.now in
    let n = length file in
    let q = c.place_from-place.result in
    let place = c.place_from-place.ensures in
    let x = c.step-node.result in
    let inv = c.along.invariant in
    let one = c.in_ok-count.ensures in
    let old = state_of c.args.gathered.now in
    let now = state_of c.along.gathered in
    let owes = λ (s : State). owed image n s in
    let come = pass_to bytes c.requires.scene.wellformed file c.args.skips.now.live.items c.requires.skips.pairs place.bytes c.along.at q c.along.node old now c.along.count
    place.low place.high place.passed inv.stands inv.walked in
    let inside = c.step-node.ensures.leads.2 in
    let asks = c.step-node.ensures.leads.1 in
    let deep = asks_depth bytes c.requires.scene.wellformed _ c.along.node _ x inv.inside inside asks in
    let here = slice_get-get_or file q 0 place.high in
    let leads = stands_step bytes c.requires.scene.wellformed file q c.along.node (get_or file q 0) x _ come.0 here inside asks in
    let few = few_upper bytes c.requires.scene.wellformed x inside in
    let share = outputs_cost bytes c.requires.scene.wellformed (output_cost image n) x inside in
    let root = costs (output_cost image n) (own image 0) in
    let passed = paid_pass c.along.at q root (front_cost image n) (c.args.steps.now + owes old) (c.along.steps + owes now) place.low (omega (arith, share)) inv.most in
    let W : ℕ → Type 0 = λ k. Walked image file (q + 1) old (state_of c.take_flagged.new.gathered) (c.along.count + k) in
    record {
      stands = stands_at bytes c.requires.scene.wellformed file (q + 1) x leads inside;
      far = omega (arith, place.high);
      inside = inside;
      deep = omega (arith, deep, inv.deep, place.low);
      walked = subst W (sym one.count) (walked_next image file q x old now (state_of c.take_flagged.new.gathered) c.along.count come.1 leads inside one.takes);
      room = one.room ∙ inv.room;
      fits = one.gathered;
      small = omega (arith, inv.small, few, one.count, place.low);
      least = omega (arith, inv.least, c.step-node.ensures.cost, one.least_cost);
      most = paid_front q root (front_cost image n) (costs (output_cost image n) (upper image x))
          (c.args.steps.now + owes old) (c.along.steps + owes now) (c.step-node.new.steps + owes now) (c.take_flagged.new.steps + owes (state_of c.take_flagged.new.gathered)) passed (omega (arith, c.step-node.ensures.cost)) one.most_cost share;
    }

pub returns-clause-walked : goal.returns-clause-walked
returns-clause-walked g c =
    let scene = c.args.scene.now in
    let last : c.along.at ≡ length scene.file.now = omega (arith, c.along-test.false, c.along.invariant.far) in
    subst (λ k. Walked (image_of scene.view.now) scene.file.now k (state_of c.args.gathered.now) (state_of c.along.gathered) c.along.count) last c.along.invariant.walked

pub returns-clause-most_cost : goal.returns-clause-most_cost
returns-clause-most_cost g c =
    let scene = c.args.scene.now in
    let image = image_of scene.view.now in
    let n = length scene.file.now in
    let last : c.along.at ≡ n = omega (arith, c.along-test.false, c.along.invariant.far) in
    let a = ap (λ k. k * costs (output_cost image n) (own image 0)) last in
    let b = ap (λ k. k * front_cost image n) last in
    omega (arith, c.along.invariant.most, a, b, last)

pub returns-clause-small : goal.returns-clause-small
returns-clause-small g c = omega (arith, c.along.invariant.small, c.along-test.false, c.along.invariant.far)
