use Rattle.std.proofs.Common.{◌≤◌, ◌+◌, ◌*◌, length, arith}
use Rattle.yr_image.specs.Views.{shown_bytes, image_of}
use Rattle.yr_machine.specs.Budget.{output_cost}
use Rattle.yr_search.specs.State.{state_of, owed}
use Rattle.yr_search.specs.Uppers.{own, costs}
use Rattle.yr_search.specs.Walked.{front_cost}
use Rattle.yr_search.proofs.NodeLemmas.{outputs_cost}
use Rattle.yr_search.proofs.SceneLemmas.{some_nodes, few_own, times_bound}
use Rattle.yr_search.proofs.FinalLemmas.{all_cost, root_cost}
use Rattle.yr_search.proofs.gathering.take_all.Goals as goal

pub returns-in_err-root-clause-most_cost : goal.returns-in_err-root-clause-most_cost
returns-in_err-root-clause-most_cost g c =
    let bytes = shown_bytes c.args.scene.now.view.now in
    let image = image_of c.args.scene.now.view.now in
    let n = length c.args.scene.now.file.now in
    let share = outputs_cost bytes c.requires.scene.wellformed (output_cost image n) 0 (some_nodes bytes c.requires.scene.wellformed) in
    root_cost n (costs (output_cost image n) (own image 0)) (front_cost image n) (c.args.steps.now + owed image n (state_of c.args.gathered.now)) (c.take_root.new.steps + owed image n (state_of c.take_root.new.gathered)) c.in_err-root.ensures.most_cost (omega (arith, share))

pub returns-in_err-others-clause-most_cost : goal.returns-in_err-others-clause-most_cost
returns-in_err-others-clause-most_cost g c =
    let bytes = shown_bytes c.args.scene.now.view.now in
    let image = image_of c.args.scene.now.view.now in
    let n = length c.args.scene.now.file.now in
    let share = outputs_cost bytes c.requires.scene.wellformed (output_cost image n) 0 (some_nodes bytes c.requires.scene.wellformed) in
    all_cost n (costs (output_cost image n) (own image 0)) (front_cost image n) (c.args.steps.now + owed image n (state_of c.args.gathered.now)) (c.take_root.new.steps + owed image n (state_of c.take_root.new.gathered)) (c.walk.new.steps + owed image n (state_of c.walk.new.gathered))
    c.in_ok-root.ensures.most_cost c.in_err-others.ensures.most_cost (omega (arith, share))

pub returns-clause-most_cost : goal.returns-clause-most_cost
returns-clause-most_cost g c =
    let bytes = shown_bytes c.args.scene.now.view.now in
    let image = image_of c.args.scene.now.view.now in
    let n = length c.args.scene.now.file.now in
    let share = outputs_cost bytes c.requires.scene.wellformed (output_cost image n) 0 (some_nodes bytes c.requires.scene.wellformed) in
    all_cost n (costs (output_cost image n) (own image 0)) (front_cost image n) (c.args.steps.now + owed image n (state_of c.args.gathered.now)) (c.take_root.new.steps + owed image n (state_of c.take_root.new.gathered)) (c.walk.new.steps + owed image n (state_of c.walk.new.gathered))
    c.in_ok-root.ensures.most_cost c.in_ok-others.ensures.most_cost (omega (arith, share))

pub overflow_add-result : goal.overflow_add-result
overflow_add-result g c =
    let image = image_of c.args.scene.now.view.now in
    let n = length c.args.scene.now.file.now in
    let few = few_own (shown_bytes c.args.scene.now.view.now) c.requires.scene.wellformed in
    let bound : (n + 1) * length (own image 0) ≤ 268435457 * length (own image 0) = times_bound (n + 1) 268435457 (length (own image 0)) (omega (arith, c.requires.scene.small)) in
    omega (arith, c.in_ok-root.ensures.count, c.in_ok-others.ensures.small, few, bound, c.requires.scene.small)

pub returns-clause-taken : goal.returns-clause-taken
returns-clause-taken g c = record {
  mid = state_of c.take_root.new.gathered;
  root = c.in_ok-root.ensures.takes;
  others = c.in_ok-others.others;
  walked = c.in_ok-others.ensures.walked;
  counted = omega (arith, c.in_ok-root.ensures.count);
}
