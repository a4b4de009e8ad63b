use Rattle.std.proofs.Common.{◌≡◌, ◌≤◌, ◌+◌, length, sym, ap, ◌∙◌, subst, arith}
use Rattle.yr_image.specs.Reading.{image_in}
use Rattle.yr_image.specs.Views.{shown_bytes, image_of}
use Rattle.yr_machine.specs.Budget.{search_budget}
use Rattle.yr_machine.specs.Verified.{bytes_of}
use Rattle.yr_hits.specs.Programs.{HasRoom}
use Rattle.yr_search.specs.FoundIn.{IsFoundIn}
use Rattle.yr_search.specs.State.{state_of}
use Rattle.yr_search.proofs.FinalLemmas.{all_short, all_readable, found_in, within_budget}
use Rattle.yr_search.proofs.searching.search.Goals as goal

pub take_all-requires-clause-room : goal.take_all-requires-clause-room
take_all-requires-clause-room g c =
    let same : shown_bytes c.scene_of-scene.result.view.now ≡ bytes_of c.args.image.now = ap shown_bytes c.scene_of-scene.ensures.view ∙ c.view-view.ensures.bytes in
    subst (λ b. HasRoom (image_in b) c.args.scratch.now.marks.room) (sym same) c.requires.scratch.room

pub take_later-requires-clause-room : goal.take_later-requires-clause-room
take_later-requires-clause-room g c =
    let same : shown_bytes c.scene_of-scene.result.view.now ≡ bytes_of c.args.image.now = ap shown_bytes c.scene_of-scene.ensures.view ∙ c.view-view.ensures.bytes in
    subst (HasRoom (image_of c.scene_of-scene.result.view.now)) (sym c.in_ok-hits.ensures.room)
    (subst (λ b. HasRoom (image_in b) c.args.scratch.now.marks.room) (sym same) c.requires.scratch.room)

pub returns-clause-scratch : goal.returns-clause-scratch
returns-clause-scratch g c = record {
  room = subst (HasRoom (image_in (bytes_of c.args.image.now))) (sym (c.in_ok-take_later.ensures.room ∙ c.in_ok-hits.ensures.room)) c.requires.scratch.room;
  skips = c.requires.scratch.skips;
}

pub settle_all-requires-clause-lists : goal.settle_all-requires-clause-lists
settle_all-requires-clause-lists g c = c.in_ok-take_later.ensures.lists ∙ c.in_ok-hits.ensures.gathered.lists

pub settle_all-requires-clause-short : goal.settle_all-requires-clause-short
settle_all-requires-clause-short g c =
    let scene = c.scene_of-scene.result in
    let good = c.scene_of-scene.ensures.good in
    all_short (shown_bytes scene.view.now) good.wellformed scene.file.now good.small (state_of c.in_ok-gathered.gathered) (state_of c.take_all.new.gathered) c.take_later.new.gathered.lists.items
    c.in_ok-hits.hits c.in_ok-gathered.ensures.empty c.in_ok-hits.ensures.taken c.in_ok-take_later.ensures.takes

pub new-requires : goal.new-requires
new-requires g c =
    let scene = c.scene_of-scene.result in
    let good = c.scene_of-scene.ensures.good in
    all_readable (shown_bytes scene.view.now) good.wellformed scene.file.now good.small (state_of c.in_ok-gathered.gathered) (state_of c.take_all.new.gathered) c.take_later.new.gathered.lists.items
    c.in_ok-hits.hits c.in_ok-gathered.ensures.empty c.in_ok-hits.ensures.taken c.in_ok-take_later.ensures.takes
    c.settle_all.new.lists.items c.settle_all.ensures.lists c.settle_all.ensures.settled

pub returns-clause-found : goal.returns-clause-found
returns-clause-found g c =
    let scene = c.scene_of-scene.result in
    let good = c.scene_of-scene.ensures.good in
    let same : shown_bytes scene.view.now ≡ bytes_of c.args.image.now = ap shown_bytes c.scene_of-scene.ensures.view ∙ c.view-view.ensures.bytes in
    let found = found_in (shown_bytes scene.view.now) good.wellformed scene.file.now good.small (state_of c.in_ok-gathered.gathered) (state_of c.take_all.new.gathered) c.take_later.new.gathered.lists.items
    c.in_ok-hits.hits c.in_ok-gathered.ensures.empty c.in_ok-hits.ensures.taken c.in_ok-take_later.ensures.takes
    c.settle_all.new.lists.items c.settle_all.ensures.lists c.settle_all.ensures.settled c.new.result c.new.ensures.lists c.new.ensures.hits in
    subst (λ b. IsFoundIn (image_in b) c.args.file.now c.new.result) same
    (subst (λ f. IsFoundIn (image_in (shown_bytes scene.view.now)) f c.new.result) c.scene_of-scene.ensures.file found)

pub returns-clause-most_cost : goal.returns-clause-most_cost
returns-clause-most_cost g c =
    let scene = c.scene_of-scene.result in
    let same : shown_bytes scene.view.now ≡ bytes_of c.args.image.now = ap shown_bytes c.scene_of-scene.ensures.view ∙ c.view-view.ensures.bytes in
    let cost = within_budget (image_of scene.view.now) (length scene.file.now) c.args.steps.now c.take_all.new.steps (state_of c.in_ok-gathered.gathered) (state_of c.take_all.new.gathered)
    c.in_ok-gathered.ensures.empty c.in_ok-hits.ensures.most_cost in
    let now = c.take_later.new.steps in
    let all : now ≤ c.args.steps.now + search_budget (image_of scene.view.now) (length scene.file.now) = omega (arith, cost, c.in_ok-take_later.ensures.most_cost) in
    subst (λ b. now ≤ c.args.steps.now + search_budget (image_in b) (length c.args.file.now)) same
    (subst (λ f. now ≤ c.args.steps.now + search_budget (image_of scene.view.now) (length f)) c.scene_of-scene.ensures.file all)

pub returns-in_err-take_later-clause-most_cost : goal.returns-in_err-take_later-clause-most_cost
returns-in_err-take_later-clause-most_cost g c =
    let scene = c.scene_of-scene.result in
    let same : shown_bytes scene.view.now ≡ bytes_of c.args.image.now = ap shown_bytes c.scene_of-scene.ensures.view ∙ c.view-view.ensures.bytes in
    let cost = within_budget (image_of scene.view.now) (length scene.file.now) c.args.steps.now c.take_all.new.steps (state_of c.in_ok-gathered.gathered) (state_of c.take_all.new.gathered)
    c.in_ok-gathered.ensures.empty c.in_ok-hits.ensures.most_cost in
    let now = c.take_later.new.steps in
    let all : now ≤ c.args.steps.now + search_budget (image_of scene.view.now) (length scene.file.now) = omega (arith, cost, c.in_err-take_later.ensures.most_cost) in
    subst (λ b. now ≤ c.args.steps.now + search_budget (image_in b) (length c.args.file.now)) same
    (subst (λ f. now ≤ c.args.steps.now + search_budget (image_of scene.view.now) (length f)) c.scene_of-scene.ensures.file all)

pub returns-in_err-hits-clause-most_cost : goal.returns-in_err-hits-clause-most_cost
returns-in_err-hits-clause-most_cost g c =
    let scene = c.scene_of-scene.result in
    let same : shown_bytes scene.view.now ≡ bytes_of c.args.image.now = ap shown_bytes c.scene_of-scene.ensures.view ∙ c.view-view.ensures.bytes in
    let cost = within_budget (image_of scene.view.now) (length scene.file.now) c.args.steps.now c.take_all.new.steps (state_of c.in_ok-gathered.gathered) (state_of c.take_all.new.gathered)
    c.in_ok-gathered.ensures.empty c.in_err-hits.ensures.most_cost in
    let now = c.take_all.new.steps in
    let all : now ≤ c.args.steps.now + search_budget (image_of scene.view.now) (length scene.file.now) = omega (arith, cost) in
    subst (λ b. now ≤ c.args.steps.now + search_budget (image_in b) (length c.args.file.now)) same
    (subst (λ f. now ≤ c.args.steps.now + search_budget (image_of scene.view.now) (length f)) c.scene_of-scene.ensures.file all)
