use Rattle.std.proofs.Common.{◌≡◌, [], length, refl, ◌∙◌, arith, rules}
use Rattle.std.proofs.lemmas.List.{nil_from_length}
use Rattle.std.proofs.lemmas.Option.{slice_get_read}
use Rattle.yr_image.specs.Views.{shown_bytes, image_of}
use Rattle.yr_answer.specs.Found.{items_of}
use Rattle.yr_hits.proofs.HitLemmas.{there}
use Rattle.yr_hits.proofs.GrowLemmas.{on_ok}
use Rattle.yr_hits.proofs.SideLemmas.{good_fields}
use Rattle.yr_hits.proofs.SplitLemmas.{split_is_good}
use Rattle.yr_search.proofs.StateLemmas.{cost_left}
use Rattle.yr_search.proofs.TakeLemmas.{items_length, adds_swept, adds_none}
use Rattle.yr_search.proofs.leaving.take_left.Goals as goal

pub index_mut-list-requires : goal.index_mut-list-requires
index_mut-list-requires g c =
    let view = c.args.scene.now.view.now in
    let row = c.split-row.result in
    let good = split_is_good (shown_bytes view) c.args.split row c.requires.scene.wellformed c.split-row.ensures in
    let string = (good_fields (image_of view) good.0 row good.1).string in
    omega (arith, string, c.requires.lists, c.args.lists.now.ok.0)

pub returns-clause-adds : goal.returns-clause-adds
returns-clause-adds g c =
    let view = c.args.scene.now.view.now in
    let lists = c.args.lists.now.items in
    let row = c.split-row.result in
    let list = c.index_mut-list.result.now in
    let good = split_is_good (shown_bytes view) c.args.split row c.requires.scene.wellformed c.split-row.ensures in
    let string = (good_fields (image_of view) good.0 row good.1).string in
    let at = slice_get_read lists (length lists) row.string list refl (omega (arith, string, c.requires.lists)) c.index_mut-list.ensures.value in
    on_ok c.sweep.result
    (adds_swept (image_of view) c.args.scene.now.file.now c.args.split c.args.hits.items row c.split-row.ensures lists list c.sweep.new.list at)
    c.sweep.ensures.sweeps

pub returns-then-is_empty-clause-adds : goal.returns-then-is_empty-clause-adds
returns-then-is_empty-clause-adds g c =
    let image = image_of c.args.scene.now.view.now in
    let hits = c.args.hits.items in
    let row = there image.splits c.args.split c.requires.split in
    let good = split_is_good (shown_bytes c.args.scene.now.view.now) c.args.split row.0 c.requires.scene.wellformed row.1 in
    let string = (good_fields image good.0 row.0 good.1).string in
    let none : hits ≡ [] = nil_from_length hits (search rules) in
    adds_none image c.args.scene.now.file.now c.args.split hits row.0 none row.1 (items_of c.args.lists.now.items) (items_length c.args.lists.now.items ∙ c.requires.lists) string

pub returns-clause-most_cost : goal.returns-clause-most_cost
returns-clause-most_cost g c =
    cost_left (length c.args.hits.items) _ c.args.steps.now c.sweep.new.steps c.sweep.ensures.least_cost c.sweep.ensures.most_cost
