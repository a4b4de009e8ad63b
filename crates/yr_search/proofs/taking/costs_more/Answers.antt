use Rattle.yr_image.specs.Views.{shown_bytes, image_of}
use Rattle.yr_hits.proofs.HitLemmas.{program_there}
use Rattle.yr_hits.proofs.SideLemmas.{good_fields}
use Rattle.yr_hits.proofs.SplitLemmas.{split_is_good}
use Rattle.yr_search.proofs.taking.costs_more.Goals as goal

pub moves_of-requires : goal.moves_of-requires
moves_of-requires c = λ kind.
    let view = c.args.scene.now.view.now in
    let row = c.split-row.result in
    let good = split_is_good (shown_bytes view) c.args.split row c.requires.scene.wellformed c.split-row.ensures in
    program_there (image_of view) row.before_kind row.before_place row.before_length (good_fields (image_of view) good.0 row good.1).before kind

pub moves_of-requires-2 : goal.moves_of-requires-2
moves_of-requires-2 c = λ kind.
    let view = c.args.scene.now.view.now in
    let row = c.split-row.result in
    let good = split_is_good (shown_bytes view) c.args.split row c.requires.scene.wellformed c.split-row.ensures in
    program_there (image_of view) row.after_kind row.after_place row.after_length (good_fields (image_of view) good.0 row good.1).after kind
