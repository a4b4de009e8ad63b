use Rattle.yr_image.specs.Views.{shown_bytes, image_of}
use Rattle.yr_hits.proofs.SideLemmas.{good_fields}
use Rattle.yr_hits.proofs.SplitLemmas.{split_is_good}
use Rattle.yr_hits.proofs.hit.hit_of.Goals as goal

pub string-flags-requires : goal.string-flags-requires
string-flags-requires c =
    let view = c.args.view.now in
    let good = split_is_good (shown_bytes view) c.args.split c.split-row.result c.requires.wellformed c.split-row.ensures in
    (good_fields (image_of view) good.0 c.split-row.result good.1).string

pub border_by-requires : goal.border_by-requires
border_by-requires c =
    let view = c.args.view.now in
    let good = split_is_good (shown_bytes view) c.args.split c.split-row.result c.requires.wellformed c.split-row.ensures in
    (good_fields (image_of view) good.0 c.split-row.result good.1).border

pub returns-clause-good : goal.returns-clause-good
returns-clause-good c =
    let view = c.args.view.now in
    let good = split_is_good (shown_bytes view) c.args.split c.split-row.result c.requires.wellformed c.split-row.ensures in
    record {
      wellformed = c.requires.wellformed;
      small = c.requires.small;
      inside = c.requires.at;
      begins = c.requires.atom c.split-row.result c.split-row.ensures;
      unused = good.0;
      good = good.1;
      border_is = c.border_by.ensures;
    }
