use Rattle.std.proofs.Common.{length, refl, sym, ap, subst, arith}
use Rattle.std.proofs.lemmas.Option.{slice_get_read}
use Rattle.yr_image.specs.Views.{shown_bytes, image_of}
use Rattle.yr_hits.specs.Programs.{HasRoom}
use Rattle.yr_hits.proofs.SideLemmas.{good_fields}
use Rattle.yr_hits.proofs.SplitLemmas.{split_is_good}
use Rattle.yr_search.proofs.TakeLemmas.{adds_of}
use Rattle.yr_search.proofs.taking.take_now.Goals as goal

pub add_matches-requires-clause-room : goal.add_matches-requires-clause-room
add_matches-requires-clause-room g c =
    subst (λ v. HasRoom (image_of v) c.args.marks.now.room) (sym c.hit_of-hit.ensures.view) c.requires.room

pub index_mut-list-requires : goal.index_mut-list-requires
index_mut-list-requires g c =
    let view = c.args.scene.now.view.now in
    let hit = c.hit_of-hit.result in
    let good = split_is_good (shown_bytes view) c.args.split hit.row c.requires.scene.wellformed c.hit_of-hit.ensures.row in
    let string = (good_fields (image_of view) good.0 hit.row good.1).string in
    omega (arith, string, c.requires.gathered.lists, c.args.gathered.now.lists.ok.0)

pub returns-clause-takes : goal.returns-clause-takes
returns-clause-takes g c =
    let view = c.args.scene.now.view.now in
    let hit = c.hit_of-hit.result in
    let e = c.hit_of-hit.ensures in
    let lists = c.args.gathered.now.lists.items in
    let list = c.index_mut-list.result.now in
    let good = split_is_good (shown_bytes view) c.args.split hit.row c.requires.scene.wellformed e.row in
    let string = (good_fields (image_of view) good.0 hit.row good.1).string in
    record {
      adds = adds_of (image_of view) c.args.scene.now.file.now c.args.at c.args.split hit e.good (ap image_of e.view) e.file e.at e.row e.greatest
          lists c.requires.gathered.lists string list c.add_matches.new.list
          (slice_get_read lists (length lists) hit.row.string list refl (omega (arith, string, c.requires.gathered.lists)) c.index_mut-list.ensures.value)
          c.in_ok-add_matches.ensures.grows;
      later = refl;
    }
