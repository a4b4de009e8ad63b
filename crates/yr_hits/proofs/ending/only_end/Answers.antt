use Rattle.std.proofs.lemmas.Bool.Decides.{Decides-eqb}
use Rattle.yr_image.specs.Views.{image_of}
use Rattle.yr_hits.proofs.HitLemmas.{fields, literal_there, end_literal}
use Rattle.yr_hits.proofs.ending.only_end.Goals as goal

pub pool-bytes-requires : goal.pool-bytes-requires
pool-bytes-requires g c =
    let hit = c.args.hit.now in
    (literal_there (image_of hit.view.now) hit.row.after_kind hit.row.after_place hit.row.after_length (fields hit c.requires.good).after c.if-row-eq0.false c.requires.kind).1

pub stands-requires-clause-plain : goal.stands-requires-clause-plain
stands-requires-clause-plain g c = λ e. (fields c.args.hit.now c.requires.good).plain ((Decides-eqb c.args.hit.now.row.fold 1).0 e)

pub returns-then-stands-clause-end : goal.returns-then-stands-clause-end
returns-then-stands-clause-end g c =
    let hit = c.args.hit.now in
    let side = literal_there (image_of hit.view.now) hit.row.after_kind hit.row.after_place hit.row.after_length (fields hit c.requires.good).after c.if-row-eq0.false c.requires.kind in
    end_literal hit c.requires.good side.0 c.pool-bytes.result.now c.pool-bytes.ensures (c.stands.ensures.0 c.if-stands.true)
