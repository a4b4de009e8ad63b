use Rattle.std.proofs.Common.{sym, true≢false, ◌∙◌}
use Rattle.std.proofs.lemmas.Bool.Decides.{Decides-eqb}
use Rattle.yr_image.specs.Views.{image_of}
use Rattle.yr_hits.proofs.HitLemmas.{fields, literal_there}
use Rattle.yr_hits.proofs.StartLemmas.{start_literal, no_start_there}
use Rattle.yr_hits.proofs.starting.only_start.Goals as goal

pub pool-bytes-requires : goal.pool-bytes-requires
pool-bytes-requires g c =
    let hit = c.args.hit.now in
    (literal_there (image_of hit.view.now) hit.row.before_kind hit.row.before_place hit.row.before_length (fields hit c.requires.good).before c.if-row-eq0.false c.requires.kind).1

pub stands-requires-clause-plain : goal.stands-requires-clause-plain
stands-requires-clause-plain g c = λ e. (fields c.args.hit.now c.requires.good).plain ((Decides-eqb c.args.hit.now.row.fold 1).0 e)

pub returns-then-stands-clause-start : goal.returns-then-stands-clause-start
returns-then-stands-clause-start g c =
    let hit = c.args.hit.now in
    let side = literal_there (image_of hit.view.now) hit.row.before_kind hit.row.before_place hit.row.before_length (fields hit c.requires.good).before c.if-row-eq0.false c.requires.kind in
    start_literal hit c.requires.good side.0 c.pool-bytes.result.now c.pool-bytes.ensures c.if-begin-bytes.false (c.stands.ensures.0 c.if-stands.true)

pub returns-clause-start : goal.returns-clause-start
returns-clause-start g c =
    let hit = c.args.hit.now in
    let side = literal_there (image_of hit.view.now) hit.row.before_kind hit.row.before_place hit.row.before_length (fields hit c.requires.good).before c.if-row-eq0.false c.requires.kind in
    no_start_there hit c.requires.good side.0 c.pool-bytes.result.now c.pool-bytes.ensures (λ h. true≢false (sym (c.stands.ensures.1 h) ∙ c.if-stands.false))
