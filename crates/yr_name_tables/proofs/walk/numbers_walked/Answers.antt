use Rattle.std.proofs.Common.{◌≡◌, ◌<◌, length, rules, ◌∙◌, ◌++◌, ◌∷◌, [], ap, map}
use Rattle.std.specs.Prelude.{if◌then◌else◌}
use Rattle.yr_syntax.specs.Condition.{item_of}
use Rattle.yr_name_tables.specs.Names.{is_meant}
use Rattle.yr_name_tables.proofs.MeantLemmas.{met-step, then-in, else-in}
use Rattle.yr_name_tables.proofs.walk.numbers_walked.Goals.{then-means+in_ok-push, else-means}
use Rattle.yr_name_tables.proofs.walk.numbers_walked.Goals as goal

pub loop-number-preserved : goal.loop-number-preserved
loop-number-preserved c =
    let h : c.loop-number.number < length c.args.names.now = search rules in
    let met = c.loop-number.met.items in
    let asked : c.means.result ≡ is_meant (map item_of c.args.items.now) c.name.result.now = search rules in
    let more = met ++ c.loop-number.number ∷ [] in
    let new : c.if-means.met.items ≡ (if c.means.result then more else met) = elim c.if-means.branch [
      | then-means+in_ok-push w ↦ then-in c.means.result c.if-means.met.items more met w.if-means.true (ap (λ v. v.items) w.met-is ∙ w.in_ok-push.ensures.items)
      | else-means w ↦ else-in c.means.result c.if-means.met.items more met w.if-means.false (ap (λ v. v.items) w.met-is)
    ] in
    met-step (map item_of c.args.items.now) c.args.names.now c.loop-number.number c.name.result.now c.means.result met c.if-means.met.items h c.name.ensures asked new
    c.loop-number.invariant
