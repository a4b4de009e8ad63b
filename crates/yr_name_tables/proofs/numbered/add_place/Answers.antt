use Rattle.std.proofs.Common.{rules, ◌≡◌, ◌∙◌, sym, false}
use Rattle.yr_name_tables.proofs.PlaceLemmas.{place-is-added}
use Rattle.yr_name_tables.proofs.numbered.add_place.Goals as goal

pub returns-in_ok-insert-clause-ok : goal.returns-in_ok-insert-clause-ok
returns-in_ok-insert-clause-ok c =
    let gone : c.contains_key.result ≡ false = search rules in
    place-is-added c.args.places.now.entries c.insert.new.self.entries c.args.name c.args.place (sym c.contains_key.ensures ∙ gone) c.in_ok-insert.ensures.entries
