use Rattle.std.proofs.Common.{◌≡◌, map, refl, ap, ◌∙◌, arith}
use Rattle.std.proofs.lemmas.List.{length-map}
use Rattle.yr_conditions.specs.Fixed.{the_readers}
use Rattle.yr_checks.specs.Resolving.{given_by}
use Rattle.yr_checks.specs.Sources.{items_of, unit_of}
use Rattle.yr_checking.specs.Placed.{item_at}
use Rattle.yr_checking.proofs.GoodLemmas.{forms-are}
use Rattle.yr_checking.proofs.resolving.resolve_all.Goals as goal

pub placed_items-requires : goal.placed_items-requires
placed_items-requires c = omega (arith, c.requires.units.0, length-map c.args.units.now unit_of)

pub walk_all-requires-clause-setting : goal.walk_all-requires-clause-setting
walk_all-requires-clause-setting c =
    let same : map item_at c.deref.result.now ≡ items_of (map unit_of c.args.units.now) = ap (map item_at) c.deref.ensures.value ∙ c.in_ok-items.ensures in
    record { names = c.in_ok-external_names.ensures; forms = forms-are c.deref.result.now (map unit_of c.args.units.now) same c.requires.units }

pub walk_all-requires-clause-walked : goal.walk_all-requires-clause-walked
walk_all-requires-clause-walked c = c.first_walk-walk.ensures (given_by the_readers c.args.names.now c.args.externals.now) refl
