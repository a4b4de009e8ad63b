use Rattle.std.proofs.Common.{map}
use Rattle.yr_conditions.specs.Fixed.{the_readers}
use Rattle.yr_rules.specs.Rules.{external_of}
use Rattle.yr_checks.specs.Resolving.{given_by}
use Rattle.yr_checks.specs.Sources.{unit_of}
use Rattle.yr_checking.proofs.FinishLemmas.{finish-ok, parts-wellformed}
use Rattle.yr_checking.proofs.resolving.finish_light.Goals as goal

pub from_parts-requires : goal.from_parts-requires
from_parts-requires c =
    parts-wellformed (given_by the_readers c.args.names.now c.args.externals.now) (map unit_of c.args.units.now) c.args.walk c.requires.walked
    (map external_of c.in_ok-copies.copies.items) c.in_ok-copies.ensures c.requires.light c.requires.units c.requires.externals

pub returns : goal.returns
returns c =
    finish-ok (given_by the_readers c.args.names.now c.args.externals.now) (map unit_of c.args.units.now) c.args.walk c.requires.walked
    c.in_ok-copies.copies.items c.in_ok-copies.ensures c.requires.light c.from_parts.result c.from_parts.ensures
