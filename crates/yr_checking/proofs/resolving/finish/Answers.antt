use Rattle.std.proofs.Common.{map, sym, ap, ◌∙◌, Err}
use Rattle.yr_conditions.specs.Fixed.{the_readers}
use Rattle.yr_checks.specs.Resolving.{given_by}
use Rattle.yr_checks.specs.Sources.{unit_of}
use Rattle.yr_checking.proofs.FinishLemmas.{finish-heavy}
use Rattle.yr_checking.proofs.resolving.finish.Goals as goal

pub returns-then-walk-gt-WEIGHT_LIMIT : goal.returns-then-walk-gt-WEIGHT_LIMIT
returns-then-walk-gt-WEIGHT_LIMIT c =
    finish-heavy (given_by the_readers c.args.names.now c.args.externals.now) (map unit_of c.args.units.now) c.args.walk c.requires.walked c.if-walk-gt-WEIGHT_LIMIT.true
    ∙ ap Err (sym c.refuse_end.ensures)
