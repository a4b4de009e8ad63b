use Rattle.std.proofs.Common.{◌∙◌, ap, map}
use Rattle.yr_name_tables.specs.Names.{first}
use Rattle.yr_conditions.specs.UseViews.{use_of}
use Rattle.yr_checks.specs.Checks.{unknown_name}
use Rattle.yr_checking.proofs.used.first_unknown_name.Goals as goal

pub returns : goal.returns
returns c = c.first_unknown_word.ensures ∙ ap (λ names. first (unknown_name names) (map use_of c.args.uses.now)) c.in_ok-known.ensures
