use Rattle.std.proofs.Common.{map}
use Rattle.yr_checks.specs.Sources.{unit_of}
use Rattle.yr_front.proofs.RuleNameLemmas.{found-name, found-none}
use Rattle.yr_front.proofs.numbering.rule_name.Goals as goal

pub returns-in-Some : goal.returns-in-Some
returns-in-Some c = found-name (map unit_of c.args.units.now) c.args.number c.find_in.new.left c.in-Some.name.now c.in-Some.ensures

pub returns-in-None : goal.returns-in-None
returns-in-None c = found-none (map unit_of c.args.units.now) c.args.number c.find_in.new.left c.in-None.ensures
