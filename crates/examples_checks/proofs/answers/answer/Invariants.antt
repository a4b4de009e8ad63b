use Rattle.std.proofs.Common.{map}
use Rattle.yr_checks.specs.Sources.{unit_of}
use Rattle.yr_checks.specs.Resolving.{AreUnits}
use Rattle.examples_checks.proofs.answers.answer.Given as goal

abbrev pub invariant-loop-part : goal.invariant-loop-part
invariant-loop-part l = AreUnits (map unit_of l.units.items)
