use Rattle.std.proofs.Common.{◌≡◌, take, map}
use Rattle.yr_rules.specs.Rules.{external_of}
use Rattle.yr_checking.proofs.copying.copy_externals.Given as goal

abbrev pub invariant-loop-external : goal.invariant-loop-external
invariant-loop-external l = map external_of l.all.items ≡ map external_of (take l.external-index l.externals)
