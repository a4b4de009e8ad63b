use Rattle.std.proofs.Common.{map, take}
use Rattle.yr_rules.specs.Rules.{external_of}
use Rattle.yr_compiler.specs.Putting.{PutsExternals}
use Rattle.yr_compiler.proofs.external.put_externals.Given as goal

abbrev pub invariant-loop-e : goal.invariant-loop-e
invariant-loop-e l = PutsExternals l.initial.draft l.draft (map external_of (take l.e-index l.externals))
