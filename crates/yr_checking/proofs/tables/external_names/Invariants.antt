use Rattle.std.proofs.Common.{◌≡◌, take, map}
use Rattle.yr_rules.specs.Rules.{external_of}
use Rattle.yr_checking.proofs.tables.external_names.Given as goal

abbrev pub invariant-loop-external : goal.invariant-loop-external
invariant-loop-external l = l.all ≡ map (λ e. e.name) (map external_of (take l.external-index l.externals))
