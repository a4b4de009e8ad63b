use Rattle.std.proofs.Common.{map, take}
use Rattle.yr_rules.specs.Rules.{rule_of, external_of}
use Rattle.yr_compiler.specs.Built.{PutsCodes}
use Rattle.yr_compiler.proofs.code.put_codes.Given as goal

abbrev pub invariant-loop-rule : goal.invariant-loop-rule
invariant-loop-rule l = PutsCodes l.initial.draft l.draft (map external_of l.externals) (map rule_of (take l.rule-index l.rules)) l.codes.items
