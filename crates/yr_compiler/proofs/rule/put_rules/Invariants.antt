use Rattle.std.proofs.Common.{◌≡◌, length, map, take}
use Rattle.yr_rules.specs.Rules.{rule_of}
use Rattle.yr_compiler.specs.Putting.{PutsRules}
use Rattle.yr_compiler.proofs.rule.put_rules.Given as goal

abbrev pub invariant-loop-k : goal.invariant-loop-k
invariant-loop-k l = record {
  done : PutsRules l.initial.draft l.draft (map rule_of (take l.k l.rules)) l.codes;
  first : l.first_note ≡ length l.draft.notes;
}
