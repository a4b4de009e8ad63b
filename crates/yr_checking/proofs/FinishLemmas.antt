-- What stands at the end of the walk.
use Rattle.std.proofs.Common.{◌≡◌, ℕ, ◌-◌, ◌^◌, ◌≤◌, ◌<◌, List, [], length, map, min, Bool, true, false, sym, ap, subst, ◌∙◌, arith, Result, Ok, Err}
use Rattle.std.specs.Prelude.{nat_lt, IfOk}
use Rattle.std.specs.Option.{option_map}
use Rattle.std.proofs.lemmas.List.{length-map}
use Rattle.yr_base.specs.Gives.{Gives, Refuses}
use Rattle.yr_rules.specs.Rules.{Stored, PlainRules, PlainRule, PlainString, PlainExternal, rules_of, external_of, rule_of as checked_rule_of, string_of as checked_string_of}
use Rattle.yr_rules.specs.Weight.{weight_of, weight_limit}
use Rattle.yr_rules.specs.Wellformed.{IsWellformed}
use Rattle.yr_checks.specs.declared.refusal.Code.TheVariants as code
use Rattle.yr_checking.specs.declared.walking.Walk.{Walk}
use Rattle.yr_checks.specs.Sources.{AtEnd, UnitTree, items_of}
use Rattle.yr_checks.specs.Given.{Given, finding, where_true}
use Rattle.yr_checks.specs.Checked.{checked_rules}
use Rattle.yr_checks.specs.Checks.{is_heavy}
use Rattle.yr_checks.specs.Refusals.{IsPassed, answer, at_end, first_fault, resolved}
use Rattle.yr_checks.specs.Resolving.{AreExternals, AreUnits, HaveRowIds, refusal_in}
use Rattle.yr_checks.specs.declared.refusal.ResolveFault.{ResolveFault}
use Rattle.yr_checks.specs.declared.refusal.ResolveFault.TheVariants as fault
use Rattle.yr_rules.specs.declared.external.External.{External}
use Rattle.yr_checking.specs.Judged.{Explains}
use Rattle.yr_checking.specs.Walked.{IsWalked, fault_in}
use Rattle.yr_checks.proofs.FirstLemmas.{resolved-ok}
use Rattle.yr_checking.proofs.GoodLemmas.{row-ids-are, wellformed}
use Rattle.yr_checking.proofs.WalkLemmas.{fault-at-end}

module _ (given : Given) (units : List UnitTree) (walk : Walk) (w : IsWalked given (items_of units) walk) where
  abbrev all : PlainRules
  all = checked_rules given (items_of units)

  heavy-test : (n : ℕ) → 33554432 < min n (2 ^ 64 - 1) → nat_lt weight_limit n ≡ true
  heavy-test n h = let more : 33554432 < n = omega arith in grind (arith, more)

  light-test : (n : ℕ) → min n (2 ^ 64 - 1) ≤ 33554432 → nat_lt weight_limit n ≡ false
  light-test n h = let less : n ≤ 33554432 = omega arith in grind (arith, less)

  end-is : (b : Bool) → is_heavy given (AtEnd (items_of units)) ≡ b → first_fault given units ≡ option_map at_end (where_true b code.TooHeavy)
  end-is b e = fault-at-end given (items_of units) w.passed w.known ∙ ap (λ c. option_map at_end (where_true c code.TooHeavy)) e

  pub finish-heavy : 33554432 < walk.weight → resolved given units ≡ Err (at_end (finding code.TooHeavy []))
  finish-heavy h = ap (answer all) (end-is true (heavy-test (weight_of all) (let e = w.weight in omega arith)))

  pub finish-light : walk.weight ≤ 33554432 → resolved given units ≡ Ok all
  finish-light h = ap (answer all) (end-is false (light-test (weight_of all) (let e = w.weight in omega arith)))

  -- the parts are the checked rules
  pub parts-are : (externals : List PlainExternal) → externals ≡ given.externals
      → record { rules = map checked_rule_of walk.rules.items; strings = map checked_string_of walk.strings.items; externals = externals } ≡ all
  parts-are externals e =
      ap (λ (rs : List PlainRule). record { rules = rs; strings = map checked_string_of walk.strings.items; externals = externals }) w.rules
      ∙ ap (λ (ss : List PlainString). record { rules = all.rules; strings = ss; externals = externals }) w.strings
      ∙ ap (λ (es : List PlainExternal). record { rules = all.rules; strings = all.strings; externals = es }) e

  pub parts-wellformed : (externals : List PlainExternal) → externals ≡ given.externals → walk.weight ≤ 33554432 → AreUnits units → AreExternals given.externals
      → IsWellformed (record { rules = map checked_rule_of walk.rules.items; strings = map checked_string_of walk.strings.items; externals = externals })
  parts-wellformed externals e h are names =
      let passed : IsPassed given units = (resolved-ok given units all (finish-light h)).0 in
      let few : length all.rules ≤ 65535 = let a = ap length w.rules in let b = length-map walk.rules.items checked_rule_of in let c = w.few_rules in omega arith in
      let many : length all.strings ≤ 65535 = let a = ap length w.strings in let b = length-map walk.strings.items checked_string_of in let c = w.few_strings in omega arith in
      subst IsWellformed (sym (parts-are externals e)) (wellformed given units passed are names few many)

  -- the answer of the walk is the definition's
  pub finish-ok : (externals : List External) → map external_of externals ≡ given.externals → walk.weight ≤ 33554432 → (r : Stored)
      → r ≡ record { rules = walk.rules.items; strings = walk.strings.items; externals = externals } → resolved given units ≡ Ok (rules_of r)
  finish-ok externals e h r is = finish-light h ∙ ap Ok (sym (parts-are (map external_of externals) e)) ∙ ap (λ (s : Stored). Ok (rules_of s)) (sym is)

-- what explains an error is the definition's refusal
pub refused-gives : (given : Given) (units : List UnitTree) (e : ResolveFault) → Explains e (fault_in given (items_of units)) → Refuses (refusal_in e) (resolved given units)
refused-gives given units (fault.Refused r) h = ap (answer (checked_rules given (items_of units))) h
refused-gives given units fault.NoMemory h = tt

-- rules that are given have the ids of rows
pub ids-in : (given : Given) (units : List UnitTree) (result : Result Stored ResolveFault) → AreUnits units → Gives rules_of refusal_in result (resolved given units)
    → IfOk result (λ rules. HaveRowIds given.modules (rules_of rules))
ids-in given units (Ok rules) are g =
    let a = resolved-ok given units (rules_of rules) g in subst (HaveRowIds given.modules) (sym a.1) (row-ids-are given units a.0 are)
ids-in given units (Err e) are g = tt
