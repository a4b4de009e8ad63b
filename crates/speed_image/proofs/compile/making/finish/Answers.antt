use Rattle.std.proofs.Common.{◌≡◌, ◌≤◌, ◌-◌, ◌^◌, min, List, [], length, map, sym, ap, ◌∙◌, subst, arith}
use Rattle.std.proofs.lemmas.List.{length-map}
use Rattle.yr_rules.specs.Rules.{PlainExternal, PlainRules, Stored, rule_of, string_of, external_of, rules_of}
use Rattle.yr_rules.specs.Weight.{total, string_weight}
use Rattle.yr_rules.specs.Wellformed.{IsWellformed}
use Rattle.yr_preserves.specs.RuleIds.{HaveIds}
use Rattle.speed_image.proofs.MadeLemmas.{are_wellformed, ids_there}
use Rattle.speed_image.proofs.compile.making.finish.Goals as goal

pub from_parts-requires : goal.from_parts-requires
from_parts-requires c =
    let rules = map rule_of c.args.rules.items in
    let strings = map string_of c.args.strings.items in
    let few : length rules ≤ 65535 = let a = c.if-len-gt-MOST_RULES.false in let b = c.len.ensures in let d = length-map c.args.rules.items rule_of in omega (arith, a, b, d) in
    let weight : c.strings_weight.result ≡ min (total string_weight strings) (2 ^ 64 - 1) =
    c.strings_weight.ensures ∙ ap (λ ss. min (total string_weight (map string_of ss)) (2 ^ 64 - 1)) c.deref.ensures.value in
    let low : total string_weight strings ≤ 28000000 = let a = c.if-strings_weight-gt-MOST_WEIGHT.false in omega (arith, a, weight) in
    let P : List PlainExternal → Type 0 = λ es. IsWellformed (record { rules = rules; strings = strings; externals = es }) in
    subst P (sym (ap (map external_of) c.new.ensures.items)) (are_wellformed rules strings c.requires few low)

pub returns : goal.returns
returns c = subst (λ (s : Stored). HaveIds (rules_of s)) (sym c.from_parts.ensures) (ids_there (map rule_of c.args.rules.items) (map string_of c.args.strings.items) c.requires)
