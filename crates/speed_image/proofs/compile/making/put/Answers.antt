use Rattle.std.proofs.Common.{◌≡◌, ◌≤◌, List, [], ◌∷◌, ◌++◌, All, IsTrue, length, map, sym, ap, ◌∙◌, subst}
use Rattle.std.proofs.lemmas.List.{length-map, map-append}
use Rattle.yr_pattern.specs.Variants.{PlainVariant, variant_of, variant_size}
use Rattle.yr_rules.specs.Rules.{PlainRule, PlainString, rule_of, string_of}
use Rattle.yr_rules.specs.Wellformed.{IsGoodVariant}
use Rattle.speed_image.specs.Made.{AreMade}
use Rattle.speed_image.proofs.MadeLemmas.{more_made}
use Rattle.speed_image.proofs.compile.making.put.Goals as goal

pub returns : goal.returns
returns c =
    let rules = map rule_of c.args.rules.now.items in
    let strings = map string_of c.args.strings.now.items in
    let variants = map variant_of c.args.variants.items in
    let is_small : IsTrue c.are_small.result = search in
    let small : All (λ v. variant_size v ≤ 65535) variants =
    subst (λ vs. All (λ v. variant_size v ≤ 65535) (map variant_of vs)) c.deref.ensures.value (c.are_small.ensures is_small) in
    let good : All IsGoodVariant variants = λ k d b. (c.requires.sound k d b, small k d b) in
    let count : c.in_ok-k.k ≡ length rules = c.in_ok-k.ensures ∙ ap length c.deref-2.ensures.value ∙ sym (length-map c.args.rules.now.items rule_of) in
    let made = more_made rules strings c.in_ok-k.k variants (rule_of c.in_ok-rule.rule) (string_of c.in_ok-string.string) c.requires.made count c.in_ok-rule.ensures
    c.in_ok-string.ensures good in
    let new_rules : map rule_of c.push.new.self.items ≡ rules ++ rule_of c.in_ok-rule.rule ∷ [] =
    ap (map rule_of) c.in_ok-push.ensures.items ∙ map-append rule_of c.args.rules.now.items (c.in_ok-rule.rule ∷ []) in
    let new_strings : map string_of c.push-2.new.self.items ≡ strings ++ string_of c.in_ok-string.string ∷ [] =
    ap (map string_of) c.in_ok-push-2.ensures.items ∙ map-append string_of c.args.strings.now.items (c.in_ok-string.string ∷ []) in
    let P : List PlainRule → Type 0 = λ rs. AreMade rs (map string_of c.push-2.new.self.items) in
    let Q : List PlainString → Type 0 = λ ss. AreMade (rules ++ rule_of c.in_ok-rule.rule ∷ []) ss in
    subst P (sym new_rules) (subst Q (sym new_strings) made)
