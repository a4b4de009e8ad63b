use Rattle.std.proofs.Common.{◌≡◌, ◌∙◌, sym, ap, map, length, List, rules}
use Rattle.yr_syntax.specs.Condition.{item_of, set_of}
use Rattle.yr_syntax.specs.declared.condition.SetItem.{SetItem}
use Rattle.yr_name_tables.specs.Names.{numbers_meant}
use Rattle.yr_syntax.specs.declared.condition.SetRef.{SetRef}
use Rattle.yr_rules.specs.Weight.{set_weight}
use Rattle.yr_conditions.specs.Around.{around_of}
use Rattle.yr_conditions.specs.Nodes.{set_node}
use Rattle.yr_conditions.proofs.NumberLemmas.{them_weigh, strings_weigh, rules_weigh}
use Rattle.yr_conditions.proofs.naming.set_size.Goals as goal

pub returns-in-Them : goal.returns-in-Them
returns-in-Them c =
    let around = c.args.around.now in
    them_weigh around.first_string (length around.strings.now) c.len.result c.len.ensures
    ∙ ap (λ (s : SetRef). set_weight (set_node (around_of around) (set_of s))) (sym c.in-Them.is)

pub returns-in_ok-numbers_meant-in-Strings : goal.returns-in_ok-numbers_meant-in-Strings
returns-in_ok-numbers_meant-in-Strings c =
    let around = c.args.around.now in let met = c.in_ok-numbers_meant-in-Strings in
    let size : c.len-in-Strings.result ≡ length met.field-0.items = search rules in
    strings_weigh (map item_of c.in-Strings.items.items) around.first_string around.strings.now c.len-in-Strings.result
    (size ∙ ap length (met.ensures.numbers ∙ ap (λ (is : List SetItem). numbers_meant (map item_of is) 0 around.strings.now) c.deref.ensures.value))
    ∙ ap (λ (s : SetRef). set_weight (set_node (around_of around) (set_of s))) (sym c.in-Strings.is)

pub returns-in_ok-numbers_meant-in-Rules : goal.returns-in_ok-numbers_meant-in-Rules
returns-in_ok-numbers_meant-in-Rules c =
    let around = c.args.around.now in let met = c.in_ok-numbers_meant-in-Rules in
    let size : c.len-in-Rules.result ≡ length met.field-0.items = search rules in
    rules_weigh (map item_of c.in-Rules.items.items) around.rules.now around.rule_numbers.now c.len-in-Rules.result around.numbered
    (size ∙ ap length (met.ensures.numbers ∙ ap (λ (is : List SetItem). numbers_meant (map item_of is) 0 around.rules.now) c.deref-in-Rules.ensures.value))
    ∙ ap (λ (s : SetRef). set_weight (set_node (around_of around) (set_of s))) (sym c.in-Rules.is)
