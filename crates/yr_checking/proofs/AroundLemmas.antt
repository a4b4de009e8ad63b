-- What the code keeps round a rule is what the definitions say.
use Rattle.std.proofs.Common.{◌≡◌, ℕ, List, length, map, sym, ap, ◌∙◌}
use Rattle.yr_name_tables.specs.Names.{Name}
use Rattle.yr_rules.specs.Rules.{external_of}
use Rattle.yr_conditions.specs.Meanings.{Around, EarlierRule}
use Rattle.yr_conditions.specs.UseViews.{earlier_rules, imported_modules}
use Rattle.yr_values.specs.declared.names.Module.{Module}
use Rattle.yr_values.specs.Names.{module_shown}
use Rattle.yr_checking.specs.declared.at_hand.AtHand.{AtHand}
use Rattle.yr_checking.specs.AtHand.{IsAtHand, given_at, placed_at}
use Rattle.yr_checks.specs.Given.{around, earlier_rule, rule_names, string_names}
use Rattle.yr_checks.specs.Sources.{earlier, first_string_of, imports}
use Rattle.yr_checking.proofs.StageLemmas.{same-long, two-lists}

module _ (at : AtHand) (h : IsAtHand at) where
  pub numbers-long : length at.space.now.numbers.items ≡ length at.space.now.rules
  numbers-long = ap length h.numbers ∙ same-long (earlier (placed_at at)) ∙ sym (ap length h.rules)

  abbrev kept : List Name → List EarlierRule → List Name → ℕ → Around
  kept imports rules strings first = record {
    modules = imported_modules imports (map module_shown at.names.now.modules.items);
    externals = map external_of at.externals.now;
    rules = rules;
    strings = strings;
    first_string = first;
  }

  pub around-is : (strings : List Name) (first : ℕ) → strings ≡ string_names (placed_at at).rule → first ≡ first_string_of (placed_at at)
      → kept at.space.now.imports (earlier_rules at.space.now.rules at.space.now.numbers.items) strings first ≡ around (given_at at) (placed_at at)
  around-is strings first s f =
      let p = placed_at at in
      let rules = earlier_rules at.space.now.rules at.space.now.numbers.items in
      ap (λ (is : List Name). kept is rules strings first) h.imports
      ∙ ap (λ (ns : List Name). kept (imports p) (earlier_rules ns at.space.now.numbers.items) strings first) h.rules
      ∙ ap (λ (ks : List ℕ). kept (imports p) (earlier_rules (rule_names (earlier p)) ks) strings first) h.numbers
      ∙ ap (λ (rs : List EarlierRule). kept (imports p) rs strings first) (two-lists (earlier p))
      ∙ ap (λ (ss : List Name). kept (imports p) (map earlier_rule (earlier p)) ss first) s
      ∙ ap (λ (k : ℕ). kept (imports p) (map earlier_rule (earlier p)) (string_names p.rule) k) f

  -- the same where the modules and the numbers are lent as slices, and the names of the rules by themselves
  pub around-by : (rules strings : List Name) (first : ℕ) (modules : List Module) (numbers : List ℕ) → modules ≡ at.names.now.modules.items → numbers ≡ at.space.now.numbers.items
      → rules ≡ at.space.now.rules → strings ≡ string_names (placed_at at).rule → first ≡ first_string_of (placed_at at)
      → record {
        modules = imported_modules at.space.now.imports (map module_shown modules);
        externals = map external_of at.externals.now;
        rules = earlier_rules rules numbers;
        strings = strings;
        first_string = first;
      } ≡ around (given_at at) (placed_at at)
  around-by rules strings first modules numbers m n r s f =
      ap (λ (ms : List Module). record {
        modules = imported_modules at.space.now.imports (map module_shown ms);
        externals = map external_of at.externals.now;
        rules = earlier_rules rules numbers;
        strings = strings;
        first_string = first;
      }) m
      ∙ ap (λ (ns : List Name). kept at.space.now.imports (earlier_rules ns numbers) strings first) r
      ∙ ap (λ (ks : List ℕ). kept at.space.now.imports (earlier_rules at.space.now.rules ks) strings first) n
      ∙ around-is strings first s f
