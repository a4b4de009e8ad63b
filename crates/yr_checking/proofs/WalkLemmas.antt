-- The first fault of all items, by what is seen of them.
use Rattle.std.proofs.Common.{◌≡◌, ℕ, ◌+◌, List, [], ◌∷◌, ◌++◌, length, map, filter, Bool, true, false, refl, sym, ap, ◌∙◌, arith, Some, None, Option, append-nil, append_assoc}
use Rattle.std.specs.Prelude.{if◌then◌else◌, bytes_eq}
use Rattle.std.specs.List.{flat_map}
use Rattle.std.specs.Option.{option_map, option_or}
use Rattle.std.proofs.lemmas.List.{length-append}
use Rattle.std.proofs.lemmas.Grind.{flat_map-append}
use Rattle.yr_syntax.specs.Declaration.{RuleTree}
use Rattle.yr_rules.specs.Rules.{PlainRule}
use Rattle.yr_rules.specs.Weight.{total, weight_of, rule_weight, string_weight}
use Rattle.yr_name_tables.specs.Names.{Name, first}
use Rattle.yr_checks.specs.declared.check.Check.{Check}
use Rattle.yr_checks.specs.declared.check.Check.TheVariants as check
use Rattle.yr_checks.specs.declared.refusal.Code.TheVariants as code
use Rattle.yr_checks.specs.Sources.{Item, Import, Rule, PlacedImport, PlacedRule, AtRule, AtEnd, Place, placed_after, rules_in, number_of, has_rule, last_imports, imported, is_in}
use Rattle.yr_checks.specs.Given.{Given, where_true, rule_names}
use Rattle.yr_checks.specs.Checks.{unknown_module, is_heavy, wildcards}
use Rattle.yr_checks.specs.Checked.{checked_rule, checked_rules, checked_strings, present}
use Rattle.yr_checking.specs.Judged.{rule_fault, rest_fault}
use Rattle.yr_checks.specs.Refusals.{PlainRefusal, at_end, at_import, checks, import_fault, place_fault}
use Rattle.yr_checking.specs.Spaces.{SpaceTree, space_at, with_import, with_rule}
use Rattle.yr_checking.specs.Stages.{early_fault}
use Rattle.yr_checking.specs.Walked.{fault_in}
use Rattle.yr_checks.proofs.PassLemmas.{rules-append, total-append}

-- ---- what comes first

pub or-assoc : {A : Type 0} (a b c : Option A) → option_or a (option_or b c) ≡ option_or (option_or a b) c
or-assoc None b c = refl
or-assoc (Some x) b c = refl

pub or-nothing : {A : Type 0} (a : Option A) → option_or a None ≡ a
or-nothing None = refl
or-nothing (Some x) = refl

pub first-append : {A B : Type 0} (f : A → Option B) (xs ys : List A) → first f (xs ++ ys) ≡ option_or (first f xs) (first f ys)
first-append f [] ys = refl
first-append f (x ∷ xs) ys = ap (option_or (f x)) (first-append f xs ys) ∙ or-assoc (f x) (first f xs) (first f ys)

abbrev chain : {A : Type 0} → List (Option A) → Option A → Option A
chain [] t = t
chain (x ∷ xs) t = option_or x (chain xs t)

chain-end : {A : Type 0} (xs : List (Option A)) (t : Option A) → chain xs t ≡ option_or (chain xs None) t
chain-end [] t = refl
chain-end (x ∷ xs) t = ap (option_or x) (chain-end xs t) ∙ or-assoc x (chain xs None) t

-- ---- the checks on a rule in their stages

pub stages : (given : Given) (p : PlacedRule) → first (rule_fault given p) checks ≡ option_or (first (early_fault given p) checks) (rest_fault given p)
stages given p =
    let r : Check → Option PlainRefusal = rule_fault given p in
    let early : List (Option PlainRefusal) = r check.RuleName ∷ r check.RuleWildcards ∷ r check.Tags ∷ r check.StringNames ∷ r check.Texts ∷ r check.Modifiers ∷ [] in
    let late : List (Option PlainRefusal) =
    r check.HexStrings ∷ r check.Expressions ∷ r check.Sizes ∷ r check.StringsUsed ∷ r check.NamesUsed ∷ r check.Kinds ∷ r check.UnusedStrings ∷ r check.LoopDepth ∷ r check.ListLength
    ∷ r check.Counts ∷ [] in
    chain-end early (chain late (option_or (r check.Weight) None))
    ∙ ap (option_or (chain early None)) (chain-end late (option_or (r check.Weight) None) ∙ ap (option_or (chain late None)) (or-nothing (r check.Weight)))

-- ---- one item more

pub rule-last : (seen : List Item) (unit : ℕ) (space : Name) (r : RuleTree)
    → rules_in (seen ++ Rule unit space r ∷ []) ≡ rules_in seen ++ record { before = seen; unit = unit; space = space; rule = r } ∷ []
rule-last seen unit space r = rules-append [] seen (Rule unit space r ∷ [])

pub import-last : (seen : List Item) (i : PlacedImport) → rules_in (seen ++ Import i ∷ []) ≡ rules_in seen
import-last seen i = rules-append [] seen (Import i ∷ []) ∙ append-nil (rules_in seen)

has-import : (seen : List Item) (i : PlacedImport) → has_rule (seen ++ Import i ∷ []) ≡ has_rule seen
has-import [] i = refl
has-import (Import j ∷ items) i = has-import items i
has-import (Rule unit space r ∷ items) i = refl

has-last : (seen : List Item) (unit : ℕ) (space : Name) (r : RuleTree) → has_rule (seen ++ Rule unit space r ∷ []) ≡ true
has-last [] unit space r = refl
has-last (Import j ∷ items) unit space r = has-last items unit space r
has-last (Rule u s q ∷ items) unit space r = refl

imports-end : (b : Bool) (j i : PlacedImport) (is : List PlacedImport) → (if b then is ++ i ∷ [] else j ∷ (is ++ i ∷ [])) ≡ (if b then is else j ∷ is) ++ i ∷ []
imports-end true j i is = refl
imports-end false j i is = refl

pub last-import : (seen : List Item) (i : PlacedImport) → last_imports (seen ++ Import i ∷ []) ≡ last_imports seen ++ i ∷ []
last-import [] i = refl
last-import (Import j ∷ items) i =
    let all = last_imports (items ++ Import i ∷ []) in
    ap (λ (b : Bool). if b then all else j ∷ all) (has-import items i)
    ∙ ap (λ (l : List PlacedImport). if has_rule items then l else j ∷ l) (last-import items i)
    ∙ imports-end (has_rule items) j i (last_imports items)
last-import (Rule unit space r ∷ items) i = last-import items i

pub last-rule : (seen : List Item) (unit : ℕ) (space : Name) (r : RuleTree) → last_imports (seen ++ Rule unit space r ∷ []) ≡ []
last-rule [] unit space r = refl
last-rule (Import j ∷ items) unit space r =
    let all = last_imports (items ++ Rule unit space r ∷ []) in
    ap (λ (b : Bool). if b then all else j ∷ all) (has-last items unit space r) ∙ last-rule items unit space r
last-rule (Rule u s q ∷ items) unit space r = last-rule items unit space r

-- ---- the first fault

rules-first : (given : Given) (rs : List PlacedRule) (p : PlacedRule) (more : List PlacedRule) (end : List Place)
    → first (place_fault given) (map AtRule (rs ++ p ∷ more) ++ end)
    ≡ option_or (first (place_fault given) (map AtRule rs)) (option_or (place_fault given (AtRule p)) (first (place_fault given) (map AtRule more ++ end)))
rules-first given [] p more end = refl
rules-first given (q ∷ rs) p more end =
    ap (option_or (place_fault given (AtRule q))) (rules-first given rs p more end)
    ∙ or-assoc (place_fault given (AtRule q)) (first (place_fault given) (map AtRule rs)) _

end-first : (given : Given) (rs : List PlacedRule) (items : List Item)
    → first (place_fault given) (map AtRule rs ++ AtEnd items ∷ []) ≡ option_or (first (place_fault given) (map AtRule rs)) (option_or (place_fault given (AtEnd items)) None)
end-first given rs items = first-append (place_fault given) (map AtRule rs) (AtEnd items ∷ [])

pub fault-at-rule : (given : Given) (seen rest : List Item) (unit : ℕ) (space : Name) (r : RuleTree) (f : PlainRefusal)
    → first (place_fault given) (map AtRule (rules_in seen)) ≡ None
    → place_fault given (AtRule (record { before = seen; unit = unit; space = space; rule = r })) ≡ Some f
    → fault_in given (seen ++ Rule unit space r ∷ rest) ≡ Some f
fault-at-rule given seen rest unit space r f passed e =
    let p : PlacedRule = record { before = seen; unit = unit; space = space; rule = r } in
    let more = placed_after (seen ++ Rule unit space r ∷ []) rest in
    let end : List Place = AtEnd (seen ++ Rule unit space r ∷ rest) ∷ [] in
    ap (λ rs. first (place_fault given) (map AtRule rs ++ end)) (rules-append [] seen (Rule unit space r ∷ rest))
    ∙ rules-first given (rules_in seen) p more end
    ∙ ap (λ o. option_or o (option_or (place_fault given (AtRule p)) (first (place_fault given) (map AtRule more ++ end)))) passed
    ∙ ap (λ o. option_or o (first (place_fault given) (map AtRule more ++ end))) e

import-first : (given : Given) (items : List Item) (j : PlacedImport) → first (unknown_module given.modules) (last_imports items) ≡ Some j → import_fault given items ≡ Some (at_import j)
import-first given items j e = ap (option_map at_import) e

abbrev end_rest : Given → List Item → Option PlainRefusal
end_rest given items = option_or (option_map at_end (where_true (is_heavy given (AtEnd items)) code.TooHeavy)) None

end-fault : (given : Given) (items : List Item) → place_fault given (AtEnd items) ≡ option_or (import_fault given items) (end_rest given items)
end-fault given items = refl

pub rule-place : (given : Given) (p : PlacedRule) → place_fault given (AtRule p) ≡ option_or (import_fault given p.before) (first (rule_fault given p) checks)
rule-place given p = refl

pub fault-at-import : (given : Given) (seen rest : List Item) (j : PlacedImport) → first (place_fault given) (map AtRule (rules_in seen)) ≡ None
    → first (unknown_module given.modules) (last_imports seen) ≡ Some j → fault_in given (seen ++ rest) ≡ Some (at_import j)
fault-at-import given seen [] j passed e =
    ap (fault_in given) (append-nil seen)
    ∙ end-first given (rules_in seen) seen
    ∙ ap (λ o. option_or o (option_or (place_fault given (AtEnd seen)) None)) passed
    ∙ ap (λ o. option_or (option_or o (end_rest given seen)) None) (import-first given seen j e)
fault-at-import given seen (Import i ∷ rest) j passed e =
    ap (fault_in given) (sym (append_assoc seen (Import i ∷ []) rest))
    ∙ fault-at-import given (seen ++ Import i ∷ []) rest j
    (ap (λ rs. first (place_fault given) (map AtRule rs)) (import-last seen i) ∙ passed)
    (ap (first (unknown_module given.modules)) (last-import seen i)
    ∙ first-append (unknown_module given.modules) (last_imports seen) (i ∷ [])
    ∙ ap (λ o. option_or o (first (unknown_module given.modules) (i ∷ []))) e)
fault-at-import given seen (Rule unit space r ∷ rest) j passed e =
    let p : PlacedRule = record { before = seen; unit = unit; space = space; rule = r } in
    fault-at-rule given seen rest unit space r (at_import j) passed
    (ap (λ o. option_or o (first (rule_fault given p) checks)) (import-first given seen j e))

pub fault-at-end : (given : Given) (seen : List Item) → first (place_fault given) (map AtRule (rules_in seen)) ≡ None
    → first (unknown_module given.modules) (last_imports seen) ≡ None
    → fault_in given seen ≡ option_map at_end (where_true (is_heavy given (AtEnd seen)) code.TooHeavy)
fault-at-end given seen passed known =
    end-first given (rules_in seen) seen
    ∙ ap (λ o. option_or o (option_or (place_fault given (AtEnd seen)) None)) passed
    ∙ ap (λ o. option_or (option_or (option_map at_import o) (end_rest given seen)) None) known
    ∙ or-nothing (end_rest given seen)
    ∙ or-nothing (option_map at_end (where_true (is_heavy given (AtEnd seen)) code.TooHeavy))

-- a rule at which no check fails is passed
pub passed-rule : (given : Given) (seen : List Item) (unit : ℕ) (space : Name) (r : RuleTree) → first (place_fault given) (map AtRule (rules_in seen)) ≡ None
    → first (unknown_module given.modules) (last_imports seen) ≡ None
    → first (rule_fault given (record { before = seen; unit = unit; space = space; rule = r })) checks ≡ None
    → first (place_fault given) (map AtRule (rules_in (seen ++ Rule unit space r ∷ []))) ≡ None
passed-rule given seen unit space r passed known e =
    let p : PlacedRule = record { before = seen; unit = unit; space = space; rule = r } in
    let F = place_fault given in
    ap (λ rs. first F (map AtRule rs)) (rule-last seen unit space r)
    ∙ ap (first F) (map-last AtRule (rules_in seen) p)
    ∙ first-append F (map AtRule (rules_in seen)) (AtRule p ∷ [])
    ∙ ap (λ o. option_or o (option_or (F (AtRule p)) None)) passed
    ∙ ap (λ o. option_or (option_or (option_map at_import o) (first (rule_fault given p) checks)) None) known
    ∙ ap (λ o. option_or o None) e
  where
    map-last : {A B : Type 0} (f : A → B) (xs : List A) (y : A) → map f (xs ++ y ∷ []) ≡ map f xs ++ f y ∷ []
    map-last f [] y = refl
    map-last f (x ∷ xs) y = ap (λ l. f x ∷ l) (map-last f xs y)

pub passed-import : (given : Given) (seen : List Item) (i : PlacedImport) → first (place_fault given) (map AtRule (rules_in seen)) ≡ None
    → first (place_fault given) (map AtRule (rules_in (seen ++ Import i ∷ []))) ≡ None
passed-import given seen i passed = ap (λ rs. first (place_fault given) (map AtRule rs)) (import-last seen i) ∙ passed

pub known-import : (given : Given) (seen : List Item) (i : PlacedImport) → first (unknown_module given.modules) (last_imports seen) ≡ None → unknown_module given.modules i ≡ None
    → first (unknown_module given.modules) (last_imports (seen ++ Import i ∷ [])) ≡ None
known-import given seen i known e =
    let F = unknown_module given.modules in
    ap (first F) (last-import seen i) ∙ first-append F (last_imports seen) (i ∷ []) ∙ ap (λ o. option_or o (option_or (F i) None)) known ∙ ap (λ o. option_or o None) e

pub unknown-import : (given : Given) (seen : List Item) (i : PlacedImport) → first (unknown_module given.modules) (last_imports seen) ≡ None → unknown_module given.modules i ≡ Some i
    → first (unknown_module given.modules) (last_imports (seen ++ Import i ∷ [])) ≡ Some i
unknown-import given seen i known e =
    let F = unknown_module given.modules in
    ap (first F) (last-import seen i) ∙ first-append F (last_imports seen) (i ∷ []) ∙ ap (λ o. option_or o (option_or (F i) None)) known ∙ ap (λ o. option_or o None) e

-- ---- the checked rules

present-append : {A : Type 0} (xs ys : List (Option A)) → present (xs ++ ys) ≡ present xs ++ present ys
present-append [] ys = refl
present-append (None ∷ xs) ys = present-append xs ys
present-append (Some x ∷ xs) ys = ap (λ l. x ∷ l) (present-append xs ys)

map-append' : {A B : Type 0} (f : A → B) (xs ys : List A) → map f (xs ++ ys) ≡ map f xs ++ map f ys
map-append' f [] ys = refl
map-append' f (x ∷ xs) ys = ap (λ l. f x ∷ l) (map-append' f xs ys)

pub checked-import : (given : Given) (seen : List Item) (i : PlacedImport) → checked_rules given (seen ++ Import i ∷ []) ≡ checked_rules given seen
checked-import given seen i =
    ap (λ (rs : List PlacedRule). record { rules = present (map (checked_rule given) rs); strings = flat_map (checked_strings given) rs; externals = given.externals }) (import-last seen i)

module _ (given : Given) (seen : List Item) (unit : ℕ) (space : Name) (r : RuleTree) where
  abbrev here : PlacedRule
  here = record { before = seen; unit = unit; space = space; rule = r }

  pub rules-more : (checked : PlainRule) → Some checked ≡ checked_rule given here
      → (checked_rules given (seen ++ Rule unit space r ∷ [])).rules ≡ (checked_rules given seen).rules ++ checked ∷ []
  rules-more checked e =
      ap (λ rs. present (map (checked_rule given) rs)) (rule-last seen unit space r)
      ∙ ap present (map-append' (checked_rule given) (rules_in seen) (here ∷ []))
      ∙ present-append (map (checked_rule given) (rules_in seen)) (checked_rule given here ∷ [])
      ∙ ap (λ (o : Option PlainRule). present (map (checked_rule given) (rules_in seen)) ++ present (o ∷ [])) (sym e)

  pub strings-more : (checked_rules given (seen ++ Rule unit space r ∷ [])).strings ≡ (checked_rules given seen).strings ++ checked_strings given here
  strings-more =
      ap (flat_map (checked_strings given)) (rule-last seen unit space r)
      ∙ flat_map-append (checked_strings given) (rules_in seen) (here ∷ [])
      ∙ ap (λ l. flat_map (checked_strings given) (rules_in seen) ++ l) (append-nil (checked_strings given here))

  pub weight-more : (checked : PlainRule) → Some checked ≡ checked_rule given here
      → weight_of (checked_rules given (seen ++ Rule unit space r ∷ []))
      ≡ weight_of (checked_rules given seen) + rule_weight checked + total string_weight (checked_strings given here)
  weight-more checked e =
      let a = ap (total rule_weight) (rules-more checked e) ∙ total-append rule_weight (checked_rules given seen).rules (checked ∷ []) in
      let b = ap (total string_weight) strings-more ∙ total-append string_weight (checked_rules given seen).strings (checked_strings given here) in
      omega (arith, a, b)

  pub count-more : length (rules_in (seen ++ Rule unit space r ∷ [])) ≡ length (rules_in seen) + 1
  count-more = ap length (rule-last seen unit space r) ∙ length-append (rules_in seen) (here ∷ [])

-- ---- the namespaces

pub space-import : (given : Given) (seen : List Item) (i : PlacedImport) (q : Name)
    → space_at given (seen ++ Import i ∷ []) q ≡ (if bytes_eq i.space q then with_import i.name (space_at given seen q) else space_at given seen q)
space-import given seen i q =
    let rules = import-last seen i in
    ap (λ (rs : List PlacedRule). record {
      imports = flat_map (imported q) (seen ++ Import i ∷ []);
      rules = rule_names (filter (is_in q) rs);
      numbers = map number_of (filter (is_in q) rs);
      fronts = flat_map (wildcards given) (filter (is_in q) rs);
    }) rules
    ∙ ap (λ (ns : List Name). record (space_at given seen q) { imports = ns }) (flat_map-append (imported q) seen (Import i ∷ []) ∙ ap (λ l. flat_map (imported q) seen ++ l) (append-nil (imported q (Import i))))
    ∙ by (bytes_eq i.space q)
  where
    by : (b : Bool) → record (space_at given seen q) { imports = flat_map (imported q) seen ++ (if b then i.name ∷ [] else []) }
        ≡ (if b then with_import i.name (space_at given seen q) else space_at given seen q)
    by true = refl
    by false = ap (λ (ns : List Name). record (space_at given seen q) { imports = ns }) (append-nil (flat_map (imported q) seen))

filter-last : {A : Type 0} (f : A → Bool) (xs : List A) (y : A) → filter f (xs ++ y ∷ []) ≡ (if f y then filter f xs ++ y ∷ [] else filter f xs)
filter-last f [] y = refl
filter-last {A} f (x ∷ xs) y = by (f x) (f y) (filter-last f xs y)
  where
    by : (b c : Bool) → filter f (xs ++ y ∷ []) ≡ (if c then filter f xs ++ y ∷ [] else filter f xs)
        → (if b then x ∷ filter f (xs ++ y ∷ []) else filter f (xs ++ y ∷ [])) ≡ (if c then (if b then x ∷ filter f xs else filter f xs) ++ y ∷ [] else (if b then x ∷ filter f xs else filter f xs))
    by true true e = ap (λ l. x ∷ l) e
    by true false e = ap (λ l. x ∷ l) e
    by false true e = e
    by false false e = e

abbrev space_with : Given → List Item → Name → List PlacedRule → SpaceTree
space_with given seen q ps = record { imports = flat_map (imported q) seen; rules = rule_names ps; numbers = map number_of ps; fronts = flat_map (wildcards given) ps }

rule-behind : (given : Given) (seen : List Item) (q : Name) (ps : List PlacedRule) (p : PlacedRule)
    → space_with given seen q (ps ++ p ∷ []) ≡ with_rule p.rule.name (number_of p) (wildcards given p) (space_with given seen q ps)
rule-behind given seen q ps p =
    let all = ps ++ p ∷ [] in
    ap (λ (ns : List Name). record { imports = flat_map (imported q) seen; rules = ns; numbers = map number_of all; fronts = flat_map (wildcards given) all }) (map-append' (λ (x : PlacedRule). x.rule.name) ps (p ∷ []))
    ∙ ap (λ (ks : List ℕ). record { imports = flat_map (imported q) seen; rules = rule_names ps ++ p.rule.name ∷ []; numbers = ks; fronts = flat_map (wildcards given) all }) (map-append' number_of ps (p ∷ []))
    ∙ ap (λ (fs : List Name). record { imports = flat_map (imported q) seen; rules = rule_names ps ++ p.rule.name ∷ []; numbers = map number_of ps ++ number_of p ∷ []; fronts = fs })
    (flat_map-append (wildcards given) ps (p ∷ []) ∙ ap (λ l. flat_map (wildcards given) ps ++ l) (append-nil (wildcards given p)))

rule-kept : (given : Given) (seen : List Item) (q : Name) (p : PlacedRule) (b : Bool) (ps : List PlacedRule)
    → space_with given seen q (if b then ps ++ p ∷ [] else ps) ≡ (if b then with_rule p.rule.name (number_of p) (wildcards given p) (space_with given seen q ps) else space_with given seen q ps)
rule-kept given seen q p true ps = rule-behind given seen q ps p
rule-kept given seen q p false ps = refl

pub space-rule : (given : Given) (seen : List Item) (unit : ℕ) (space : Name) (r : RuleTree) (q : Name)
    → space_at given (seen ++ Rule unit space r ∷ []) q
    ≡ (if bytes_eq space q then with_rule r.name (length (rules_in seen)) (wildcards given (record { before = seen; unit = unit; space = space; rule = r })) (space_at given seen q)
    else space_at given seen q)
space-rule given seen unit space r q =
    let p : PlacedRule = record { before = seen; unit = unit; space = space; rule = r } in
    ap (λ (ns : List Name). record (space_at given (seen ++ Rule unit space r ∷ []) q) { imports = ns })
    (flat_map-append (imported q) seen (Rule unit space r ∷ []) ∙ append-nil (flat_map (imported q) seen))
    ∙ ap (space_with given seen q) (ap (filter (is_in q)) (rule-last seen unit space r) ∙ filter-last (is_in q) (rules_in seen) p)
    ∙ rule-kept given seen q p (bytes_eq space q) (filter (is_in q) (rules_in seen))
