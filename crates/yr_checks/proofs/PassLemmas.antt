-- The rules that pass the checks are sound.
use Rattle.std.proofs.Common.{◌≡◌, ℕ, zero, suc, ◌+◌, ◌≤◌, ◌<◌, List, [], ◌∷◌, ◌++◌, length, map, filter, Bool, true, false, refl, sym, ap, subst, ◌∙◌, arith, Some, None, Option, Result, Ok, Err, append-nil, append_assoc}
use Rattle.std.specs.Prelude.{slice_get, not, ◌||◌, is_none, is_some, nat_lt, if◌then◌else◌}
use Rattle.std.specs.List.{list_any, flat_map}
use Rattle.std.specs.Option.{option_map, option_and_then, option_or}
use Rattle.std.proofs.lemmas.Option.{slice_get_within}
use Rattle.std.proofs.lemmas.List.{length-map, length-append}
use Rattle.yr_base.specs.declared.value.Kind.{Kind}
use Rattle.yr_pattern.specs.Sizes.{size_of}
use Rattle.yr_syntax.specs.Forms.{Each}
use Rattle.yr_syntax.specs.Declaration.{RuleTree}
use Rattle.yr_rules.specs.NodeTree.{NodeTree}
use Rattle.yr_rules.specs.Kinds.{kind_of}
use Rattle.yr_rules.specs.Fits.{loop_limit, list_limit, size_limit}
use Rattle.yr_rules.specs.Weight.{total, weight_of, weight_limit}
use Rattle.yr_checks.specs.declared.check.Check.{Check}
use Rattle.yr_checks.specs.declared.check.Check.TheVariants as check
use Rattle.yr_checks.specs.declared.refusal.Code.{Code}
use Rattle.yr_checks.specs.declared.refusal.Code.TheVariants as code'
use Rattle.yr_name_tables.specs.Names.{Name, first}
use Rattle.yr_checks.specs.Sources.{Item, Import, Rule, PlacedImport, PlacedRule, AtRule, AtEnd, UnitTree, placed_after, rules_in, number_of, strings_in, first_string_of, earlier, is_in, items_of}
use Rattle.yr_conditions.specs.Readers.{Readers, Expression, RegexRefusal, expression_of}
use Rattle.yr_conditions.specs.Uses as use'
use Rattle.yr_conditions.specs.Uses.{Use, uses_of}
use Rattle.yr_checks.specs.Given.{Given, finding, around, rule_uses, rule_node, earlier_rule, where_true, name_if}
use Rattle.yr_checks.specs.Patterns.{large_use, large_expression, is_large, matches_word, large_string}
use Rattle.yr_checks.specs.Checks.{rule_finding, is_deep, is_long, is_heavy}
use Rattle.yr_checks.specs.Checked.{checked_rules, checked_strings, checked_string}
use Rattle.yr_checks.specs.Refusals.{fault, at_rule, at_end, IsPassed}
use Rattle.yr_checks.specs.Fitting.{LiesIn, IsWithin, IsSoundRule}
use Rattle.yr_checks.proofs.FitLemmas.{some-inj, made-fits}
use Rattle.yr_checks.proofs.HeightLemmas.{made-low}

-- ---- lists

pub each-from : {A : Type 0} (P : A → Type 0) (xs : List A) → ((i : ℕ) (x : A) → slice_get xs i ≡ Some x → P x) → Each P xs
each-from P [] f = tt
each-from P (x ∷ xs) f = (f 0 x refl, each-from P xs (λ i y e. f (suc i) y e))

pub each-map : {A B : Type 0} (P : B → Type 0) (f : A → B) (xs : List A) → Each (λ x. P (f x)) xs → Each P (map f xs)
each-map P f [] h = tt
each-map P f (x ∷ xs) h = (h.0, each-map P f xs h.1)

each-filter : {A : Type 0} (P : A → Type 0) (test : A → Bool) (xs : List A) → Each P xs → Each P (filter test xs)
each-filter P test [] h = tt
each-filter {A} P test (x ∷ xs) h = by (test x) (each-filter P test xs h.1)
  where
    by : (b : Bool) → Each P (filter test xs) → Each P (if b then x ∷ filter test xs else filter test xs)
    by true rest = (h.0, rest)
    by false rest = rest

pub or-none : {A : Type 0} (a b : Option A) → option_or a b ≡ None → (a ≡ None) × (b ≡ None)
or-none None b e = (refl, e)
or-none (Some x) b e = absurd cc

pub map-none : {A B : Type 0} (f : A → B) (a : Option A) → option_map f a ≡ None → a ≡ None
map-none f None e = refl
map-none f (Some x) e = absurd cc

pub each-none : {A B : Type 0} (f : A → Option B) (xs : List A) → first f xs ≡ None → Each (λ x. f x ≡ None) xs
each-none f [] e = tt
each-none f (x ∷ xs) e = let p = or-none (f x) (first f xs) e in (p.0, each-none f xs p.1)

pub or-false : (a b : Bool) → (a || b) ≡ false → (a ≡ false) × (b ≡ false)
or-false false b e = (refl, e)
or-false true b e = absurd cc

pub each-false : {A : Type 0} (f : A → Bool) (xs : List A) → list_any f xs ≡ false → Each (λ x. f x ≡ false) xs
each-false f [] e = tt
each-false f (x ∷ xs) e = let p = or-false (f x) (list_any f xs) e in (p.0, each-false f xs p.1)

pub total-append : {A : Type 0} (f : A → ℕ) (xs ys : List A) → total f (xs ++ ys) ≡ total f xs + total f ys
total-append f [] ys = omega arith
total-append f (x ∷ xs) ys = omega (arith, total-append f xs ys)

-- ---- the rules of items

pub rules-append : (before xs ys : List Item) → placed_after before (xs ++ ys) ≡ placed_after before xs ++ placed_after (before ++ xs) ys
rules-append before [] ys = ap (λ b. placed_after b ys) (sym (append-nil before))
rules-append before (Import i ∷ xs) ys =
    rules-append (before ++ Import i ∷ []) xs ys ∙ ap (λ b. placed_after (before ++ Import i ∷ []) xs ++ placed_after b ys) (append_assoc before (Import i ∷ []) xs)
rules-append before (Rule unit space r ∷ xs) ys =
    ap (λ l. record { before = before; unit = unit; space = space; rule = r } ∷ l)
    (rules-append (before ++ Rule unit space r ∷ []) xs ys ∙ ap (λ b. placed_after (before ++ Rule unit space r ∷ []) xs ++ placed_after b ys) (append_assoc before (Rule unit space r ∷ []) xs))

-- where a rule stands among the items
pub record Stands (start items : List Item) (i : ℕ) (p : PlacedRule) : Type 0 where
  front : List Item
  back : List Item
  whole : items ≡ front ++ Rule p.unit p.space p.rule ∷ back
  begins : p.before ≡ start ++ front
  counted : length (placed_after start front) ≡ i

stands-here : (start items : List Item) (unit : ℕ) (space : Name) (r : RuleTree) (p : PlacedRule) → record { before = start; unit = unit; space = space; rule = r } ≡ p
    → Stands start (Rule unit space r ∷ items) 0 p
stands-here start items unit space r p e =
    subst (λ q. Stands start (Rule unit space r ∷ items) 0 q) e
    (record { front = []; back = items; whole = refl; begins = sym (append-nil start); counted = refl })

stands-after-import : (start items : List Item) (j : PlacedImport) (i : ℕ) (p : PlacedRule) → Stands (start ++ Import j ∷ []) items i p → Stands start (Import j ∷ items) i p
stands-after-import start items j i p s =
    record {
      front = Import j ∷ s.front;
      back = s.back;
      whole = ap (λ l. Import j ∷ l) s.whole;
      begins = s.begins ∙ append_assoc start (Import j ∷ []) s.front;
      counted = s.counted;
    }

stands-after-rule : (start items : List Item) (unit : ℕ) (space : Name) (r : RuleTree) (i : ℕ) (p : PlacedRule) → Stands (start ++ Rule unit space r ∷ []) items i p
    → Stands start (Rule unit space r ∷ items) (suc i) p
stands-after-rule start items unit space r i p s =
    record {
      front = Rule unit space r ∷ s.front;
      back = s.back;
      whole = ap (λ l. Rule unit space r ∷ l) s.whole;
      begins = s.begins ∙ append_assoc start (Rule unit space r ∷ []) s.front;
      counted = ap suc s.counted;
    }

pub stands : (start items : List Item) (i : ℕ) (p : PlacedRule) → slice_get (placed_after start items) i ≡ Some p → Stands start items i p
stands start [] i p e = absurd cc
stands start (Import j ∷ items) i p e = stands-after-import start items j i p (stands (start ++ Import j ∷ []) items i p e)
stands start (Rule unit space r ∷ items) zero p e = stands-here start items unit space r p (some-inj e)
stands start (Rule unit space r ∷ items) (suc i) p e = stands-after-rule start items unit space r i p (stands (start ++ Rule unit space r ∷ []) items i p e)

pub number-is : (items : List Item) (i : ℕ) (p : PlacedRule) → slice_get (rules_in items) i ≡ Some p → number_of p ≡ i
number-is items i p e = let s = stands [] items i p e in ap (λ b. length (rules_in b)) s.begins ∙ s.counted

numbers-below : (items : List Item) → Each (λ q. number_of q < length (rules_in items)) (rules_in items)
numbers-below items =
    each-from (λ q. number_of q < length (rules_in items)) (rules_in items)
    (λ i q e. let a = number-is items i q e in let b = slice_get_within (rules_in items) i q e in omega arith)

-- ---- strings

pub strings-counted : (given : Given) (rules : List PlacedRule) → length (flat_map (checked_strings given) rules) ≡ strings_in rules
strings-counted given [] = refl
strings-counted given (p ∷ rules) =
    let a = length-append (checked_strings given p) (flat_map (checked_strings given) rules) in
    let b = length-map p.rule.strings (checked_string given.readers (number_of p)) in
    let c = strings-counted given rules in
    a ∙ omega (arith, b, c)

strings-within : (given : Given) (items : List Item) (i : ℕ) (p : PlacedRule) → slice_get (rules_in items) i ≡ Some p
    → first_string_of p + length p.rule.strings ≤ length (checked_rules given items).strings
strings-within given items i p e =
    let s = stands [] items i p e in
    let a = strings-counted given (rules_in items) in
    let b = ap (λ l. strings_in (rules_in l)) s.whole in
    let c = ap strings_in (rules-append [] s.front (Rule p.unit p.space p.rule ∷ s.back)) in
    let d = total-append (λ (q : PlacedRule). length q.rule.strings) (rules_in s.front) (placed_after s.front (Rule p.unit p.space p.rule ∷ s.back)) in
    let f = ap (λ l. strings_in (rules_in l)) s.begins in
    omega arith

lies : (given : Given) (items : List Item) (i : ℕ) (p : PlacedRule) → slice_get (rules_in items) i ≡ Some p
    → LiesIn (record { externals = length given.externals; rules = number_of p; strings = length (checked_rules given items).strings }) (around given p)
lies given items i p e =
    let a = length-map p.rule.strings (λ s. s.name) in
    let b = strings-within given items i p e in
    record {
      externals = omega arith;
      rules = each-map (λ r. r.number < number_of p) earlier_rule (earlier p) (each-filter (λ q. number_of q < number_of p) (is_in p.space) (rules_in p.before) (numbers-below p.before));
      strings = omega arith;
    }

-- ---- what passing says

pub place-there : (rules : List PlacedRule) (items : List Item) (i : ℕ) (p : PlacedRule) → slice_get rules i ≡ Some p → slice_get (map AtRule rules ++ AtEnd items ∷ []) i ≡ Some (AtRule p)
place-there [] items i p e = absurd cc
place-there (q ∷ rules) items zero p e = ap (λ x. Some (AtRule x)) (some-inj e)
place-there (q ∷ rules) items (suc i) p e = place-there rules items i p e

end-there : (rules : List PlacedRule) (items : List Item) → slice_get (map AtRule rules ++ AtEnd items ∷ []) (length rules) ≡ Some (AtEnd items)
end-there [] items = refl
end-there (q ∷ rules) items = end-there rules items

pub where-false : (b : Bool) (code : Code) → where_true b code ≡ None → b ≡ false
where-false false code e = refl
where-false true code e = absurd cc

named-false : (b : Bool) (n : Name) → name_if b n ≡ None → b ≡ false
named-false false n e = refl
named-false true n e = absurd cc

small : (a b : ℕ) → nat_lt a b ≡ false → b ≤ a
small a b h = grind (arith)

below : (a b : ℕ) → not (nat_lt a b) ≡ false → a < b
below a b h = by (nat_lt a b) refl h
  where
    by : (x : Bool) → nat_lt a b ≡ x → not x ≡ false → a < b
    by true e g = grind (arith)
    by false e g = absurd cc

small-expression : (o : Result Expression RegexRefusal) → large_expression matches_word o ≡ None → (e : Expression) → o ≡ Ok e → size_of e.pattern ≤ size_limit
small-expression (Ok x) h e same =
    let a = named-false (is_large (size_of x.pattern)) matches_word (map-none (finding code'.PatternTooLarge) (name_if (is_large (size_of x.pattern)) matches_word) h) in
    let b = small size_limit (size_of x.pattern) a in
    let c : x ≡ e = cc in
    subst (λ y. size_of y.pattern ≤ size_limit) c b
small-expression (Err refusal) h e same = absurd cc

use-within : (readers : Readers) (u : Use) → is_deep u ≡ false → is_long u ≡ false → large_use readers u ≡ None → IsWithin readers u
use-within readers (use'.Loop round) d l x = below round loop_limit d
use-within readers (use'.Listed items) d l x = small list_limit items l
use-within readers (use'.Expression r) d l x = small-expression (expression_of readers r) x
use-within readers (use'.String sign n) d l x = tt
use-within readers (use'.Nameless sign) d l x = tt
use-within readers (use'.Member n wild) d l x = tt
use-within readers use'.Everything d l x = tt
use-within readers (use'.Earlier n wild) d l x = tt
use-within readers (use'.Unknown w) d l x = tt

uses-within : (readers : Readers) (us : List Use) → Each (λ u. is_deep u ≡ false) us → Each (λ u. is_long u ≡ false) us → Each (λ u. large_use readers u ≡ None) us → Each (IsWithin readers) us
uses-within readers [] d l x = tt
uses-within readers (u ∷ us) d l x = (use-within readers u d.0 l.0 x.0, uses-within readers us d.1 l.1 x.1)

-- a condition with a kind is there
kind-there : (given : Given) (o : Option NodeTree) → is_none (option_and_then (λ node. kind_of given.externals node []) o) ≡ false
    → (n : NodeTree) × (o ≡ Some n) × (is_some (kind_of given.externals n []) ≡ true)
kind-there given None h = absurd cc
kind-there given (Some n) h = (n, refl, by (kind_of given.externals n []) h)
  where
    by : (k : Option Kind) → is_none k ≡ false → is_some k ≡ true
    by (Some k) e = refl
    by None e = absurd cc

module _ (given : Given) (units : List UnitTree) (passed : IsPassed given units) where
  no-finding : (i : ℕ) (p : PlacedRule) → slice_get (rules_in (items_of units)) i ≡ Some p → (c : Check) → fault given (AtRule p) c ≡ None
  no-finding i p e c = passed i (AtRule p) c (place-there (rules_in (items_of units)) (items_of units) i p e)

  pub sound-rule : (i : ℕ) (p : PlacedRule) → slice_get (rules_in (items_of units)) i ≡ Some p → IsSoundRule given (checked_rules given (items_of units)) p
  sound-rule i p e =
      let f : (c : Check) → fault given (AtRule p) c ≡ None = no-finding i p e in
      let k = kind-there given (rule_node given p) (where-false _ code'.WrongType (map-none (at_rule p check.Kinds) (rule_finding given p check.Kinds) (f check.Kinds))) in
      let d = each-false is_deep (rule_uses given p) (where-false _ code'.LoopDepth (map-none (at_rule p check.LoopDepth) (rule_finding given p check.LoopDepth) (f check.LoopDepth))) in
      let l = each-false is_long (rule_uses given p) (where-false _ code'.ListTooLong (map-none (at_rule p check.ListLength) (rule_finding given p check.ListLength) (f check.ListLength))) in
      let s = or-none (first (large_string given.readers) p.rule.strings) (first (large_use given.readers) (rule_uses given p)) (map-none (at_rule p check.Sizes) (rule_finding given p check.Sizes) (f check.Sizes)) in
      let x = each-none (large_use given.readers) (rule_uses given p) s.1 in
      record {
        condition = k.0;
        made = k.1;
        kinds = k.2;
        fits = made-fits given.readers (around given p) (record { externals = length given.externals; rules = number_of p; strings = length (checked_rules given (items_of units)).strings }) p.rule.condition k.0
            (lies given (items_of units) i p e) k.1 (uses-within given.readers (rule_uses given p) d l x);
        low = made-low given.readers (around given p) p.rule.condition k.0 k.1;
      }

  pub light-rules : weight_of (checked_rules given (items_of units)) ≤ weight_limit
  light-rules =
      let f : fault given (AtEnd (items_of units)) check.Weight ≡ None =
      passed (length (rules_in (items_of units))) (AtEnd (items_of units)) check.Weight (end-there (rules_in (items_of units)) (items_of units)) in
      small weight_limit (weight_of (checked_rules given (items_of units)))
      (where-false (is_heavy given (AtEnd (items_of units))) code'.TooHeavy (map-none at_end (where_true (is_heavy given (AtEnd (items_of units))) code'.TooHeavy) f))
