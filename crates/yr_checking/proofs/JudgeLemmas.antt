-- The checks on a rule, stage by stage.
use Rattle.std.proofs.Common.{◌≡◌, ℕ, ◌+◌, List, [], ◌∷◌, min, drop, Bool, true, sym, ap, subst, ◌∙◌, arith, Some, None, Option, Result, Ok, Err}
use Rattle.std.specs.Prelude.{is_some, OnOk, IfErr}
use Rattle.std.specs.Option.{option_or, option_and_then}
use Rattle.yr_name_tables.specs.Names.{first}
use Rattle.yr_rules.specs.Kinds.{kind_of}
use Rattle.yr_rules.specs.NodeTree.{NodeTree}
use Rattle.yr_syntax.specs.Forms.{Each, StringHasForms}
use Rattle.yr_conditions.specs.Shapes.{shape_of}
use Rattle.yr_checks.specs.declared.check.Check.{Check}
use Rattle.yr_checks.specs.declared.check.Check.TheVariants as check
use Rattle.yr_checks.specs.declared.refusal.Code.TheVariants as code
use Rattle.yr_checks.specs.declared.refusal.ResolveFault.{ResolveFault}
use Rattle.yr_checks.specs.Sources.{PlacedRule}
use Rattle.yr_checks.specs.Given.{Given, around, finding, rule_node}
use Rattle.yr_checks.specs.Patterns.{bad_modifiers, empty_string}
use Rattle.yr_checks.specs.Refusals.{PlainRefusal, at_rule, checks}
use Rattle.yr_checks.proofs.PassLemmas.{map-none, or-none}
use Rattle.yr_checking.specs.Findings.{IsSoundString}
use Rattle.yr_checking.specs.Judged.{Explains, rest_fault, rule_fault, weight_fault}
use Rattle.yr_checking.specs.Stages.{early_fault, early_finding, late_fault}
use Rattle.yr_conditions.proofs.ShapeLemmas.{shape-exact, shape-kind}
use Rattle.yr_checking.proofs.StageLemmas.{has-kind}
use Rattle.yr_checking.proofs.UseLemmas.{sound-strings}
use Rattle.yr_checking.proofs.WalkLemmas.{stages}

-- ---- the checks that look at no condition

early-none : (given : Given) (p : PlacedRule) (cs : List Check) (c : Check) → first (early_fault given p) (c ∷ cs) ≡ None
    → (early_finding given p c ≡ None) × (first (early_fault given p) cs ≡ None)
early-none given p cs c e =
    let both = or-none (early_fault given p c) (first (early_fault given p) cs) e in (map-none (at_rule p c) (early_finding given p c) both.0, both.1)

-- where they pass, the strings are sound
pub sound-early : (given : Given) (p : PlacedRule) → Each StringHasForms p.rule.strings → first (early_fault given p) checks ≡ None → Each IsSoundString p.rule.strings
sound-early given p f e =
    let a = early-none given p (drop 2 checks) check.RuleName e in
    let b = early-none given p (drop 3 checks) check.RuleWildcards a.1 in
    let c = early-none given p (drop 4 checks) check.Tags b.1 in
    let d = early-none given p (drop 5 checks) check.StringNames c.1 in
    let t = early-none given p (drop 6 checks) check.Texts d.1 in
    let m = early-none given p (drop 7 checks) check.Modifiers t.1 in
    sound-strings p.rule.strings f
    (map-none (finding code.EmptyString) (first empty_string p.rule.strings) t.0)
    (map-none (finding code.BadModifiers) (first bad_modifiers p.rule.strings) m.0)

-- ---- what the stages say together

module _ (given : Given) (p : PlacedRule) where
  pub rest-of : first (early_fault given p) checks ≡ None → first (rule_fault given p) checks ≡ rest_fault given p
  rest-of e = stages given p ∙ ap (λ o. option_or o (rest_fault given p)) e

  pub early-of : (f : PlainRefusal) → first (early_fault given p) checks ≡ Some f → first (rule_fault given p) checks ≡ Some f
  early-of f e = stages given p ∙ ap (λ o. option_or o (rest_fault given p)) e

  pub weight-of-rest : first (late_fault given p) checks ≡ None → rest_fault given p ≡ weight_fault given p
  weight-of-rest e = ap (λ o. option_or o (weight_fault given p)) e

  pub late-of-rest : (f : PlainRefusal) → first (late_fault given p) checks ≡ Some f → rest_fault given p ≡ Some f
  late-of-rest f e = ap (λ o. option_or o (weight_fault given p)) e

  -- ---- the checked condition

  shape-there : (exact : Bool) (o : Option NodeTree) → o ≡ shape_of exact given.readers (around given p) p.rule.condition [] → first (late_fault given p) checks ≡ None
      → is_some (option_and_then (λ n. kind_of given.externals n []) o) ≡ true
  shape-there exact o e h =
      ap (λ x. is_some (option_and_then (λ n. kind_of given.externals n []) x)) e
      ∙ ap is_some (shape-kind given.readers (around given p) exact p.rule.condition)
      ∙ has-kind given p h

  -- where the checks pass, there is one
  pub not-none : (exact : Bool) (o : Option NodeTree) → o ≡ shape_of exact given.readers (around given p) p.rule.condition [] → first (late_fault given p) checks ≡ None → o ≡ None → ⊥
  not-none exact o e h none =
      let some = shape-there exact o e h in
      let gone = ap (λ x. is_some (option_and_then (λ n. kind_of given.externals n []) x)) none in
      absurd cc

  -- where numbers are exact, it is the one that the condition stands for
  pub exact-node : (exact : Bool) (n : NodeTree) → exact ≡ true → Some n ≡ shape_of exact given.readers (around given p) p.rule.condition [] → rule_node given p ≡ Some n
  exact-node exact n t e =
      sym (e ∙ ap (λ b. shape_of b given.readers (around given p) p.rule.condition []) t ∙ shape-exact given.readers (around given p) p.rule.condition [])

-- an explanation of one fault is one of what is the same
pub explains-same : (e : ResolveFault) (o q : Option PlainRefusal) → o ≡ q → Explains e o → Explains e q
explains-same e o q same h = subst (Explains e) same h

-- ---- sums that stop at a greatest number

absorb : (a b c : ℕ) → min (min a c + min b c) c ≡ min (a + b) c
absorb a b c = omega arith

left : (a b c : ℕ) → min (min a c + b) c ≡ min (a + b) c
left a b c = omega arith

right : (a b c : ℕ) → min (a + min b c) c ≡ min (a + b) c
right a b c = omega arith

-- a rule's name, tags, entries of meta and condition, and the rule itself
pub rule-sum : (n t m k c : ℕ) → min (min (min (min (n + min t c) c + min m c) c + min k c) c + 64) c ≡ min (64 + n + t + m + k) c
rule-sum n t m k c =
    let tags = right n t c in
    let meta = ap (λ x. min (x + min m c) c) tags ∙ absorb (n + t) m c in
    let nodes = ap (λ x. min (x + min k c) c) meta ∙ absorb (n + t + m) k c in
    let all = ap (λ x. min (x + 64) c) nodes ∙ left (n + t + m + k) 64 c in
    let turned : n + t + m + k + 64 ≡ 64 + n + t + m + k = omega arith in
    all ∙ ap (λ x. min x c) turned

-- a rule, its strings and all that stands before
pub three-sum : (r s b w c : ℕ) → w ≡ b + r + s → min (min (min r c + min s c) c + min b c) c ≡ min w c
three-sum r s b w c e =
    let turned : r + s + b ≡ w = omega (arith, e) in
    ap (λ x. min (x + min b c) c) (absorb r s c) ∙ absorb (r + s) b c ∙ ap (λ x. min x c) turned

-- ---- results

pub on-ok-then : {X E A B : Type 0} (r : Result X E) → (A → B) → OnOk r A → OnOk r B
on-ok-then (Ok x) f h = f h
on-ok-then (Err e) f h = tt

pub if-err-then : {X E : Type 0} {P Q : E → Type 0} (r : Result X E) → ((e : E) → P e → Q e) → IfErr r P → IfErr r Q
if-err-then (Ok x) f h = tt
if-err-then (Err e) f h = f e h
