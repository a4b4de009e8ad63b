-- What the code says of one rule, by the definitions.
use Rattle.std.proofs.Common.{◌≡◌, ℕ, ◌+◌, ◌-◌, ◌*◌, ◌^◌, ◌≤◌, ◌<◌, List, [], ◌∷◌, length, map, min, drop, true, false, refl, ap, arith, Some, None, Option}
use Rattle.std.specs.Prelude.{nat_lt, is_none, is_some}
use Rattle.std.specs.Option.{option_map, option_and_then}
use Rattle.yr_rules.specs.Kinds.{kind_of}
use Rattle.yr_rules.specs.Rules.{PlainExternal}
use Rattle.yr_rules.specs.Weight.{total, external_weight, weight_of, weight_limit}
use Rattle.yr_name_tables.specs.Names.{first}
use Rattle.yr_conditions.specs.UseViews.{earlier_rules}
use Rattle.yr_checks.specs.declared.check.Check.{Check}
use Rattle.yr_checks.specs.declared.check.Check.TheVariants as check
use Rattle.yr_checks.specs.declared.refusal.Code.TheVariants as code
use Rattle.yr_checks.specs.Sources.{PlacedRule, AtRule, first_string_of, number_of, up_to}
use Rattle.yr_checks.specs.Given.{Given, finding, earlier_rule, rule_names, rule_node, where_true}
use Rattle.yr_checks.specs.Checked.{checked_rules}
use Rattle.yr_checks.specs.Checks.{is_heavy, rule_finding}
use Rattle.yr_checking.specs.Judged.{weight_fault}
use Rattle.yr_checks.specs.Refusals.{at_rule, checks}
use Rattle.yr_checking.specs.Stages.{late_fault, late_finding}
use Rattle.yr_rules.specs.Wellformed.{count_limit}
use Rattle.yr_checks.proofs.PassLemmas.{map-none, where-false, or-none, or-false}

-- the earlier rules by two lists
pub two-lists : (ps : List PlacedRule) → earlier_rules (rule_names ps) (map number_of ps) ≡ map earlier_rule ps
two-lists [] = refl
two-lists (p ∷ ps) = ap (λ l. earlier_rule p ∷ l) (two-lists ps)

pub same-long : (ps : List PlacedRule) → length (map number_of ps) ≡ length (rule_names ps)
same-long [] = refl
same-long (p ∷ ps) = omega (arith, same-long ps)

-- a later check that finds nothing
late-none : (given : Given) (p : PlacedRule) (cs : List Check) (c : Check) → first (late_fault given p) (c ∷ cs) ≡ None → (late_finding given p c ≡ None) × (first (late_fault given p) cs ≡ None)
late-none given p cs c e =
    let both = or-none (late_fault given p c) (first (late_fault given p) cs) e in (map-none (at_rule p c) (late_finding given p c) both.0, both.1)

record PassesLate (given : Given) (p : PlacedRule) : Type 0 where
  pub kinds : rule_finding given p check.Kinds ≡ None
  pub counts : rule_finding given p check.Counts ≡ None

passes-late : (given : Given) (p : PlacedRule) → first (late_fault given p) checks ≡ None → PassesLate given p
passes-late given p e =
    let a = late-none given p (drop 8 checks) check.HexStrings e in
    let b = late-none given p (drop 9 checks) check.Expressions a.1 in
    let c = late-none given p (drop 10 checks) check.Sizes b.1 in
    let d = late-none given p (drop 11 checks) check.StringsUsed c.1 in
    let f = late-none given p (drop 12 checks) check.NamesUsed d.1 in
    let g = late-none given p (drop 13 checks) check.Kinds f.1 in
    let h = late-none given p (drop 14 checks) check.UnusedStrings g.1 in
    let i = late-none given p (drop 15 checks) check.LoopDepth h.1 in
    let j = late-none given p (drop 16 checks) check.ListLength i.1 in
    let k = late-none given p (drop 17 checks) check.Counts j.1 in
    record { kinds = g.0; counts = k.0 }

not-none : {A : Type 0} (o : Option A) → is_none o ≡ false → is_some o ≡ true
not-none (Some x) e = refl
not-none None e = absurd cc

then-some : {A B : Type 0} (f : A → Option B) (o : Option A) → is_some (option_and_then f o) ≡ true → is_some o ≡ true
then-some f (Some x) e = refl
then-some f None e = absurd cc

-- where the later checks pass, the condition has a kind
pub has-kind : (given : Given) (p : PlacedRule) → first (late_fault given p) checks ≡ None
    → is_some (option_and_then (λ node. kind_of given.externals node []) (rule_node given p)) ≡ true
has-kind given p e =
    let k = passes-late given p e in
    not-none _ (where-false _ code.WrongType k.kinds)

-- and the counts are small
pub few-counts : (given : Given) (p : PlacedRule) → first (late_fault given p) checks ≡ None → (number_of p + 1 ≤ 65535) × (first_string_of p + length p.rule.strings ≤ 65535)
few-counts given p e =
    let k = passes-late given p e in
    let both = or-false (nat_lt count_limit (number_of p + 1)) (nat_lt count_limit (first_string_of p + length p.rule.strings)) (where-false _ code.TooMany k.counts) in
    (small (number_of p + 1) both.0, small (first_string_of p + length p.rule.strings) both.1)
  where
    small : (n : ℕ) → nat_lt 65535 n ≡ false → n ≤ 65535
    small n h = grind (arith, h)

-- ---- the weight

light-none : (given : Given) (p : PlacedRule) → is_heavy given (AtRule p) ≡ false → weight_fault given p ≡ None
light-none given p e = ap (λ b. option_map (at_rule p check.Weight) (where_true b code.TooHeavy)) e

heavy-some : (given : Given) (p : PlacedRule) → is_heavy given (AtRule p) ≡ true → weight_fault given p ≡ Some (at_rule p check.Weight (finding code.TooHeavy []))
heavy-some given p e = ap (λ b. option_map (at_rule p check.Weight) (where_true b code.TooHeavy)) e

over : (w : ℕ) → 33554432 < min w (2 ^ 64 - 1) → nat_lt weight_limit w ≡ true
over w h = let more : 33554432 < w = omega arith in grind (arith, more)

under : (w : ℕ) → min w (2 ^ 64 - 1) ≤ 33554432 → nat_lt weight_limit w ≡ false
under w h = let less : w ≤ 33554432 = omega arith in grind (arith, less)

pub is-light : (given : Given) (p : PlacedRule) → min (weight_of (checked_rules given (up_to (AtRule p)))) (2 ^ 64 - 1) ≤ 33554432 → weight_fault given p ≡ None
is-light given p h = light-none given p (under (weight_of (checked_rules given (up_to (AtRule p)))) h)

pub is-over : (given : Given) (p : PlacedRule) → 33554432 < min (weight_of (checked_rules given (up_to (AtRule p)))) (2 ^ 64 - 1)
    → weight_fault given p ≡ Some (at_rule p check.Weight (finding code.TooHeavy []))
is-over given p h = heavy-some given p (over (weight_of (checked_rules given (up_to (AtRule p)))) h)

many-heavy : (es : List PlainExternal) → 32 * length es ≤ total external_weight es
many-heavy [] = omega arith
many-heavy (e ∷ es) = let rest = many-heavy es in omega arith

-- so many externals are too heavy
pub too-many : (given : Given) (p : PlacedRule) → 1048576 < length given.externals → weight_fault given p ≡ Some (at_rule p check.Weight (finding code.TooHeavy []))
too-many given p h =
    let rest = many-heavy given.externals in
    let w = weight_of (checked_rules given (up_to (AtRule p))) in
    let more : 33554432 < w = omega (arith, rest, h) in
    heavy-some given p (grind (arith, more))
