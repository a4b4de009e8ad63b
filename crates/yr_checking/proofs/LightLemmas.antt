-- Where the sets of a condition are not made, the rule is too heavy.
use Rattle.std.proofs.Common.{◌≡◌, ℕ, ◌+◌, ◌≤◌, ◌<◌, ◌^◌, [], length, map, Bool, true, false, refl, sym, ap, ◌∙◌, arith, Some, None, Option, Result, Ok, Err}
use Rattle.std.specs.Prelude.{◌&&◌, nat_le, is_some, IfOk, MatchOption}
use Rattle.std.specs.Option.{option_map, option_and_then}
use Rattle.std.proofs.lemmas.List.{length-map}
use Rattle.yr_base.specs.declared.memory.NoMemory.{NoMemory}
use Rattle.yr_name_tables.specs.Names.{first}
use Rattle.yr_rules.specs.Kinds.{kind_of}
use Rattle.yr_rules.specs.declared.node.Node.{Node}
use Rattle.yr_rules.specs.NodeTree.{NodeTree, tree_of as node_tree}
use Rattle.yr_rules.specs.Rules.{external_of}
use Rattle.yr_conditions.specs.Around.{around_of}
use Rattle.yr_conditions.specs.declared.around.Around.{Around}
use Rattle.yr_conditions.specs.Room.{IsRoomy}
use Rattle.yr_conditions.specs.Shapes.{shape_of}
use Rattle.yr_conditions.specs.SetWeights.{set_weights}
use Rattle.yr_checks.specs.Checked.{checked_rule, with_node}
use Rattle.yr_checks.specs.Given.{Given, around, rule_node, string_names}
use Rattle.yr_checks.specs.Refusals.{checks}
use Rattle.yr_checks.specs.Sources.{PlacedRule, first_string_of}
use Rattle.yr_checking.specs.Judged.{IsTooHeavy}
use Rattle.yr_checking.specs.Sets.{is_at_once, is_few, is_made}
use Rattle.yr_checking.specs.declared.light.Sets.{Sets}
use Rattle.yr_checking.specs.declared.light.Sets.TheVariants as sets
use Rattle.yr_checking.specs.Stages.{late_fault}
use Rattle.yr_conditions.proofs.LowerLemmas.{sets-weigh}
use Rattle.yr_checking.proofs.JudgeLemmas.{exact-node, not-none}
use Rattle.yr_checking.proofs.StageLemmas.{few-counts, has-kind, is-over, too-many}
use Rattle.yr_checking.proofs.WalkLemmas.{weight-more}

-- ---- numbers of 32 bits

both-true : (x y : Bool) → (x && y) ≡ true → (x ≡ true) × (y ≡ true)
both-true true true e = (refl, refl)
both-true true false e = absurd cc
both-true false y e = absurd cc

pub few-room : (a : Around) → is_few (around_of a) ≡ true → IsRoomy true a
few-room a e =
    let both = both-true (nat_le (a.first_string + length a.strings.now) 65535) (nat_le (length (map external_of a.externals.now)) 1048576) e in
    let same = length-map a.externals.now external_of in
    (strings (a.first_string + length a.strings.now) both.0, externals (length (map external_of a.externals.now)) (length a.externals.now) same both.1)
  where
    strings : (n : ℕ) → nat_le n 65535 ≡ true → n ≤ 2 ^ 32
    strings n h = let low : n ≤ 65535 = grind (arith, h) in omega (arith, low)

    externals : (m n : ℕ) → m ≡ n → nat_le m 1048576 ≡ true → n ≤ 2 ^ 32
    externals m n s h = let low : m ≤ 1048576 = grind (arith, h) in omega (arith, low, s)

pub at-once-room : (a : Around) (s : Sets) → is_made s ≡ is_few (around_of a) → IsRoomy (is_at_once s) a
at-once-room a sets.AtOnce e = few-room a (sym e)
at-once-room a sets.Counted e = tt
at-once-room a sets.Never e = tt

module _ (given : Given) (p : PlacedRule) where
  -- ---- too many strings or externals

  pub few-heavy : is_few (around given p) ≡ false → first (late_fault given p) checks ≡ None → IsTooHeavy given p
  few-heavy e h =
      let few = (few-counts given p h).1 in
      let same = length-map p.rule.strings (λ s. s.name) in
      let small : first_string_of p + length (string_names p.rule) ≤ 65535 = omega (arith, few, same) in
      let tested : nat_le (first_string_of p + length (string_names p.rule)) 65535 ≡ true = grind (arith, small) in
      let other : nat_le (length given.externals) 1048576 ≡ false = sym (ap (λ t. t && nat_le (length given.externals) 1048576) tested) ∙ e in
      let many : 1048576 < length given.externals = grind (arith, other) in
      too-many given p many

  -- ---- sets that are too heavy

  by-node : (o : Option NodeTree) → rule_node given p ≡ o → first (late_fault given p) checks ≡ None → 33554432 < set_weights (around given p) p.rule.condition → IsTooHeavy given p
  by-node None e h heavy =
      let some = has-kind given p h in
      let gone = ap (λ x. is_some (option_and_then (λ n. kind_of given.externals n []) x)) e in
      absurd cc
  by-node (Some n) e h heavy =
      let below = sets-weigh given.readers (around given p) p.rule.condition n [] [] e in
      let made : Some (with_node p n) ≡ checked_rule given p = sym (ap (option_map (with_node p)) e) in
      let more = weight-more given p.before p.unit p.space p.rule (with_node p n) made in
      is-over given p (omega (arith, below, more, heavy))

  pub sets-heavy : first (late_fault given p) checks ≡ None → 33554432 < set_weights (around given p) p.rule.condition → IsTooHeavy given p
  sets-heavy h heavy = by-node (rule_node given p) refl h heavy

  -- ---- the condition, where its sets are made

  abbrev Lights : Option Node → Type 0
  Lights o = MatchOption o (IsTooHeavy given p) (λ n. rule_node given p ≡ Some (node_tree n))

  pub exact-light : (exact : Bool) (o : Option Node) → exact ≡ true → option_map node_tree o ≡ shape_of exact given.readers (around given p) p.rule.condition []
      → first (late_fault given p) checks ≡ None → Lights o
  exact-light exact None t e h = absurd (not-none given p exact None e h refl)
  exact-light exact (Some n) t e h = exact-node given p exact (node_tree n) t e

  pub if-exact-light : (r : Result (Option Node) NoMemory) → IfOk r (λ o. option_map node_tree o ≡ shape_of true given.readers (around given p) p.rule.condition [])
      → first (late_fault given p) checks ≡ None → IfOk r Lights
  if-exact-light (Ok o) e h = exact-light true o refl e h
  if-exact-light (Err x) e h = tt
