use Rattle.std.proofs.Common.{◌≡◌, map, List, [], ◌∷◌, length, drop, ◌<◌, refl, arith, sym, ap, ◌∙◌, Some, None, Option}
use Rattle.yr_base.specs.declared.value.Kind.{Kind}
use Rattle.yr_base.specs.declared.value.Kind.TheVariants as kind
use Rattle.yr_rules.specs.Kinds as spec
use Rattle.yr_rules.specs.Loops.{Loop}
use Rattle.yr_rules.specs.NodeTree.{tree_of, items_of, domain_of, OverList}
use Rattle.yr_rules.specs.Rules.{PlainExternal, external_of}
use Rattle.yr_rules.specs.declared.node.Node.{Node}
use Rattle.yr_rules.proofs.CallerLemmas.{domain_of-List}
use Rattle.yr_typing.specs.Open.{open_of}
use Rattle.yr_typing.specs.Prefixes.{kind_behind}
use Rattle.yr_typing.proofs.node_kind.+kinds.Goals as goal

-- a list with an item
list-kind : (externals : List PlainExternal) (ns : List Node) (loops : List Loop) → 0 < length ns
    → spec.items_kind externals (items_of (map tree_of ns)) loops ≡ spec.domain_kind externals (OverList (items_of (map tree_of ns))) loops
list-kind externals [] loops h = absurd (omega arith)
list-kind externals (n ∷ ns) loops h = refl

-- no prefix leaves each kind as it is
behind-none : (k : Option Kind) → kind_behind (record { number = Some kind.Number; flag = Some kind.Flag; text = Some kind.Text }) k ≡ k
behind-none (Some kind.Number) = refl
behind-none (Some kind.Flag) = refl
behind-none (Some kind.Text) = refl
behind-none None = refl

pub domain_kind-returns-else-is_empty : goal.domain_kind-returns-else-is_empty
domain_kind-returns-else-is_empty t c =
    let E = map external_of c.args.externals.now in
    let L = open_of c.args.loops.now in
    let some : 0 < length c.in-List.items.items = grind (arith, c.in-List.items.ok.0) in
    c.items_kind.ensures
    ∙ ap (λ (ns : List Node). spec.items_kind E (items_of (map tree_of ns)) L) c.deref-else-is_empty.ensures.value
    ∙ list-kind E c.in-List.items.items L some
    ∙ ap (λ d. spec.domain_kind E d L) (sym (ap domain_of c.in-List.is ∙ domain_of-List c.in-List.items))

pub items_kind-returns : goal.items_kind-returns
items_kind-returns t c =
    let none : c.loop-i.i ≡ 0 = omega arith in
    c.loop-i.invariant ∙ ap (λ i. spec.items_kind (map external_of c.args.externals.now) (items_of (map tree_of (drop i c.args.items.now))) (open_of c.args.loops.now)) none

pub prefixes_kind-loop-operand-init : goal.prefixes_kind-loop-operand-init
prefixes_kind-loop-operand-init t c =
    let k = spec.kind_of (map external_of c.args.externals.now) (tree_of c.args.inner.now) (open_of c.args.loops.now) in
    record {
      whole = c.then-run.ensures k ∙ ap (λ r. kind_behind r (spec.prefix_kind c.args.op k)) c.no_prefix.ensures ∙ behind-none (spec.prefix_kind c.args.op k);
      low = omega arith;
    }
