use Rattle.std.proofs.Common.{◌≤◌, map, List, ℕ, Bor, length, rules, subst, sym, ap, ◌∙◌, All}
use Rattle.std.specs.List.Sorted.{IsNonDecreasingBy}
use Rattle.std.proofs.lemmas.List.Sorted.{All-permutation, IsNonDecreasingBy-from_sort, IsNonDecreasingBy-from_sort_by_key}
use Rattle.yr_syntax.specs.Condition.{item_of}
use Rattle.yr_name_tables.specs.declared.ranges.Range.{Range}
use Rattle.yr_name_tables.specs.Order.{is_covered, kept}
use Rattle.yr_name_tables.proofs.NameLemmas.{length-map'}
use Rattle.yr_name_tables.proofs.CountLemmas.{meant-sorted}
use Rattle.yr_name_tables.proofs.ranges.numbers_ordered.Goals as goal

pub swept-requires-clause-ascending : goal.swept-requires-clause-ascending
swept-requires-clause-ascending c =
    subst (λ (l : List Range). IsNonDecreasingBy (λ r. r.low) l) (sym c.deref.ensures.value)
    (IsNonDecreasingBy-from_sort_by_key (λ (r : Range). r.low) _ c.sort_unstable_by_key.ensures.sorted (λ a r q k. search rules))

pub swept-requires-clause-within : goal.swept-requires-clause-within
swept-requires-clause-within c =
    let fits = λ (r : Range). r.high ≤ length c.args.order.now in
    subst (λ (l : List Range). All fits l) (sym c.deref.ensures.value)
    (All-permutation fits c.in_ok-ranges.ranges.items c.sort_unstable_by_key.new.self.items c.sort_unstable_by_key.ensures.permutation c.in_ok-ranges.ensures.within)

pub returns : goal.returns
returns c =
    let order = c.args.order.now in
    meant-sorted (map item_of c.args.items.now) (map (λ (n : Bor (List ℕ)). n.now) c.args.names.now) order c.in_ok-met.met.items c.sort_unstable.new.self.items c.in_ok-ranges.ranges.items
    c.sort_unstable_by_key.new.self.items c.requires.order (c.requires.whole ∙ sym (length-map' (λ (n : Bor (List ℕ)). n.now) c.args.names.now)) c.in_ok-ranges.ensures c.sort_unstable_by_key.ensures.permutation
    (c.in_ok-met.ensures ∙ ap (λ l. kept (is_covered l) 0 order) c.deref.ensures.value) c.sort_unstable.ensures.permutation (IsNonDecreasingBy-from_sort (λ k. k) c.sort_unstable.new.self.items c.sort_unstable.ensures.sorted)
