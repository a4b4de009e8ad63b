use Rattle.std.proofs.Common.{true, false, sym, subst, rules, Bool}
use Rattle.std.specs.List.Sorted.{IsNonDecreasingBy}
use Rattle.std.proofs.lemmas.List.Sorted.{IsNonDecreasingBy-from_sort_by_key}
use Rattle.yr_hits.specs.Gathering.{order_of}
use Rattle.yr_search.proofs.settling.sort.Goals as goal

pub returns-then-greatest-clause-sorted : goal.returns-then-greatest-clause-sorted
returns-then-greatest-clause-sorted c =
    let after = c.sort_unstable_by_key.new.self.items in
    let P : Bool → Type 0 = λ g. IsNonDecreasingBy (order_of g) after in
    subst P (sym c.if-greatest.true) (IsNonDecreasingBy-from_sort_by_key (order_of true) after c.sort_unstable_by_key.ensures.sorted (λ a r f' q. search rules))

pub returns-clause-sorted : goal.returns-clause-sorted
returns-clause-sorted c =
    let after = c.sort_unstable_by_key-2.new.self.items in
    let P : Bool → Type 0 = λ g. IsNonDecreasingBy (order_of g) after in
    subst P (sym c.if-greatest.false) (IsNonDecreasingBy-from_sort_by_key (order_of false) after c.sort_unstable_by_key-2.ensures.sorted (λ a r f' q. search rules))
