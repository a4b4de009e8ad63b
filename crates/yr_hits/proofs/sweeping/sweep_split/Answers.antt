use Rattle.std.proofs.Common.{◌+◌, ◌*◌, ◌≤◌, ℕ, List, OnOk, length, sym, ap, ◌∙◌, subst, arith}
use Rattle.std.specs.List.Sorted.{IsNonDecreasing}
use Rattle.std.proofs.lemmas.List.Sorted.{IsNonDecreasingBy-from_sort, length_permutation}
use Rattle.yr_image.specs.Views.{image_of}
use Rattle.yr_machine.specs.Budget.{hit_cost}
use Rattle.yr_hits.proofs.GrowLemmas.{on_ok}
use Rattle.yr_hits.specs.Gathering.{Grows}
use Rattle.yr_hits.specs.Sweeps.{AreHits, SpansOfAll}
use Rattle.yr_hits.proofs.SweepSplitLemmas.{sorted_hits, sorted_spans}
use Rattle.yr_hits.proofs.sweeping.sweep_split.Goals as goal

pub one_by_one-requires-clause-hits : goal.one_by_one-requires-clause-hits
one_by_one-requires-clause-hits g c = subst (AreHits c.args.hit.now) (sym c.as_slice-few.ensures.value) c.requires.hits

pub returns-then-count-lt4-clause-grows : goal.returns-then-count-lt4-clause-grows
returns-then-count-lt4-clause-grows g c =
    let hit = c.args.hit.now in
    subst (λ l. OnOk c.one_by_one.result (Grows (SpansOfAll hit l) hit.greatest c.args.list.now.items c.one_by_one.new.list.items)) c.as_slice-few.ensures.value c.one_by_one.ensures.grows

pub returns-then-count-lt4-clause-most_cost : goal.returns-then-count-lt4-clause-most_cost
returns-then-count-lt4-clause-most_cost g c =
    let hit = c.args.hit.now in
    let C : List ℕ → Type 0 = λ l. c.one_by_one.new.steps + length l ≤ c.args.steps.now + hit_cost (image_of hit.view.now) (length hit.file.now) hit.row * length l in
    subst C c.as_slice-few.ensures.value c.one_by_one.ensures.most_cost

pub in_a_walk-requires-clause-hits : goal.in_a_walk-requires-clause-hits
in_a_walk-requires-clause-hits g c =
    subst (AreHits c.args.hit.now) (sym c.as_slice-sorted.ensures.value) (sorted_hits c.args.hit.now c.args.hits.items c.sort_unstable.new.self.items c.sort_unstable.ensures.permutation c.requires.hits)

pub in_a_walk-requires-clause-ascending : goal.in_a_walk-requires-clause-ascending
in_a_walk-requires-clause-ascending g c =
    subst IsNonDecreasing (sym c.as_slice-sorted.ensures.value) (IsNonDecreasingBy-from_sort (λ x. x) c.sort_unstable.new.self.items c.sort_unstable.ensures.sorted)

pub in_a_walk-requires-clause-many : goal.in_a_walk-requires-clause-many
in_a_walk-requires-clause-many g c =
    let same = length_permutation c.args.hits.items c.sort_unstable.new.self.items c.sort_unstable.ensures.permutation in
    omega (arith, c.if-count-lt4.false, c.len-count.ensures, same, ap length c.as_slice-sorted.ensures.value)

pub returns-clause-grows : goal.returns-clause-grows
returns-clause-grows g c =
    let hit = c.args.hit.now in
    let sorted = c.sort_unstable.new.self.items in
    let a = c.args.list.now.items in
    let b = c.in_a_walk.new.list.items in
    let grown = subst (λ l. OnOk c.in_a_walk.result (Grows (SpansOfAll hit l) hit.greatest a b)) c.as_slice-sorted.ensures.value c.in_a_walk.ensures.grows in
    on_ok c.in_a_walk.result (sorted_spans hit c.args.hits.items sorted c.sort_unstable.ensures.permutation a b) grown

pub returns-clause-most_cost : goal.returns-clause-most_cost
returns-clause-most_cost g c =
    let hit = c.args.hit.now in
    let same = ap length c.as_slice-sorted.ensures.value ∙ length_permutation c.args.hits.items c.sort_unstable.new.self.items c.sort_unstable.ensures.permutation in
    let C : ℕ → Type 0 = λ n. c.in_a_walk.new.steps + n ≤ c.args.steps.now + hit_cost (image_of hit.view.now) (length hit.file.now) hit.row * n in
    subst C same c.in_a_walk.ensures.most_cost
