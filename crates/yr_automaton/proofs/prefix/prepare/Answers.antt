use Rattle.std.proofs.Common.{◌≡◌, ◌<◌, ◌≤◌, inl, inr, ℕ, zero, suc, List, length, take, arith, sym, ap, subst, ◌∙◌, get_or, Some, Contains, rules}
use Rattle.std.specs.Prelude.{slice_get}
use Rattle.std.proofs.lemmas.List.Sorted.{IsNonDecreasingBy-from_sort, IsNonDecreasingBy-from_sort_by_key, IsPermutation-sym, Contains-permutation, All-permutation, length_permutation}
use Rattle.yr_base.specs.declared.atom.Atom.{Atom}
use Rattle.yr_automaton.specs.Keys.{key_after}
use Rattle.yr_automaton.specs.Atoms.{word}
use Rattle.yr_automaton.specs.Prepared.{IsHome}
use Rattle.yr_automaton.proofs.PrepareLemmas.{times_permutation}
use Rattle.yr_automaton.proofs.ListLemmas.{has_at, some_inside}
use Rattle.yr_automaton.proofs.prefix.prepare.Goals as goal

pub distinct-requires : goal.distinct-requires
distinct-requires c =
    let up = IsNonDecreasingBy-from_sort (λ x. x) c.sort_unstable.new.self.items c.sort_unstable.ensures.sorted in
    let here : (i j : ℕ) → i ≤ j → j < length c.sort_unstable.new.self.items → get_or c.sort_unstable.new.self.items i 0 ≤ get_or c.sort_unstable.new.self.items j 0 = λ i j le lt. up i j 0 le lt in
    subst (λ l. (i j : ℕ) → i ≤ j → j < length l → get_or l i 0 ≤ get_or l j 0) (sym c.deref.ensures.value) here

pub returns : goal.returns
returns c =
    let k = c.in_ok-all.ensures in
    let d = c.in_ok-keys.ensures in
    let keys = c.in_ok-keys.keys.items in
    let all = c.in_ok-all.all.items in
    let numbered = c.in_ok-all.numbered.items in
    let after = c.sort_by_key.new.self.items in
    let moved = c.sort_by_key.ensures.permutation in
    let same : c.deref.result.now ≡ c.sort_unstable.new.self.items = c.deref.ensures.value in
    let into : (x : ℕ) → Contains all x → Contains keys x = λ x h. d.all x (subst (λ l. Contains l x) (sym same) (Contains-permutation all c.sort_unstable.new.self.items x c.sort_unstable.ensures.permutation h)) in
    let back : (x : ℕ) → Contains c.deref.result.now x → Contains all x = λ x h.
    Contains-permutation c.sort_unstable.new.self.items all x (IsPermutation-sym all c.sort_unstable.new.self.items c.sort_unstable.ensures.permutation) (subst (λ l. Contains l x) same h) in
    record {
      are = d.are;
      few = omega (arith, d.few, ap length same, c.sort_unstable.ensures.len, k.few);
      known = λ x h. elim (d.only x h) [ inl z ↦ inl z | inr f ↦ inr (k.sound x (back x f)) ];
      complete = λ i j a at le. whole c.args.atoms.now keys all d.are.some d.are.first into i j a at le (λ pos. k.complete i j a (some_inside c.args.atoms.now i a at) at pos le);
      count = length_permutation numbered after moved ∙ k.count;
      ones = λ i lt. times_permutation i numbered after moved ∙ k.ones i lt;
      zeros = λ i le. times_permutation i numbered after moved ∙ k.zeros i le;
      homes = All-permutation (IsHome c.args.atoms.now) numbered after moved k.homes;
      bytes = λ i a at. k.bytes i a (some_inside c.args.atoms.now i a at) at;
      sorted = IsNonDecreasingBy-from_sort_by_key (λ (p : ℕ × ℕ). p.0) after c.in_ok-sort_by_key.ensures.sorted (λ a r q called. search rules);
    } where
      whole : (atoms : List Atom) (keys all : List ℕ) → 0 < length keys → get_or keys 0 0 ≡ 0 → ((x : ℕ) → Contains all x → Contains keys x) → (i j : ℕ) (a : Atom) → slice_get atoms i ≡ Some a → j ≤ length (word a)
          → (0 < j → Contains all (key_after 0 (take j (word a)))) → Contains keys (key_after 0 (take j (word a)))
      whole atoms keys all some first into i zero a at le h = has_at keys 0 0 some first
      whole atoms keys all some first into i (suc j) a at le h = into (key_after 0 (take (suc j) (word a))) (h (omega arith))
