use Rattle.std.proofs.Common.{◌≡◌, ◌<◌, ◌≤◌, ℕ, List, length, get_or, inl, inr, Err, Result, MatchResult, subst, arith, Contains}
use Rattle.std.proofs.lemmas.List.Sorted.{searched}
use Rattle.std.proofs.lemmas.Bool.{cases_lt}
use Rattle.yr_automaton.proofs.ListLemmas.{rises_le, at_has}
use Rattle.yr_automaton.proofs.BuildLemmas.{suffix_start, suffix_step, suffix_found}
use Rattle.yr_automaton.proofs.key.failure_of.Goals as goal

abbrev Searched : List ℕ → ℕ → Result ℕ ℕ → Type 0
Searched xs x r = MatchResult r (λ i. (i < length xs) × (get_or xs i 0 ≡ x)) (λ i. (i ≤ length xs) × ((k : ℕ) → k < i → get_or xs k 0 < x) × ((k : ℕ) → i ≤ k → k < length xs → x < get_or xs k 0))

none : (xs : List ℕ) (x : ℕ) (r : Result ℕ ℕ) → Searched xs x r → (i : ℕ) → r ≡ Err i → Contains xs x → ⊥
none xs x r found i e c =
    let gap : Searched xs x (Err i) = subst (Searched xs x) e found in
    let h = at_has xs x c in
    elim (cases_lt h.0 i) [ inl b ↦ omega (arith, gap.1 h.0 b, h.2) | inr a ↦ omega (arith, gap.2 h.0 a h.1, h.2) ]

some : (xs : List ℕ) (x : ℕ) → 0 < length xs → get_or xs 0 0 ≡ 0 → (r : Result ℕ ℕ) → Searched xs x r → (i : ℕ) → r ≡ Err i → 0 < x
some xs x pos first r found i e =
    let gap : Searched xs x (Err i) = subst (Searched xs x) e found in
    elim (cases_lt 0 i) [ inl b ↦ omega (arith, gap.1 0 b) | inr a ↦ absurd (omega (arith, gap.2 0 a pos, first)) ]

pub loop-place-init : goal.loop-place-init
loop-place-init c = record {
  less = c.without_first-rest.ensures.less c.requires.some;
  left = suffix_start c.args.keys.now c.args.key c.without_first-rest.result c.requires.some c.without_first-rest.ensures.is;
}

pub loop-place-smaller : goal.loop-place-smaller
loop-place-smaller c = c.without_first-rest-in-Err.ensures.less (some c.args.keys.now c.loop-place.rest c.requires.keys.some c.requires.keys.first c.binary_search.result
    (searched c.args.keys.now c.loop-place.rest c.binary_search.result c.binary_search.ensures.position (rises_le c.args.keys.now c.requires.keys.rises)) c.in-Err.field-0 c.in-Err.is)

pub loop-place-preserved : goal.loop-place-preserved
loop-place-preserved c =
    let keys = c.args.keys.now in
    let rest = c.loop-place.rest in
    let found = searched keys rest c.binary_search.result c.binary_search.ensures.position (rises_le keys c.requires.keys.rises) in
    let pos = some keys rest c.requires.keys.some c.requires.keys.first c.binary_search.result found c.in-Err.field-0 c.in-Err.is in
    record {
      less = omega (arith, c.without_first-rest-in-Err.ensures.less pos, c.loop-place.invariant.less);
      left = suffix_step keys c.args.key rest c.without_first-rest-in-Err.result c.loop-place.invariant.left
          (none keys rest c.binary_search.result found c.in-Err.field-0 c.in-Err.is) pos c.without_first-rest-in-Err.ensures.is;
    }

pub returns-in-Ok : goal.returns-in-Ok
returns-in-Ok c =
    let keys = c.args.keys.now in
    let rest = c.loop-place.rest in
    let found = searched keys rest c.binary_search.result c.binary_search.ensures.position (rises_le keys c.requires.keys.rises) in
    let at : (c.in-Ok.place < length keys) × (get_or keys c.in-Ok.place 0 ≡ rest) = subst (Searched keys rest) c.in-Ok.is found in
    record {
      inside = at.0;
      less = omega (arith, at.1, c.loop-place.invariant.less);
      is = suffix_found keys c.args.key rest c.in-Ok.place c.loop-place.invariant.left at.1;
    }
