-- What a list of moves with their ends keeps.
use Rattle.std.proofs.Common.{◌≡◌, ℕ, zero, suc, ◌+◌, ◌<◌, ◌≤◌, inl, inr, List, [], ◌∷◌, ◌++◌, length, take, Option, Some, None, refl, sym, ap, ◌∙◌, subst, arith, length-set}
use Rattle.std.specs.Prelude.{slice_get, slice_set, replicate}
use Rattle.std.proofs.Math.Seq.{take-suc-set}
use Rattle.yr_walks.specs.declared.carried.Carried.{Carried}
use Rattle.yr_walks.specs.Carried.{Holds, IsKept, unseen}
use Rattle.yr_walks.proofs.ListLemmas.{get_taken, taken_get, get_within, set_same, set_other, same_or_not, below_or_last}

count_set : (ends : List (Option ℕ)) (m j : ℕ) → slice_get ends m ≡ Some None → unseen (slice_set ends m (Some j)) + 1 ≡ unseen ends
count_set [] m j e = cc
count_set (Some i ∷ ends) zero j e = cc
count_set (None ∷ ends) zero j e = refl
count_set (Some i ∷ ends) (suc m) j e = count_set ends m j e
count_set (None ∷ ends) (suc m) j e = let h = count_set ends m j e in omega (arith, h)

pub kept_room : (list : List Carried) (len : ℕ) (ends : List (Option ℕ)) (m : ℕ) → IsKept list len ends → slice_get ends m ≡ Some None → len < length list
kept_room list len ends m kept e = omega (arith, kept.size, kept.count, count_set ends m 0 e)

pub front_add : (list : List Carried) (len : ℕ) (c : Carried) → len < length list → take (len + 1) (slice_set list len c) ≡ take len list ++ c ∷ []
front_add list len c room = let s : len + 1 ≡ suc len = omega arith in ap (λ k. take k (slice_set list len c)) s ∙ take-suc-set list len c room

pub kept_add : (list : List Carried) (len : ℕ) (ends : List (Option ℕ)) (m j : ℕ) → IsKept list len ends → slice_get ends m ≡ Some None →
    IsKept (slice_set list len (record { by = m; end = j })) (len + 1) (slice_set ends m (Some j))
kept_add list len ends m j kept none =
    let c : Carried = record { by = m; end = j } in
    let count = count_set ends m j none in
    let room : len < length list = kept_room list len ends m kept none in
    let wide : length (slice_set ends m (Some j)) ≡ length ends = simp length-set in
    let long : length (slice_set list len c) ≡ length list = simp length-set in
    let here : slice_get (slice_set list len c) len ≡ Some c = set_same list len c room in
    let there : slice_get (slice_set ends m (Some j)) m ≡ Some (Some j) = set_same ends m (Some j) (get_within ends m None none) in
    record {
      size = omega (arith, wide, long, kept.size);
      count = omega (arith, wide, count, kept.count);
      held = λ q n i lt e. elim (below_or_last q len lt) [
        | inl before ↦
            let old : slice_get list q ≡ Some (record { by = n; end = i }) = sym (set_other list len q c (λ s. omega (arith, before, s))) ∙ e in
            let was = kept.held q n i before old in
            let other : (m ≡ n) → ⊥ = λ s. let wrong : Some None ≡ Some (Some i) = sym none ∙ ap (slice_get ends) s ∙ was in cc wrong in
            set_other ends m n (Some j) other ∙ was
        | inr last ↦
            let same : Some c ≡ Some (record { by = n; end = i }) = sym here ∙ ap (slice_get (slice_set list len c)) (sym last) ∙ e in
            let alike : c ≡ record { by = n; end = i } = cc same in
            let by : m ≡ n = ap (λ (x : Carried). x.by) alike in
            let end : j ≡ i = ap (λ (x : Carried). x.end) alike in
            ap (slice_get (slice_set ends m (Some j))) (sym by) ∙ there ∙ ap (λ x. Some (Some x)) end
      ];
      marked = λ n i e. elim (same_or_not m n) [
        | inl s ↦
            let same : Some (Some j) ≡ Some (Some i) = sym there ∙ ap (slice_get (slice_set ends m (Some j))) s ∙ e in
            let end : j ≡ i = cc same in
            (len, omega arith, here ∙ ap (λ x. Some (record { by = x; end = j })) s ∙ ap (λ x. Some (record { by = n; end = x })) end)
        | inr other ↦
            let was : slice_get ends n ≡ Some (Some i) = sym (set_other ends m n (Some j) other) ∙ e in
            let o = kept.marked n i was in
            (o.0, omega (arith, o.1), set_other list len o.0 c (λ s. omega (arith, o.1, s)) ∙ o.2)
      ];
    }

count_all : (n : ℕ) → unseen (replicate n None) ≡ n
count_all zero = refl
count_all (suc n) = omega (arith, count_all n)

length_all : (n : ℕ) → length (replicate {A = Option ℕ} n None) ≡ n
length_all zero = refl
length_all (suc n) = omega (arith, length_all n)

none_marked : (n m j : ℕ) → slice_get (replicate n None) m ≡ Some (Some j) → ⊥
none_marked zero m j e = cc
none_marked (suc n) zero j e = cc
none_marked (suc n) (suc m) j e = none_marked n m j e

pub kept_new : (list : List Carried) (ends : List (Option ℕ)) (n : ℕ) → length list ≡ n → ends ≡ replicate n None → IsKept list 0 ends
kept_new list ends n size e =
    let K : List (Option ℕ) → Type 0 = λ s. IsKept list 0 s in
    subst K (sym e) (record {
      size = size ∙ sym (length_all n);
      count = omega (arith, count_all n, length_all n);
      held = λ q m j lt at. absurd (omega (arith, lt));
      marked = λ m j at. absurd (none_marked n m j at);
    })

-- where no move from n on carries an end, all but n carry none
unseen_from : (ends : List (Option ℕ)) (n : ℕ) → ((m j : ℕ) → n ≤ m → slice_get ends m ≡ Some (Some j) → ⊥) → length ends ≤ unseen ends + n
unseen_from [] n none = omega arith
unseen_from (Some j ∷ ends) zero none = absurd (none 0 j (omega arith) refl)
unseen_from (None ∷ ends) zero none = let h = unseen_from ends zero (λ m j le e. none (suc m) j (omega arith) e) in omega (arith, h)
unseen_from (Some j ∷ ends) (suc n) none = let h = unseen_from ends n (λ m i le e. none (suc m) i (omega (arith, le)) e) in omega (arith, h)
unseen_from (None ∷ ends) (suc n) none = let h = unseen_from ends n (λ m j le e. none (suc m) j (omega (arith, le)) e) in omega (arith, h)

unseen_most : (ends : List (Option ℕ)) → unseen ends ≤ length ends
unseen_most [] = omega arith
unseen_most (Some j ∷ ends) = omega (arith, unseen_most ends)
unseen_most (None ∷ ends) = omega (arith, unseen_most ends)

-- what the fields keep of the members
pub kept_holds : (list : List Carried) (len : ℕ) (ends : List (Option ℕ)) (m j : ℕ) → IsKept list len ends → slice_get ends m ≡ Some (Some j) → Holds (take len list) m j
kept_holds list len ends m j kept e = let o = kept.marked m j e in (o.0, taken_get len list o.0 (record { by = m; end = j }) o.1 o.2)

pub holds_kept : (list : List Carried) (len : ℕ) (ends : List (Option ℕ)) (m j : ℕ) → IsKept list len ends → Holds (take len list) m j → slice_get ends m ≡ Some (Some j)
holds_kept list len ends m j kept h = let t = get_taken len list h.0 (record { by = m; end = j }) h.1 in kept.held h.0 m j t.0 t.1

-- members below n are at most n
pub few_members : (list : List Carried) (len : ℕ) (ends : List (Option ℕ)) (n : ℕ) → IsKept list len ends → ((m j : ℕ) → Holds (take len list) m j → m < n) → len ≤ n
few_members list len ends n kept below =
    let h = unseen_from ends n (λ m j le e. absurd (omega (arith, le, below m j (kept_holds list len ends m j kept e)))) in omega (arith, h, kept.count)

-- the members before k are unmarked
pub record Unmarks (list : List Carried) (len k : ℕ) (ends : List (Option ℕ)) : Type 0 where
  pub size : length list ≡ length ends
  pub few : len ≤ length list
  pub below : (q m j : ℕ) → q < len → slice_get list q ≡ Some (record { by = m; end = j }) → m < length ends
  pub marked : (m j : ℕ) → slice_get ends m ≡ Some (Some j) → (q : ℕ) × (k ≤ q) × (q < len) × (slice_get list q ≡ Some (record { by = m; end = j }))

pub unmarks_start : (list : List Carried) (len : ℕ) (ends : List (Option ℕ)) → IsKept list len ends → Unmarks list len 0 ends
unmarks_start list len ends kept = record {
  size = kept.size;
  few = omega (arith, kept.size, kept.count);
  below = λ q m j lt e. get_within ends m (Some j) (kept.held q m j lt e);
  marked = λ m j e. let o = kept.marked m j e in (o.0, omega arith, o.1, o.2);
}

pub unmarks_more : (list : List Carried) (len k : ℕ) (ends : List (Option ℕ)) (c : Carried) → Unmarks list len k ends → slice_get list k ≡ Some c → Unmarks list len (k + 1) (slice_set ends c.by None)
unmarks_more list len k ends c u at =
    let m0 = c.by in
    let wide : length (slice_set ends m0 None) ≡ length ends = simp length-set in
    record {
      size = u.size ∙ sym wide;
      few = u.few;
      below = λ q m j lt e. omega (arith, wide, u.below q m j lt e);
      marked = λ m j e. elim (same_or_not m0 m) [
        | inl s ↦
            let lt : m < length ends = omega (arith, wide, get_within (slice_set ends m0 None) m (Some j) e) in
            let none : slice_get (slice_set ends m0 None) m ≡ Some None = ap (λ x. slice_get (slice_set ends m0 None) x) (sym s) ∙ set_same ends m0 None (omega (arith, s, lt)) in
            let wrong : Some None ≡ Some (Some j) = sym none ∙ e in cc wrong
        | inr other ↦
            let o = u.marked m j (sym (set_other ends m0 m None other) ∙ e) in
            let away : (o.0 ≡ k) → ⊥ = λ s.
            let same : Some c ≡ Some (record { by = m; end = j }) = sym at ∙ ap (slice_get list) (sym s) ∙ o.3 in
            let alike : c ≡ record { by = m; end = j } = cc same in
            other (ap (λ (x : Carried). x.by) alike)
            in
            (o.0, omega (arith, o.1, away), o.2, o.3)
      ];
    }

pub unmarks_all : (list : List Carried) (len k : ℕ) (ends : List (Option ℕ)) → Unmarks list len k ends → len ≤ k → IsKept list 0 ends
unmarks_all list len k ends u le =
    let h = unseen_from ends 0 (λ m j least e. let o = u.marked m j e in omega (arith, o.1, o.2, le)) in
    record {
      size = u.size;
      count = omega (arith, h, unseen_most ends);
      held = λ q m j lt at. absurd (omega (arith, lt));
      marked = λ m j e. let o = u.marked m j e in absurd (omega (arith, o.1, o.2, le));
    }
