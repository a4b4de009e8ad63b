-- What a set of moves keeps.
use Rattle.std.proofs.Common.{◌≡◌, ℕ, zero, suc, ◌+◌, ◌<◌, ◌≤◌, ◌⊎◌, inl, inr, Bool, true, false, List, [], ◌∷◌, ◌++◌, length, take, Some, Contains, All, refl, sym, ap, ◌∙◌, subst, arith, get_or, length-set}
use Rattle.std.specs.Prelude.{slice_get, slice_set, replicate}
use Rattle.std.proofs.Math.Seq.{take-suc-set}
use Rattle.std.proofs.lemmas.List.{length-take-le, get_or_default, get_or-take}
use Rattle.std.proofs.lemmas.List.Elements.{All-nil, All-push, All-get_or, Contains-append_left, Contains-push}
use Rattle.yr_moves.specs.Marked.{IsKept, unseen}

count_set : (seen : List Bool) (m : ℕ) (d : Bool) → m < length seen → get_or seen m d ≡ false → unseen (slice_set seen m true) + 1 ≡ unseen seen
count_set [] m d lt e = absurd (omega arith)
count_set (true ∷ seen) zero d lt e = cc
count_set (false ∷ seen) zero d lt e = refl
count_set (true ∷ seen) (suc m) d lt e = count_set seen m d (omega arith) e
count_set (false ∷ seen) (suc m) d lt e = let h = count_set seen m d (omega arith) e in omega (arith, h)

set_cases : (seen : List Bool) (m q : ℕ) → slice_get (slice_set seen m true) q ≡ Some true → (q ≡ m) ⊎ (slice_get seen q ≡ Some true)
set_cases [] m q e = inr e
set_cases (b ∷ seen) zero zero e = inl refl
set_cases (b ∷ seen) zero (suc q) e = inr e
set_cases (b ∷ seen) (suc m) zero e = inr e
set_cases (b ∷ seen) (suc m) (suc q) e = elim (set_cases seen m q e) [ inl h ↦ inl (ap suc h) | inr h ↦ inr h ]

pub kept_add : (list : List ℕ) (len : ℕ) (seen : List Bool) (m : ℕ) (d : Bool) → IsKept list len seen → m < length seen → get_or seen m d ≡ false →
    IsKept (slice_set list len m) (len + 1) (slice_set seen m true)
kept_add list len seen m d kept lt e =
    let count = count_set seen m d lt e in
    let room : len < length list = omega (arith, kept.size, kept.count, count) in
    let s : len + 1 ≡ suc len = omega arith in
    let front : take (len + 1) (slice_set list len m) ≡ take len list ++ m ∷ [] = ap (λ k. take k (slice_set list len m)) s ∙ take-suc-set list len m room in
    let wide : length (slice_set seen m true) ≡ length seen = simp length-set in
    let long : length (slice_set list len m) ≡ length list = simp length-set in
    let Below : ℕ → ℕ → Type 0 = λ n q. q < n in
    record {
      size = omega (arith, wide, long, kept.size);
      count = omega (arith, wide, count, kept.count);
      below =
          let A : List ℕ → Type 0 = λ l. All (Below (length (slice_set seen m true))) l in
          let B : ℕ → Type 0 = λ n. All (Below n) (take len list ++ m ∷ []) in
          subst A (sym front) (subst B (sym wide) (All-push (Below (length seen)) (take len list) m kept.below lt));
      marked = λ q h.
          let C : List ℕ → Type 0 = λ l. Contains l q in
          subst C (sym front) (elim (set_cases seen m q h) [
            | inl same ↦ let D : ℕ → Type 0 = λ x. Contains (take len list ++ m ∷ []) x in subst D (sym same) (Contains-push (take len list) m)
            | inr old ↦ Contains-append_left (take len list) (m ∷ []) q (kept.marked q old)
          ]);
    }

count_all : (n : ℕ) → unseen (replicate n false) ≡ n
count_all zero = refl
count_all (suc n) = omega (arith, count_all n)

length_all : (n : ℕ) → length (replicate n false) ≡ n
length_all zero = refl
length_all (suc n) = omega (arith, length_all n)

none_marked : (n q : ℕ) → slice_get (replicate n false) q ≡ Some true → ⊥
none_marked zero q e = cc
none_marked (suc n) zero e = cc
none_marked (suc n) (suc q) e = none_marked n q e

pub kept_clear : (list : List ℕ) (seen : List Bool) (n : ℕ) → length list ≡ n → seen ≡ replicate n false → IsKept list 0 seen
kept_clear list seen n size e =
    let K : List Bool → Type 0 = λ s. IsKept list 0 s in
    subst K (sym e) (record {
      size = size ∙ sym (length_all n);
      count = omega (arith, count_all n, length_all n);
      below = All-nil (λ m. m < length (replicate n false));
      marked = λ q h. absurd (none_marked n q h);
    })

pub kept_room : (list : List ℕ) (len : ℕ) (seen : List Bool) (m : ℕ) (d : Bool) → IsKept list len seen → m < length seen → get_or seen m d ≡ false → len < length list
kept_room list len seen m d kept lt e = omega (arith, kept.size, kept.count, count_set seen m d lt e)

pub front_add : (list : List ℕ) (len m : ℕ) → len < length list → take (len + 1) (slice_set list len m) ≡ take len list ++ m ∷ []
front_add list len m room = let s : len + 1 ≡ suc len = omega arith in ap (λ k. take k (slice_set list len m)) s ∙ take-suc-set list len m room

-- where no flag from n on is set, all but n are not set
unseen_from : (seen : List Bool) (n : ℕ) → ((q : ℕ) → n ≤ q → slice_get seen q ≡ Some true → ⊥) → length seen ≤ unseen seen + n
unseen_from [] n none = omega arith
unseen_from (true ∷ seen) zero none = absurd (none 0 (omega arith) refl)
unseen_from (false ∷ seen) zero none = let h = unseen_from seen zero (λ q le e. none (suc q) (omega arith) e) in omega (arith, h)
unseen_from (true ∷ seen) (suc n) none = let h = unseen_from seen n (λ q le e. none (suc q) (omega (arith, le)) e) in omega (arith, h)
unseen_from (false ∷ seen) (suc n) none = let h = unseen_from seen n (λ q le e. none (suc q) (omega (arith, le)) e) in omega (arith, h)

unseen_most : (seen : List Bool) → unseen seen ≤ length seen
unseen_most [] = omega arith
unseen_most (true ∷ seen) = omega (arith, unseen_most seen)
unseen_most (false ∷ seen) = omega (arith, unseen_most seen)

-- members below n are at most n
pub few_members : (list : List ℕ) (len : ℕ) (seen : List Bool) (n : ℕ) → IsKept list len seen → ((x : ℕ) → Contains (take len list) x → x < n) → len ≤ n
few_members list len seen n kept below =
    let h = unseen_from seen n (λ q le e. absurd (omega (arith, le, below q (kept.marked q e)))) in omega (arith, h, kept.count)

-- the members before k are unmarked
pub record Unmarks (list : List ℕ) (len k : ℕ) (seen : List Bool) : Type 0 where
  pub size : length list ≡ length seen
  pub few : len ≤ length list
  pub below : All (λ m. m < length seen) (take len list)
  pub marked : (m : ℕ) → slice_get seen m ≡ Some true → (q : ℕ) × (k ≤ q) × (q < len) × (get_or list q 0 ≡ m)

pub unmarks_start : (list : List ℕ) (len : ℕ) (seen : List Bool) → IsKept list len seen → Unmarks list len 0 seen
unmarks_start list len seen kept = record {
  size = kept.size;
  few = omega (arith, kept.size, kept.count);
  below = kept.below;
  marked = λ m e.
      let c = kept.marked m e in
      let few : len ≤ length list = omega (arith, kept.size, kept.count) in
      let lt : c.0 < len = omega (arith, c.1, length-take-le len list few) in
      (c.0, omega arith, lt, sym (get_or_default list c.0 m 0 (omega (arith, lt, few))) ∙ sym (get_or-take len list c.0 m lt) ∙ c.2);
}

pub unmarks_place : (list : List ℕ) (len k : ℕ) (seen : List Bool) → Unmarks list len k seen → k < len → get_or list k 0 < length seen
unmarks_place list len k seen u lt =
    let front = length-take-le len list u.few in
    let b = All-get_or (λ m. m < length seen) (take len list) k 0 (omega (arith, front, lt)) u.below in omega (arith, b, get_or-take len list k 0 lt)

unset_cases : (seen : List Bool) (m q : ℕ) → slice_get (slice_set seen m false) q ≡ Some true → ((q ≡ m) → ⊥) × (slice_get seen q ≡ Some true)
unset_cases [] m q e = cc e
unset_cases (b ∷ seen) zero zero e = cc e
unset_cases (b ∷ seen) zero (suc q) e = (λ s. omega (arith, s), e)
unset_cases (b ∷ seen) (suc m) zero e = (λ s. omega (arith, s), e)
unset_cases (b ∷ seen) (suc m) (suc q) e = let r = unset_cases seen m q e in (λ s. r.0 (omega (arith, s)), r.1)

pub unmarks_more : (list : List ℕ) (len k : ℕ) (seen : List Bool) → Unmarks list len k seen → k < len → Unmarks list len (k + 1) (slice_set seen (get_or list k 0) false)
unmarks_more list len k seen u lt =
    let m0 = get_or list k 0 in
    let wide : length (slice_set seen m0 false) ≡ length seen = simp length-set in
    record {
      size = u.size ∙ sym wide;
      few = u.few;
      below = let A : ℕ → Type 0 = λ n. All (λ m. m < n) (take len list) in subst A (sym wide) u.below;
      marked = λ m e.
          let r = unset_cases seen m0 m e in
          let o = u.marked m r.1 in
          let other : (o.0 ≡ k) → ⊥ = λ s. r.0 (sym o.3 ∙ ap (λ q. get_or list q 0) s) in
          (o.0, omega (arith, o.1, other), o.2, o.3);
    }

pub unmarks_all : (list : List ℕ) (len k : ℕ) (seen : List Bool) → Unmarks list len k seen → len ≤ k → IsKept list 0 seen
unmarks_all list len k seen u le =
    let h = unseen_from seen 0 (λ q least e. let o = u.marked q e in omega (arith, o.1, o.2, le)) in
    record {
      size = u.size;
      count = omega (arith, h, unseen_most seen);
      below = All-nil (λ m. m < length seen);
      marked = λ m e. let o = u.marked m e in absurd (omega (arith, o.1, o.2, le));
    }
