-- Names in the alphabetical order, and what comes before the names that an item means.
use Rattle.std.proofs.Common.{◌≡◌, ℕ, zero, suc, ◌+◌, ◌-◌, ◌<◌, ◌≤◌, ◌&&◌, Bool, true, false, not, List, [], ◌∷◌, ◌++◌, map, length, take, get_or, refl, sym, ap, subst, ◌∙◌, arith, nat_lt, nat_le, ◌⊎◌, inl, inr, Bor, Ordering, Less, Equal, Greater, length-append}
use Rattle.std.specs.Ordering.{is_eq, is_gt, nat_cmp, ordering_then, ordering_reverse}
use Rattle.std.specs.Cmp.Lexicographic.{slice_cmp}
use Rattle.std.specs.List.{insert, range_with_len, All}
use Rattle.std.specs.List.Sorted.{IsPermutation}
use Rattle.std.proofs.lemmas.Cmp.{nat_list_cmp_total, alike_right, tied_itself}
use Rattle.std.proofs.lemmas.Map.Text.{is_eq-slice_cmp}
use Rattle.std.proofs.lemmas.Bool.{cases_lt, cases_eq, lt-ltb, le-ltb, le-leb, lt-leb}
use Rattle.std.proofs.lemmas.List.{get_or_append_left, get_or-map}
use Rattle.std.proofs.lemmas.List.FromFn.{length-range_with_len, get_or-range_with_len}
use Rattle.std.proofs.lemmas.List.Edits.{length-insert, get_or-insert_below, get_or-insert_at, get_or-insert_above}
use Rattle.std.proofs.lemmas.List.Sorted.{All-permutation, IsPermutation-cons, IsPermutation-insert, IsPermutation-to_front, IsPermutation-trans}
use Rattle.yr_name_tables.specs.Names.{Name, means}
use Rattle.yr_name_tables.specs.Order.{name_at, Ascends, IsOrder, IsPlace, comes_before, precedes, stands}
use Rattle.yr_name_tables.proofs.NameLemmas.{bytes_eq-turned, length-map'}

-- ---- beginnings of names keep their order

taken-ascends : (k : ℕ) (a b : Name) → Ascends a b → Ascends (take k a) (take k b)
taken-ascends zero a b h = refl
taken-ascends (suc k) [] [] h = refl
taken-ascends (suc k) [] (y ∷ b) h = refl
taken-ascends (suc k) (x ∷ a) [] h = h
taken-ascends (suc k) (x ∷ a) (y ∷ b) h = by (nat_cmp x y) h (taken-ascends k a b)
  where
    by : (o : Ordering) → is_gt (ordering_then o (slice_cmp nat_cmp a b)) ≡ false → (Ascends a b → Ascends (take k a) (take k b)) → is_gt (ordering_then o (slice_cmp nat_cmp (take k a) (take k b))) ≡ false
    by Less g rest = refl
    by Equal g rest = rest g
    by Greater g rest = g

-- ---- what holds of a name holds of those before it

precedes-kept : (through : Bool) (a b f : Name) → Ascends a b → precedes through (slice_cmp nat_cmp b f) ≡ true → precedes through (slice_cmp nat_cmp a f) ≡ true
precedes-kept through a b f up h = by (slice_cmp nat_cmp a b) refl up
  where
    by : (o : Ordering) → slice_cmp nat_cmp a b ≡ o → is_gt o ≡ false → precedes through (slice_cmp nat_cmp a f) ≡ true
    by Greater e g = cc
    by Equal e g = ap (precedes through) (nat_list_cmp_total.congr a b f e) ∙ h
    by Less e g = below (slice_cmp nat_cmp b f) refl h
      where
        below : (p : Ordering) → slice_cmp nat_cmp b f ≡ p → precedes through p ≡ true → precedes through (slice_cmp nat_cmp a f) ≡ true
        below Less d q = ap (precedes through) (nat_list_cmp_total.trans a b f e d)
        below Equal d q = ap (precedes through) (sym (alike_right nat_list_cmp_total b f a d) ∙ e)
        below Greater d q = cc

before-kept : (front : Name) (wild through : Bool) (a b : Name) → Ascends a b → comes_before front wild through b ≡ true → comes_before front wild through a ≡ true
before-kept front true through a b up h = precedes-kept through (take (length front) a) (take (length front) b) front (taken-ascends (length front) a b up) h
before-kept front false through a b up h = precedes-kept through a b front up h

-- ---- the names that an item means are those among which a name stands

pub among : (front : Name) (wild : Bool) (n : Name) → is_eq (stands front wild n) ≡ means front wild n
among front true n = is_eq-slice_cmp (take (length front) n) front ∙ bytes_eq-turned (take (length front) n) front
among front false n = is_eq-slice_cmp n front ∙ bytes_eq-turned n front

among-between : (o : Ordering) → (not (precedes false o) && precedes true o) ≡ is_eq o
among-between Less = refl
among-between Equal = refl
among-between Greater = refl

not-below : (low k : ℕ) → nat_le low k ≡ not (nat_lt k low)
not-below low k = by (cases_lt k low)
  where
    by : (k < low) ⊎ (low ≤ k) → nat_le low k ≡ not (nat_lt k low)
    by (inl h) = lt-leb low k h ∙ sym (ap not (lt-ltb k low h))
    by (inr h) = le-leb low k h ∙ sym (ap not (le-ltb k low h))

pub range-means : (order : List ℕ) (names : List Name) (front : Name) (wild : Bool) (low high : ℕ) → IsPlace order names front wild false low → IsPlace order names front wild true high
    → (k : ℕ) → k < length order → (nat_le low k && nat_lt k high) ≡ means front wild (name_at names (get_or order k 0))
range-means order names front wild low high below above k h =
    let n = name_at names (get_or order k 0) in
    ap (λ b. b && nat_lt k high) (not-below low k ∙ ap not (sym (below k h)))
    ∙ ap (λ b. not (comes_before front wild false n) && b) (sym (above k h))
    ∙ among-between (stands front wild n) ∙ among front wild n

-- ---- the search for a place

pub record IsNarrowed (order : List ℕ) (names : List Name) (front : Name) (wild through : Bool) (low high : ℕ) : Type 0 where
  pub ordered : low ≤ high
  pub within : high ≤ length order
  pub below : (k : ℕ) → k < low → comes_before front wild through (name_at names (get_or order k 0)) ≡ true
  pub above : (k : ℕ) → high ≤ k → k < length order → comes_before front wild through (name_at names (get_or order k 0)) ≡ false

pub narrowed-start : (order : List ℕ) (names : List Name) (front : Name) (wild through : Bool) → IsNarrowed order names front wild through 0 (length order)
narrowed-start order names front wild through = record {
  ordered = omega arith;
  within = omega arith;
  below = λ k h. absurd (omega arith);
  above = λ k h g. absurd (omega arith);
}

pub narrowed-low : (order : List ℕ) (names : List Name) (front : Name) (wild through : Bool) (low high middle : ℕ) → IsOrder order names → IsNarrowed order names front wild through low high → middle < high
    → comes_before front wild through (name_at names (get_or order middle 0)) ≡ true → IsNarrowed order names front wild through (middle + 1) high
narrowed-low order names front wild through low high middle o i m h = record {
  ordered = omega arith;
  within = i.within;
  below = λ k g. before-kept front wild through (name_at names (get_or order k 0)) (name_at names (get_or order middle 0)) (o.ascending k middle (omega arith) (omega (arith, i.within))) h;
  above = i.above;
}

pub narrowed-high : (order : List ℕ) (names : List Name) (front : Name) (wild through : Bool) (low high middle : ℕ) → IsOrder order names → IsNarrowed order names front wild through low high → low ≤ middle → middle < high
    → comes_before front wild through (name_at names (get_or order middle 0)) ≡ false → IsNarrowed order names front wild through low middle
narrowed-high order names front wild through low high middle o i l m h = record {
  ordered = l;
  within = omega (arith, i.within);
  below = i.below;
  above = λ k g w. above k g w;
}
  where
    above : (k : ℕ) → middle ≤ k → k < length order → comes_before front wild through (name_at names (get_or order k 0)) ≡ false
    above k g w = by (comes_before front wild through (name_at names (get_or order k 0))) refl
      where
        by : (b : Bool) → comes_before front wild through (name_at names (get_or order k 0)) ≡ b → b ≡ false
        by false e = refl
        by true e = sym (before-kept front wild through (name_at names (get_or order middle 0)) (name_at names (get_or order k 0)) (o.ascending middle k g w) e) ∙ h

pub narrowed-place : (order : List ℕ) (names : List Name) (front : Name) (wild through : Bool) (low high : ℕ) → IsNarrowed order names front wild through low high → high ≤ low → IsPlace order names front wild through low
narrowed-place order names front wild through low high i done k h = by (cases_lt k low)
  where
    by : (k < low) ⊎ (low ≤ k) → comes_before front wild through (name_at names (get_or order k 0)) ≡ nat_lt k low
    by (inl g) = i.below k g ∙ sym (lt-ltb k low g)
    by (inr g) = i.above k (omega arith) h ∙ sym (le-ltb k low g)

-- ---- the numbers of an order

pub order-numbers : (order : List ℕ) (names : List Name) → IsOrder order names → All (λ k. k < length order) order
order-numbers order names o =
    All-permutation (λ k. k < length order) (range_with_len 0 (length order)) order o.numbers
    (λ k d h. let n = length-range_with_len 0 (length order) in let e = get_or-range_with_len 0 (length order) k d (omega arith) in omega arith)

-- ---- names are added at the end

pub order-more : (order : List ℕ) (names : List Name) (n : Name) → IsOrder order names → IsOrder order (names ++ n ∷ [])
order-more order names n o = record {
  numbers = o.numbers;
  within = let l = length-append names (n ∷ []) in omega (arith, o.within);
  ascending = λ i j h w.
      let k = get_or order i 0 in
      let m = get_or order j 0 in
      let all = order-numbers order names o in
      let old = o.ascending i j h w in
      subst (λ (x : Name). Ascends x (name_at (names ++ n ∷ []) m)) (sym (get_or_append_left names (n ∷ []) [] k (omega (arith, o.within, all i 0 (omega arith)))))
      (subst (λ (x : Name). Ascends (name_at names k) x) (sym (get_or_append_left names (n ∷ []) [] m (omega (arith, o.within, all j 0 w)))) old);
}

-- ---- the next name comes into the order

range-last : (a n : ℕ) → range_with_len a (suc n) ≡ range_with_len a n ++ (a + n) ∷ []
range-last b zero = let same : b ≡ b + zero = omega arith in ap (λ m. m ∷ []) same
range-last b (suc k) = let same : b + 1 + k ≡ b + suc k = omega arith in ap (λ l. b ∷ l) (range-last (b + 1) k ∙ ap (λ m. range_with_len (b + 1) k ++ m ∷ []) same)

range-next : (n : ℕ) → range_with_len 0 (suc n) ≡ range_with_len 0 n ++ n ∷ []
range-next n = let same : 0 + n ≡ n = omega arith in range-last 0 n ∙ ap (λ m. range_with_len 0 n ++ m ∷ []) same

-- what comes before a whole name or is that name does not come after it
not-after : (o : Ordering) (b : Bool) → precedes true o ≡ b → is_gt o ≡ not b
not-after Less b e = ap not e
not-after Equal b e = ap not e
not-after Greater b e = ap not e

turned : (a b : Name) → is_gt (slice_cmp nat_cmp a b) ≡ true → Ascends b a
turned a b h = by (slice_cmp nat_cmp a b) refl h
  where
    by : (o : Ordering) → slice_cmp nat_cmp a b ≡ o → is_gt o ≡ true → Ascends b a
    by Less e g = cc
    by Equal e g = cc
    by Greater e g = ap is_gt (nat_list_cmp_total.antisymm b a ∙ ap ordering_reverse e)

pub order-inserted : (order : List ℕ) (names : List Name) (at : ℕ) → IsOrder order names → length order < length names → at ≤ length order
    → IsPlace order names (name_at names (length order)) false true at → IsOrder (insert order at (length order)) names
order-inserted order names at o missing fits place = record {
  numbers =
      let n = length order in
      let e : length (insert order at n) ≡ suc n = omega (arith, length-insert order at n fits) in
      subst (λ (k : ℕ). IsPermutation (range_with_len 0 k) (insert order at n)) (sym e)
      (subst (λ (l : List ℕ). IsPermutation l (insert order at n)) (sym (range-next n))
      (IsPermutation-trans (range_with_len 0 n ++ n ∷ []) (n ∷ range_with_len 0 n) (insert order at n) (IsPermutation-to_front (range_with_len 0 n) n)
      (IsPermutation-trans (n ∷ range_with_len 0 n) (n ∷ order) (insert order at n) (IsPermutation-cons n (range_with_len 0 n) order o.numbers) (IsPermutation-insert order at n))));
  within = omega (arith, length-insert order at (length order) fits);
  ascending = λ i j h w. rises i j h (omega (arith, length-insert order at (length order) fits));
}
  where
    new : ℕ → Name
    new k = name_at names (get_or (insert order at (length order)) k 0)

    old : ℕ → Name
    old k = name_at names (get_or order k 0)

    below : (k : ℕ) → k < at → new k ≡ old k
    below k h = ap (name_at names) (get_or-insert_below order at (length order) 0 k h fits)

    here : new at ≡ name_at names (length order)
    here = ap (name_at names) (get_or-insert_at order at (length order) 0 fits)

    above : (k : ℕ) → at ≤ k → new (k + 1) ≡ old k
    above k h = ap (name_at names) (get_or-insert_above order at (length order) 0 k h fits)

    joined : (a b c d : Name) → a ≡ c → b ≡ d → Ascends c d → Ascends a b
    joined a b c d e f h = subst (λ (x : Name). Ascends x b) (sym e) (subst (λ (x : Name). Ascends c x) (sym f) h)

    rises : (i j : ℕ) → i ≤ j → j < length order + 1 → Ascends (new i) (new j)
    rises i j h w = by (cases_lt i at) (cases_lt j at)
      where
        before : (k : ℕ) → k < at → Ascends (old k) (name_at names (length order))
        before k g = not-after (slice_cmp nat_cmp (old k) (name_at names (length order))) true (place k (omega arith) ∙ lt-ltb k at g)

        behind : (k : ℕ) → at ≤ k → k < length order → Ascends (name_at names (length order)) (old k)
        behind k g v = turned (old k) (name_at names (length order)) (not-after (slice_cmp nat_cmp (old k) (name_at names (length order))) false (place k v ∙ le-ltb k at g))

        by : (i < at) ⊎ (at ≤ i) → (j < at) ⊎ (at ≤ j) → Ascends (new i) (new j)
        by (inl p) (inl q) = joined (new i) (new j) (old i) (old j) (below i p) (below j q) (o.ascending i j h (omega arith))
        by (inl p) (inr q) = from (cases_eq j at)
          where
            from : (j ≡ at) ⊎ (j ≡ at → ⊥) → Ascends (new i) (new j)
            from (inl e) = joined (new i) (new j) (old i) (name_at names (length order)) (below i p) (ap new e ∙ here) (before i p)
            from (inr e) = let s : j ≡ (j - 1) + 1 = omega arith in joined (new i) (new j) (old i) (old (j - 1)) (below i p) (ap new s ∙ above (j - 1) (omega arith)) (o.ascending i (j - 1) (omega arith) (omega arith))
        by (inr p) (inl q) = absurd (omega arith)
        by (inr p) (inr q) = from (cases_eq i at) (cases_eq j at)
          where
            from : (i ≡ at) ⊎ (i ≡ at → ⊥) → (j ≡ at) ⊎ (j ≡ at → ⊥) → Ascends (new i) (new j)
            from (inl d) (inl e) = joined (new i) (new j) (name_at names (length order)) (name_at names (length order)) (ap new d ∙ here) (ap new e ∙ here) (ap is_gt (tied_itself nat_list_cmp_total (name_at names (length order))))
            from (inl d) (inr e) = let s : j ≡ (j - 1) + 1 = omega arith in joined (new i) (new j) (name_at names (length order)) (old (j - 1)) (ap new d ∙ here) (ap new s ∙ above (j - 1) (omega arith)) (behind (j - 1) (omega arith) (omega arith))
            from (inr d) (inl e) = absurd (omega arith)
            from (inr d) (inr e) = let s : j ≡ (j - 1) + 1 = omega arith in let r : i ≡ (i - 1) + 1 = omega arith in
                joined (new i) (new j) (old (i - 1)) (old (j - 1)) (ap new r ∙ above (i - 1) (omega arith)) (ap new s ∙ above (j - 1) (omega arith)) (o.ascending (i - 1) (j - 1) (omega arith) (omega arith))

-- ---- names behind references

pub name-read : (names : List (Bor Name)) (k : ℕ) (d : Bor Name) → k < length names → (get_or names k d).now ≡ name_at (map (λ n. n.now) names) k
name-read names k d h = sym (get_or-map (λ (n : Bor Name). n.now) names k d [] h)

pub asked : (names : List (Bor Name)) (k : ℕ) (d : Bor Name) (front : Name) (wild through r b : Bool) → k < length names → r ≡ comes_before front wild through (get_or names k d).now → r ≡ b
    → comes_before front wild through (name_at (map (λ n. n.now) names) k) ≡ b
asked names k d front wild through r b h e f = ap (comes_before front wild through) (sym (name-read names k d h)) ∙ sym e ∙ f

pub order-next : (order seen new : List ℕ) (names : List (Bor Name)) (number at : ℕ) (d : Bor Name) → IsOrder order (map (λ n. n.now) names) → seen ≡ order → number ≡ length order → number < length names → at ≤ length seen
    → IsPlace seen (map (λ n. n.now) names) (get_or names number d).now false true at → new ≡ insert order at number → IsOrder new (map (λ n. n.now) names)
order-next order seen new names number at d o same next missing fits place is =
    let all = map (λ (n : Bor Name). n.now) names in
    let front : (get_or names number d).now ≡ name_at all (length order) = name-read names number d missing ∙ ap (name_at all) next in
    let there : IsPlace order all (name_at all (length order)) false true at =
    subst (λ (n : Name). IsPlace order all n false true at) front (subst (λ (l : List ℕ). IsPlace l all (get_or names number d).now false true at) same place) in
    subst (λ (l : List ℕ). IsOrder l all) (sym (is ∙ ap (insert order at) next))
    (order-inserted order all at o (omega (arith, length-map' (λ (n : Bor Name). n.now) names)) (omega (arith, ap length same)) there)

pub next-longer : (order new : List ℕ) (number at : ℕ) → at ≤ length order → new ≡ insert order at number → length new ≡ length order + 1
next-longer order new number at fits is = ap length is ∙ length-insert order at number fits
