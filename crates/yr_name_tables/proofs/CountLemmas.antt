-- Numbers in ascending order are known by how often each stands among them.
use Rattle.std.proofs.Common.{◌≡◌, ℕ, ◌+◌, ◌*◌, ◌<◌, ◌≤◌, ◌⊎◌, inl, inr, Bool, true, false, cond, eqb, List, [], ◌∷◌, ◌++◌, length, get_or, refl, sym, ap, ◌∙◌, arith, All, sum_by, append_assoc, length-append}
use Rattle.std.specs.Prelude.{if◌then◌else◌}
use Rattle.std.specs.List.{filter, range_with_len}
use Rattle.std.specs.List.Sorted.{IsNonDecreasing, IsPermutation}
use Rattle.std.proofs.lemmas.Bool.{cases_lt, eq-eqb, eqb-true}
use Rattle.std.proofs.lemmas.List.{get_or_at}
use Rattle.std.proofs.lemmas.List.FromFn.{length-range_with_len, get_or-range_with_len}
use Rattle.std.proofs.lemmas.List.Kept.{IsNonDecreasingBy-filter}
use Rattle.std.proofs.lemmas.List.Sorted.{IsNonDecreasingBy-drop, list_any-IsPermutation, sum_by-IsPermutation}
use Rattle.std.proofs.lemmas.List.Sums.{sum_by-cons, sum_by-le}
use Rattle.yr_syntax.specs.Condition.{ItemTree}
use Rattle.yr_name_tables.specs.declared.ranges.Range.{Range}
use Rattle.yr_name_tables.specs.Names.{Name, is_meant, numbers_meant}
use Rattle.yr_name_tables.specs.Order.{AreRanges, IsOrder, covers, is_covered, kept, name_at}
use Rattle.yr_name_tables.proofs.RangeLemmas.{kept-filter}

-- ---- how often a number stands in a list

abbrev pub one : ℕ → ℕ → ℕ
one k x = cond (eqb k x) 1 0

abbrev pub count : ℕ → List ℕ → ℕ
count k xs = sum_by (one k) xs

one-same : (k x : ℕ) → k ≡ x → one k x ≡ 1
one-same k x e = ap (λ b. cond b 1 0) (eq-eqb k x e)

count-above : (k : ℕ) (xs : List ℕ) → All (λ x. k < x) xs → count k xs ≡ 0
count-above k xs h =
    let none : sum_by (one k) xs ≤ length xs * 0 = sum_by-le (one k) 0 xs (λ j d w. zero-at (get_or xs j d) (h j d w)) in
    omega arith
  where
    zero-at : (x : ℕ) → k < x → one k x ≤ 0
    zero-at x g = by (eqb k x) refl
      where
        by : (b : Bool) → eqb k x ≡ b → cond b 1 0 ≤ 0
        by true e = let same : k ≡ x = eqb-true k x e in absurd (omega arith)
        by false e = omega arith

count-head : (x : ℕ) (xs : List ℕ) → 1 ≤ count x (x ∷ xs)
count-head x xs = let e : sum_by (one x) (x ∷ xs) ≡ one x x + sum_by (one x) xs = sum_by-cons (one x) x xs in let o = one-same x x refl in omega arith

not-less : (x y : ℕ) (xs ys : List ℕ) → IsNonDecreasing (y ∷ ys) → count x (x ∷ xs) ≡ count x (y ∷ ys) → y ≤ x
not-less x y xs ys up same = by (cases_lt x y)
  where
    by : (x < y) ⊎ (y ≤ x) → y ≤ x
    by (inr h) = h
    by (inl h) =
        let above : count x (y ∷ ys) ≡ 0 = count-above x (y ∷ ys) (λ j d w. let least : y ≤ get_or (y ∷ ys) j d = up 0 j d (omega arith) w in omega arith) in
        let some = count-head x xs in
        absurd (omega arith)

pub same-ascending : (xs ys : List ℕ) → IsNonDecreasing xs → IsNonDecreasing ys → ((k : ℕ) → count k xs ≡ count k ys) → xs ≡ ys
same-ascending [] [] up rises same = refl
same-ascending [] (y ∷ ys) up rises same = let some = count-head y ys in let none : count y [] ≡ 0 = refl in let e = same y in absurd (omega arith)
same-ascending (x ∷ xs) [] up rises same = let some = count-head x xs in let none : count x [] ≡ 0 = refl in let e = same x in absurd (omega arith)
same-ascending (x ∷ xs) (y ∷ ys) up rises same =
    let low : y ≤ x = not-less x y xs ys rises (same x) in
    let high : x ≤ y = not-less y x ys xs up (sym (same y)) in
    let head : x ≡ y = omega arith in
    let rest : xs ≡ ys = same-ascending xs ys (IsNonDecreasingBy-drop (λ k. k) 1 (x ∷ xs) up) (IsNonDecreasingBy-drop (λ k. k) 1 (y ∷ ys) rises) (λ k. tails k head) in
    cc
  where
    tails : (k : ℕ) → x ≡ y → count k xs ≡ count k ys
    tails k head =
        let a : count k (x ∷ xs) ≡ one k x + count k xs = sum_by-cons (one k) x xs in
        let b : count k (y ∷ ys) ≡ one k y + count k ys = sum_by-cons (one k) y ys in
        let e : one k x ≡ one k y = ap (one k) head in
        let s = same k in
        omega arith

count-filter : (m : ℕ → Bool) (k : ℕ) (xs : List ℕ) → count k (filter m xs) ≡ cond (m k) (count k xs) 0
count-filter m k [] = by (m k)
  where
    by : (b : Bool) → ◌≡◌ {A = ℕ} 0 (cond b 0 0)
    by true = refl
    by false = refl
count-filter m k (x ∷ xs) = by (m x) refl (eqb k x) refl (m k) refl (count-filter m k xs)
  where
    by : (b : Bool) → m x ≡ b → (e : Bool) → eqb k x ≡ e → (t : Bool) → m k ≡ t → count k (filter m xs) ≡ cond t (count k xs) 0 → count k (cond b (x ∷ filter m xs) (filter m xs)) ≡ cond t (count k (x ∷ xs)) 0
    by true p e q true r rest = sum_by-cons (one k) x (filter m xs) ∙ ap (λ n. one k x + n) rest ∙ sym (sum_by-cons (one k) x xs)
    by true p true q false r rest = let same : k ≡ x = eqb-true k x q in let off : m x ≡ false = ap m (sym same) ∙ r in cc
    by true p false q false r rest =
        let a = sum_by-cons (one k) x (filter m xs) in
        let none : one k x ≡ 0 = ap (λ c. cond c 1 0) q in
        omega arith
    by false p true q true r rest = let same : k ≡ x = eqb-true k x q in let on : m x ≡ true = ap m (sym same) ∙ r in cc
    by false p false q true r rest =
        let b = sum_by-cons (one k) x xs in
        let none : one k x ≡ 0 = ap (λ c. cond c 1 0) q in
        omega arith
    by false p e q false r rest = rest

-- ---- the numbers of the names that items mean

filter-numbers : (items : List ItemTree) (before ns : List Name) → filter (λ k. is_meant items (name_at (before ++ ns) k)) (range_with_len (length before) (length ns)) ≡ numbers_meant items (length before) ns
filter-numbers items before [] = refl
filter-numbers items before (n ∷ ns) =
    let first : name_at (before ++ n ∷ ns) (length before) ≡ n = get_or_at before n ns [] (length before) refl in
    let longer : length (before ++ n ∷ []) ≡ length before + 1 = length-append before (n ∷ []) in
    let rest : filter (λ k. is_meant items (name_at (before ++ n ∷ ns) k)) (range_with_len (length before + 1) (length ns)) ≡ numbers_meant items (length before + 1) ns =
    ap (λ j. filter (λ k. is_meant items (name_at (before ++ n ∷ ns) k)) (range_with_len j (length ns))) (sym longer)
    ∙ ap (λ l. filter (λ k. is_meant items (name_at l k)) (range_with_len (length (before ++ n ∷ [])) (length ns))) (sym (append_assoc before (n ∷ []) ns))
    ∙ filter-numbers items (before ++ n ∷ []) ns
    ∙ ap (λ j. numbers_meant items j ns) longer in
    ap (λ b. cond b (length before ∷ filter (λ k. is_meant items (name_at (before ++ n ∷ ns) k)) (range_with_len (length before + 1) (length ns))) (filter (λ k. is_meant items (name_at (before ++ n ∷ ns) k)) (range_with_len (length before + 1) (length ns)))) (ap (is_meant items) first)
    ∙ ap (λ l. if is_meant items n then length before ∷ l else l) rest

range-rises : (a n : ℕ) → IsNonDecreasing (range_with_len a n)
range-rises a n i j d h w =
    let l = length-range_with_len a n in
    let e = get_or-range_with_len a n i d (omega arith) in
    let f = get_or-range_with_len a n j d (omega arith) in
    omega arith

pub meant-sorted : (items : List ItemTree) (names : List Name) (order met sorted : List ℕ) (ranges rising : List Range) → IsOrder order names → length order ≡ length names → AreRanges order names items ranges
    → IsPermutation ranges rising → met ≡ kept (is_covered rising) 0 order → IsPermutation met sorted → IsNonDecreasing sorted → sorted ≡ numbers_meant items 0 names
meant-sorted items names order met sorted ranges rising o whole r moved m p up =
    same-ascending sorted (filter means numbers) up (IsNonDecreasingBy-filter (λ k. k) means numbers (range-rises 0 (length order))) counts
    ∙ ap (λ n. filter means (range_with_len 0 n)) whole
    ∙ filter-numbers items [] names
  where
    means : ℕ → Bool
    means k = is_meant items (name_at names k)

    numbers : List ℕ
    numbers = range_with_len 0 (length order)

    covered : (k : ℕ) → k < length order → is_covered rising (0 + k) ≡ means (get_or order k 0)
    covered k h = let same : 0 + k ≡ k = omega arith in ap (is_covered rising) same ∙ sym (list_any-IsPermutation (λ x. covers x k) ranges rising moved) ∙ r.covered k h

    filtered : met ≡ filter means order
    filtered = m ∙ kept-filter (is_covered rising) means 0 order covered

    counts : (k : ℕ) → count k sorted ≡ count k (filter means numbers)
    counts k =
        sum_by-IsPermutation (one k) met sorted p
        ∙ ap (count k) filtered
        ∙ count-filter means k order
        ∙ ap (λ n. cond (means k) n 0) (sum_by-IsPermutation (one k) numbers order o.numbers)
        ∙ sym (count-filter means k numbers)
