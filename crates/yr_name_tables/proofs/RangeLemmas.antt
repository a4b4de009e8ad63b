-- The places of ranges, taken in one sweep.
use Rattle.std.proofs.Common.{◌≡◌, ℕ, suc, ◌+◌, ◌-◌, ◌<◌, ◌≤◌, ◌⊎◌, inl, inr, Bool, true, false, List, [], ◌∷◌, ◌++◌, length, take, drop, get_or, max, refl, sym, ap, subst, ◌∙◌, arith, nat_lt, nat_le, append_assoc, append-nil, length-append, Bor, map}
use Rattle.std.specs.Prelude.{if◌then◌else◌}
use Rattle.std.specs.List.{filter, list_any, range_with_len, slice_range}
use Rattle.std.specs.List.Sorted.{IsNonDecreasingBy}
use Rattle.std.proofs.lemmas.Bool.{cases_lt, lt-ltb, le-ltb, le-leb, lt-leb, and_left, and_right, and_from, or_from}
use Rattle.std.proofs.lemmas.List.{take-append-drop, length-take-le, length-drop, get_or-drop, take_all, take_at, get_or_default}
use Rattle.std.proofs.lemmas.List.Folds.{Any-from_list_any, list_any-append, list_any_at, list_any_more, list_any_none, drop_split}
use Rattle.std.proofs.lemmas.List.FromFn.{length-range_with_len, get_or-range_with_len}
use Rattle.std.proofs.lemmas.List.Sorted.{list_any-IsPermutation}
use Rattle.yr_name_tables.specs.declared.ranges.Range.{Range}
use Rattle.yr_name_tables.specs.Names.{Name, means}
use Rattle.yr_name_tables.specs.Order.{IsOrder, IsRange, covers, is_covered, kept, name_at}
use Rattle.yr_name_tables.proofs.NameLemmas.{length-map'}
use Rattle.yr_name_tables.proofs.OrderLemmas.{order-numbers}

-- ---- what stands at places that pass

pub kept-append : {A : Type 0} (passes : ℕ → Bool) (p : ℕ) (xs ys : List A) → kept passes p (xs ++ ys) ≡ kept passes p xs ++ kept passes (p + length xs) ys
kept-append passes p [] ys = let same : p ≡ p + 0 = omega arith in ap (λ q. kept passes q ys) same
kept-append passes p (x ∷ xs) ys =
    let same : p + 1 + length xs ≡ p + length (x ∷ xs) = omega arith in
    by (passes p) (kept-append passes (p + 1) xs ys ∙ ap (λ q. kept passes (p + 1) xs ++ kept passes q ys) same)
  where
    by : (b : Bool) → kept passes (p + 1) (xs ++ ys) ≡ kept passes (p + 1) xs ++ kept passes (p + length (x ∷ xs)) ys
        → (if b then x ∷ kept passes (p + 1) (xs ++ ys) else kept passes (p + 1) (xs ++ ys)) ≡ (if b then x ∷ kept passes (p + 1) xs else kept passes (p + 1) xs) ++ kept passes (p + length (x ∷ xs)) ys
    by true e = ap (λ l. x ∷ l) e
    by false e = e

kept-none : {A : Type 0} (passes : ℕ → Bool) (p : ℕ) (xs : List A) → ((k : ℕ) → p ≤ k → k < p + length xs → passes k ≡ false) → kept passes p xs ≡ []
kept-none passes p [] h = refl
kept-none passes p (x ∷ xs) h =
    ap (λ b. if b then x ∷ kept passes (p + 1) xs else kept passes (p + 1) xs) (h p (omega arith) (omega arith))
    ∙ kept-none passes (p + 1) xs (λ k g w. h k (omega arith) (omega arith))

kept-all : {A : Type 0} (passes : ℕ → Bool) (p : ℕ) (xs : List A) → ((k : ℕ) → p ≤ k → k < p + length xs → passes k ≡ true) → kept passes p xs ≡ xs
kept-all passes p [] h = refl
kept-all passes p (x ∷ xs) h =
    ap (λ b. if b then x ∷ kept passes (p + 1) xs else kept passes (p + 1) xs) (h p (omega arith) (omega arith))
    ∙ ap (λ l. x ∷ l) (kept-all passes (p + 1) xs (λ k g w. h k (omega arith) (omega arith)))

-- where the places pass whose elements do
pub kept-filter : (passes means : ℕ → Bool) (p : ℕ) (xs : List ℕ) → ((k : ℕ) → k < length xs → passes (p + k) ≡ means (get_or xs k 0)) → kept passes p xs ≡ filter means xs
kept-filter passes means p [] h = refl
kept-filter passes means p (x ∷ xs) h =
    let same : p ≡ p + 0 = omega arith in
    let here : passes p ≡ means x = ap passes same ∙ h 0 (omega arith) in
    let rest : kept passes (p + 1) xs ≡ filter means xs = kept-filter passes means (p + 1) xs (λ k w. let next : p + 1 + k ≡ p + suc k = omega arith in ap passes next ∙ h (suc k) (omega arith)) in
    ap (λ b. if b then x ∷ kept passes (p + 1) xs else kept passes (p + 1) xs) here ∙ ap (λ l. if means x then x ∷ l else l) rest

length-range : {A : Type 0} (xs : List A) (a b : ℕ) → a ≤ b → b ≤ length xs → length (slice_range xs a b) ≡ b - a
length-range xs a b h w = length-take-le (b - a) (drop a xs) (omega (arith, length-drop a xs))

take-range : {A : Type 0} (xs : List A) (a b : ℕ) → a ≤ b → b ≤ length xs → take b xs ≡ take a xs ++ slice_range xs a b
take-range xs a b h w =
    let l : length (take a xs ++ slice_range xs a b) ≡ b = length-append (take a xs) (slice_range xs a b) ∙ omega (arith, length-take-le a xs (omega arith), length-range xs a b h w) in
    let all : xs ≡ (take a xs ++ slice_range xs a b) ++ drop b xs = sym (take-append-drop a xs) ∙ ap (λ l. take a xs ++ l) (drop_split xs a b h) ∙ sym (append_assoc (take a xs) (slice_range xs a b) (drop b xs)) in
    ap (take b) all ∙ take_at (take a xs ++ slice_range xs a b) (drop b xs) b l

-- none passes from `end` on below `start`, and all pass from there on below `high`
pub kept-more : {A : Type 0} (passes : ℕ → Bool) (xs : List A) (end start high : ℕ) → end ≤ start → start ≤ high → high ≤ length xs → ((k : ℕ) → end ≤ k → k < start → passes k ≡ false)
    → ((k : ℕ) → start ≤ k → k < high → passes k ≡ true) → kept passes 0 (take high xs) ≡ kept passes 0 (take end xs) ++ slice_range xs start high
kept-more passes xs end start high h i w none all =
    let a = take end xs in
    let b = slice_range xs end start in
    let c = slice_range xs start high in
    let la : length a ≡ end = length-take-le end xs (omega arith) in
    let lb : length b ≡ start - end = length-range xs end start h (omega arith) in
    let lc : length c ≡ high - start = length-range xs start high i w in
    let lab : length (a ++ b) ≡ start = omega (arith, length-append a b) in
    let split : take high xs ≡ (a ++ b) ++ c = take-range xs start high i w ∙ ap (λ l. l ++ c) (take-range xs end start h (omega arith)) in
    let gap : kept passes (0 + length a) b ≡ [] = kept-none passes (0 + length a) b (λ k g v. none k (omega arith) (omega arith)) in
    let rest : kept passes (0 + length (a ++ b)) c ≡ c = kept-all passes (0 + length (a ++ b)) c (λ k g v. all k (omega arith) (omega arith)) in
    ap (kept passes 0) split
    ∙ kept-append passes 0 (a ++ b) c
    ∙ ap (λ l. l ++ kept passes (0 + length (a ++ b)) c) (kept-append passes 0 a b ∙ ap (λ l. kept passes 0 a ++ l) gap ∙ append-nil (kept passes 0 a))
    ∙ ap (λ l. kept passes 0 a ++ l) rest

pub kept-done : {A : Type 0} (passes : ℕ → Bool) (xs : List A) (end : ℕ) → end ≤ length xs → ((k : ℕ) → end ≤ k → passes k ≡ false) → kept passes 0 (take end xs) ≡ kept passes 0 xs
kept-done passes xs end h none =
    let a = take end xs in
    let b = drop end xs in
    let la : length a ≡ end = length-take-le end xs h in
    sym
    (ap (kept passes 0) (sym (take-append-drop end xs))
    ∙ kept-append passes 0 a b
    ∙ ap (λ l. kept passes 0 a ++ l) (kept-none passes (0 + length a) b (λ k g v. none k (omega arith)))
    ∙ append-nil (kept passes 0 a))

-- ---- a turn of the sweep

not-from : (r : Range) (k : ℕ) → k < r.low → covers r k ≡ false
not-from r k h = and_left (nat_le r.low k) (nat_lt k r.high) (lt-leb r.low k h)

not-below : (r : Range) (k : ℕ) → r.high ≤ k → covers r k ≡ false
not-below r k h = and_right (nat_le r.low k) (nat_lt k r.high) (le-ltb k r.high h)

is-within : (r : Range) (k : ℕ) → r.low ≤ k → k < r.high → covers r k ≡ true
is-within r k h w = and_from (nat_le r.low k) (nat_lt k r.high) (le-leb r.low k h) (lt-ltb k r.high w)

-- what is taken so far
pub record IsSwept (order : List ℕ) (ranges : List Range) (done end : ℕ) (taken : List ℕ) : Type 0 where
  pub within : end ≤ length order
  pub met : taken ≡ kept (is_covered ranges) 0 (take end order)
  pub past : (k : ℕ) → end ≤ k → is_covered (take done ranges) k ≡ false

pub swept-start : (order : List ℕ) (ranges : List Range) (taken : List ℕ) → taken ≡ [] → IsSwept order ranges 0 0 taken
swept-start order ranges taken e = record { within = omega arith; met = e; past = λ k h. refl }

pub swept-end : (order : List ℕ) (ranges : List Range) (done end : ℕ) (met : List ℕ) → IsSwept order ranges done end met → length ranges ≤ done → met ≡ kept (is_covered ranges) 0 order
swept-end order ranges done end met s h =
    s.met ∙ kept-done (is_covered ranges) order end s.within (λ k g. ap (λ l. is_covered l k) (sym (take_all done ranges h)) ∙ s.past k g)

-- no range from this one on has a place below it
later : (ranges : List Range) (i : ℕ) (r : Range) (k : ℕ) → IsNonDecreasingBy (λ x. x.low) ranges → i < length ranges → r ≡ get_or ranges i r → k < r.low → is_covered (drop i ranges) k ≡ false
later ranges i r k up h is w =
    list_any_none (λ x. covers x k) (drop i ranges)
    (λ j d g. let l = length-drop i ranges in let low : r.low ≤ (get_or ranges (i + j) r).low = subst (λ (x : Range). x.low ≤ (get_or ranges (i + j) r).low) (sym is) (up i (i + j) r (omega arith) (omega arith)) in
    let same : get_or (drop i ranges) j d ≡ get_or ranges (i + j) r = get_or-drop i ranges j d ∙ get_or_default ranges (i + j) d r (omega arith) in
    ap (λ x. covers x k) same ∙ not-from (get_or ranges (i + j) r) k (omega arith))

both : (ranges : List Range) (i k : ℕ) → is_covered (take i ranges) k ≡ false → is_covered (drop i ranges) k ≡ false → is_covered ranges k ≡ false
both ranges i k e f =
    ap (λ l. is_covered l k) (sym (take-append-drop i ranges))
    ∙ list_any-append (λ x. covers x k) (take i ranges) (drop i ranges)
    ∙ or_from (is_covered (take i ranges) k) (is_covered (drop i ranges) k) e f

more-done : (ranges : List Range) (i : ℕ) (r : Range) (k : ℕ) → i < length ranges → r ≡ get_or ranges i r → is_covered (take i ranges) k ≡ false → covers r k ≡ false → is_covered (take (i + 1) ranges) k ≡ false
more-done ranges i r k h is e f =
    list_any_more (λ x. covers x k) ranges i r h ∙ or_from (is_covered (take i ranges) k) (covers (get_or ranges i r) k) e (ap (λ x. covers x k) (sym is) ∙ f)

-- the range reaches beyond what is taken
pub swept-taken : (order : List ℕ) (ranges : List Range) (i end start : ℕ) (r : Range) (met new : List ℕ) → IsSwept order ranges i end met → IsNonDecreasingBy (λ x. x.low) ranges → i < length ranges
    → r ≡ get_or ranges i r → r.high ≤ length order → start ≡ max r.low end → start < r.high → new ≡ met ++ slice_range order start r.high → IsSwept order ranges (i + 1) r.high new
swept-taken order ranges i end start r met new s up h is fits e w n = record {
  within = fits;
  met =
      n ∙ ap (λ l. l ++ slice_range order start r.high) s.met
      ∙ sym (kept-more (is_covered ranges) order end start r.high (omega arith) (omega arith) fits
      (λ k g v. both ranges i k (s.past k g) (later ranges i r k up h is (omega arith)))
      (λ k g v. list_any_at (λ x. covers x k) ranges i r h (ap (λ x. covers x k) (sym is) ∙ is-within r k (omega arith) v)));
  past = λ k g. more-done ranges i r k h is (s.past k (omega arith)) (not-below r k g);
}

-- it does not
pub swept-passed : (order : List ℕ) (ranges : List Range) (i end start : ℕ) (r : Range) (met : List ℕ) → IsSwept order ranges i end met → i < length ranges → r ≡ get_or ranges i r
    → start ≡ max r.low end → r.high ≤ start → IsSwept order ranges (i + 1) end met
swept-passed order ranges i end start r met s h is e w = record {
  within = s.within;
  met = s.met;
  past = λ k g. more-done ranges i r k h is (s.past k g) (outside k g);
}
  where
    outside : (k : ℕ) → end ≤ k → covers r k ≡ false
    outside k g = by (cases_lt k r.low)
      where
        by : (k < r.low) ⊎ (r.low ≤ k) → covers r k ≡ false
        by (inl v) = not-from r k v
        by (inr v) = not-below r k (omega arith)

-- ---- a range is empty where no name is meant

any-number : (p : Name → Bool) (order : List ℕ) (names : List Name) → IsOrder order names → length order ≡ length names → list_any p names ≡ true → list_any (λ k. p (name_at names k)) order ≡ true
any-number p order names o whole h =
    let some = Any-from_list_any p names h in
    let k : ℕ = some.0 in
    let inside : k < length (range_with_len 0 (length order)) = omega (arith, some.2, length-range_with_len 0 (length order)) in
    let at : get_or (range_with_len 0 (length order)) k 0 ≡ k = omega (arith, get_or-range_with_len 0 (length order) k 0 (omega (arith, some.2))) in
    let named : name_at names k ≡ some.1 = get_or_default names k [] some.1 some.2 ∙ some.3 in
    sym (list_any-IsPermutation (λ j. p (name_at names j)) (range_with_len 0 (length order)) order o.numbers)
    ∙ list_any_at (λ j. p (name_at names j)) (range_with_len 0 (length order)) k 0 inside (ap (λ j. p (name_at names j)) at ∙ ap p named ∙ some.4)

some-begins : (order : List ℕ) (names : List Name) (front : Name) (range : Range) → IsOrder order names → length order ≡ length names → IsRange order names front true range
    → nat_lt range.low range.high ≡ list_any (means front true) names
some-begins order names front range o whole r = by (cases_lt range.low range.high)
  where
    begins-not : (b : Bool) → list_any (means front true) names ≡ b → range.high ≤ range.low → b ≡ false
    begins-not false e h = refl
    begins-not true e h =
        sym (any-number (means front true) order names o whole e)
        ∙ list_any_none (λ k. means front true (name_at names k)) order (λ k d w.
        let inside : k < length order = w in
        ap (λ j. means front true (name_at names j)) (get_or_default order k d 0 w) ∙ sym (r.covers k w) ∙ outside k h)
      where
        outside : (k : ℕ) → range.high ≤ range.low → covers range k ≡ false
        outside k g = from (cases_lt k range.low)
          where
            from : (k < range.low) ⊎ (range.low ≤ k) → covers range k ≡ false
            from (inl v) = not-from range k v
            from (inr v) = not-below range k (omega arith)

    by : (range.low < range.high) ⊎ (range.high ≤ range.low) → nat_lt range.low range.high ≡ list_any (means front true) names
    by (inl h) =
        let inside : range.low < length order = omega (arith, r.within) in
        let number = get_or order range.low 0 in
        let named : number < length names = omega (arith, order-numbers order names o range.low 0 inside) in
        lt-ltb range.low range.high h
        ∙ sym (list_any_at (means front true) names number [] named (sym (r.covers range.low inside) ∙ is-within range range.low (omega arith) h))
    by (inr h) = le-ltb range.low range.high h ∙ sym (begins-not (list_any (means front true) names) refl h)

pub some-begins-read : (order seen : List ℕ) (names read : List (Bor Name)) (all : List Name) (front : Name) (range : Range) → IsOrder order (map (λ n. n.now) names) → length order ≡ length names → seen ≡ order → read ≡ names
    → map (λ n. n.now) names ≡ all → IsRange seen (map (λ n. n.now) read) front true range → nat_lt range.low range.high ≡ list_any (means front true) all
some-begins-read order seen names read all front range o whole same like is r =
    let f = λ (n : Bor Name). n.now in
    some-begins order (map f names) front range o (whole ∙ sym (length-map' f names))
    (subst (λ (l : List ℕ). IsRange l (map f names) front true range) same (subst (λ (l : List (Bor Name)). IsRange seen (map f l) front true range) like r))
    ∙ ap (list_any (means front true)) is
