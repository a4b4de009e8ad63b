-- One more byte in a set, and the members of a set.
use Rattle.std.proofs.Common.{◌≡◌, ◌≢◌, ◌↔◌, ◌⊎◌, ℕ, zero, suc, ◌+◌, ◌/◌, ◌%◌, ◌<◌, List, [], ◌∷◌, ◌++◌, Bool, true, false, not, ◌&&◌, ◌||◌, cond, eqb, length, get_or, set, take, refl, sym, ap, subst, ◌∙◌, arith, bit_and, bit_or, inl, inr, ⊎_elim, IsTrue, Fits, w8, zero-add}
use Rattle.std.specs.List.{Contains, filter, range_with_len}
use Rattle.std.proofs.lemmas.Bool.{eqb-true, eqb-false, eq-eqb, ne_eqb, and_parts, or_cases, cases_eq, cases_lt, false≢true}
use Rattle.std.proofs.lemmas.Nat.{and_le_r, le_or_l, le_or_r}
use Rattle.std.proofs.lemmas.Nat.Bits.{bit_at_and, bit_at_or, same_from_bits}
use Rattle.std.proofs.lemmas.List.{get_or_default, get_or_past, get_or-set_same, get_or-set_other, take_more}
use Rattle.std.proofs.lemmas.List.Elements.{Contains-get_or, Contains-push, Contains-push_cases, Contains-append_left, Contains-append_right, Contains-append_cases}
use Rattle.std.proofs.lemmas.List.FromFn.{length-range_with_len, get_or-range_with_len}
use Rattle.yr_lanes.specs.declared.byte_set.TheConstants.{FRONT_BITS, BACK_BITS}
use Rattle.yr_lanes.specs.Rows.{in_rows}
use Rattle.yr_lanes.specs.Members.{all_bytes}
use Rattle.yr_lanes.specs.NextPlace.{IsNextPlace}

-- the bits that a row and an upper half have in common
abbrev common : ℕ → ℕ → ℕ → ℕ → ℕ
common f g x y = bit_or (bit_and f x) (bit_and g y)

and_or-distrib : (f p x : ℕ) → bit_and (bit_or f p) x ≡ bit_or (bit_and f x) (bit_and p x)
and_or-distrib f p x =
    same_from_bits _ _ (λ i.
    omega (arith, bit_at_and (bit_or f p) x i, bit_at_or f p i, bit_at_or (bit_and f x) (bit_and p x) i, bit_at_and f x i, bit_at_and p x i))

or_zero : (a b : ℕ) → bit_or a b ≡ 0 → (a ≡ 0) × (b ≡ 0)
or_zero a b h = (omega (arith, le_or_l a b), omega (arith, le_or_r a b))

zero_or : (a b : ℕ) → a ≡ 0 → b ≡ 0 → bit_or a b ≡ 0
zero_or a b p q = λ i. bit_or (p i) (q i)

-- a row that gained bits has none in common exactly where neither the row nor the bits have
common-gained : (f g p q x y : ℕ) → (common (bit_or f p) (bit_or g q) x y ≡ 0) ↔ ((common f g x y ≡ 0) × (common p q x y ≡ 0))
common-gained f g p q x y =
    let fx = bit_and f x in
    let px = bit_and p x in
    let gy = bit_and g y in
    let qy = bit_and q y in
    let front = and_or-distrib f p x in
    let back = and_or-distrib g q y in (
      λ h.
          let parts = or_zero (bit_and (bit_or f p) x) (bit_and (bit_or g q) y) h in
          let first = or_zero fx px (sym front ∙ parts.0) in
          let second = or_zero gy qy (sym back ∙ parts.1) in
          (zero_or fx gy first.0 second.0, zero_or px qy first.1 second.1),
      λ h.
          let first = or_zero fx gy h.0 in
          let second = or_zero px qy h.1 in
          zero_or (bit_and (bit_or f p) x) (bit_and (bit_or g q) y) (front ∙ zero_or fx px first.0 second.0) (back ∙ zero_or gy qy first.1 second.1),
    )

-- a test of each number below n
abbrev all_below : (ℕ → Bool) → ℕ → Bool
all_below p zero = true
all_below p (suc n) = p n && all_below p n

all_below-at : (p : ℕ → Bool) (n i : ℕ) → all_below p n ≡ true → i < n → p i ≡ true
all_below-at p zero i h l = absurd (omega arith)
all_below-at p (suc n) i h l =
    let parts = and_parts (p n) (all_below p n) h in
    ⊎_elim (λ e. subst (λ j. p j ≡ true) (sym e) parts.0) (λ ne. all_below-at p n i parts.1 (omega arith)) (cases_eq i n)

abbrev crossing : ℕ → ℕ → ℕ
crossing u w = common (get_or FRONT_BITS u 0) (get_or BACK_BITS u 0) (get_or FRONT_BITS w 0) (get_or BACK_BITS w 0)

same : Bool → Bool → Bool
same true b = b
same false b = not b

-- the 16 upper halves, two by two
crossings : all_below (λ u. all_below (λ w. same (eqb (crossing u w) 0) (not (eqb u w))) 16) 16 ≡ true
unfolding same
crossings = refl

agree : (a b : Bool) → same a (not b) ≡ true → (a ≡ true → b ≡ false) × (b ≡ false → a ≡ true)
unfolding same
agree true true h = absurd (false≢true h)
agree true false h = (λ _. refl, λ _. refl)
agree false true h = (λ e. absurd (false≢true e), λ e. sym e)
agree false false h = absurd (false≢true h)

crossing_tells : (u w : ℕ) → u < 16 → w < 16 → (eqb (crossing u w) 0 ≡ true → eqb u w ≡ false) × (eqb u w ≡ false → eqb (crossing u w) 0 ≡ true)
crossing_tells u w lu lw =
    agree (eqb (crossing u w) 0) (eqb u w)
    (all_below-at (λ w. same (eqb (crossing u w) 0) (not (eqb u w))) 16 w
    (all_below-at (λ u. all_below (λ w. same (eqb (crossing u w) 0) (not (eqb u w))) 16) 16 u crossings lu) lw)

-- the bits of an upper half are common to itself alone
crossing-own : (u : ℕ) → u < 16 → crossing u u ≢ 0
crossing-own u l none = eqb-false u u ((crossing_tells u u l l).0 (eq-eqb _ 0 none)) refl

crossing-other : (u w : ℕ) → u < 16 → u ≢ w → crossing u w ≡ 0
crossing-other u w l ne =
    ⊎_elim
    (λ lw. eqb-true _ 0 ((crossing_tells u w l lw).1 (ne_eqb u w ne)))
    (λ past.
    let front : get_or FRONT_BITS w 0 ≡ 0 = get_or_past FRONT_BITS w 0 past in
    let back : get_or BACK_BITS w 0 ≡ 0 = get_or_past BACK_BITS w 0 past in
    let p = get_or FRONT_BITS u 0 in
    let q = get_or BACK_BITS u 0 in
    zero_or (bit_and p (get_or FRONT_BITS w 0)) (bit_and q (get_or BACK_BITS w 0))
    (omega (arith, and_le_r p (get_or FRONT_BITS w 0))) (omega (arith, and_le_r q (get_or BACK_BITS w 0))))
    (cases_lt w 16)

is_common : (n : ℕ) (t : Bool) → eqb n 0 ≡ t → IsTrue (not t) ↔ (n ≢ 0)
is_common n true e = (λ h. absurd (false≢true h), λ h. absurd (h (eqb-true n 0 e)))
is_common n false e = (λ h. eqb-false n 0 e, λ h. refl)

-- a row that gained the bits of the upper half u has those of w exactly where it had them or w is u
row-gained : (f g u w : ℕ) → u < 16
    → IsTrue (not (eqb (common (bit_or f (get_or FRONT_BITS u 0)) (bit_or g (get_or BACK_BITS u 0)) (get_or FRONT_BITS w 0) (get_or BACK_BITS w 0)) 0))
    ↔ (IsTrue (not (eqb (common f g (get_or FRONT_BITS w 0) (get_or BACK_BITS w 0)) 0)) ⊎ (u ≡ w))
row-gained f g u w l =
    let x = get_or FRONT_BITS w 0 in
    let y = get_or BACK_BITS w 0 in
    let now = is_common (common (bit_or f (get_or FRONT_BITS u 0)) (bit_or g (get_or BACK_BITS u 0)) x y) _ refl in
    let before = is_common (common f g x y) _ refl in
    let gained = common-gained f g (get_or FRONT_BITS u 0) (get_or BACK_BITS u 0) x y in (
      λ h.
          ⊎_elim (λ e. inr e)
          (λ ne. inl (before.1 (λ none. now.0 h (gained.1 (none, crossing-other u w l ne)))))
          (cases_eq u w),
      ⊎_elim (λ h. now.1 (λ none. before.0 h (gained.0 none).0))
          (λ e. now.1 (λ none. crossing-own u l (ap (crossing u) e ∙ (gained.0 none).1))),
    )

-- a list of rows, at its row r
abbrev gained_row : List ℕ → ℕ → ℕ → List ℕ
gained_row rows r bits = set rows r (bit_or (get_or rows r 0) bits)

-- rows that gained a byte hold the byte, and what they held
pub in_rows-gained : (front back : List ℕ) (m b : ℕ) → length front ≡ 16 → length back ≡ 16 → m < 256
    → IsTrue (in_rows (gained_row front (m % 16) (get_or FRONT_BITS (m / 16) 0)) (gained_row back (m % 16) (get_or BACK_BITS (m / 16) 0)) b)
    ↔ (IsTrue (in_rows front back b) ⊎ (m ≡ b))
in_rows-gained front back m b long_front long_back small =
    let u = m / 16 in
    let w = b / 16 in
    let r = m % 16 in
    let p = get_or FRONT_BITS u 0 in
    let q = get_or BACK_BITS u 0 in
    let x = get_or FRONT_BITS w 0 in
    let y = get_or BACK_BITS w 0 in
    let goal = λ (f g : ℕ). IsTrue (not (eqb (common f g x y) 0)) ↔ (IsTrue (in_rows front back b) ⊎ (m ≡ b)) in
    ⊎_elim
    (λ (e : b % 16 ≡ r).
    let f : get_or (gained_row front r p) (b % 16) 0 ≡ bit_or (get_or front (b % 16) 0) p =
    ap (λ j. get_or (gained_row front r p) j 0) e ∙ get_or-set_same front r _ 0 (omega arith) ∙ ap (λ j. bit_or (get_or front j 0) p) (sym e) in
    let g : get_or (gained_row back r q) (b % 16) 0 ≡ bit_or (get_or back (b % 16) 0) q =
    ap (λ j. get_or (gained_row back r q) j 0) e ∙ get_or-set_same back r _ 0 (omega arith) ∙ ap (λ j. bit_or (get_or back j 0) q) (sym e) in
    let row = row-gained (get_or front (b % 16) 0) (get_or back (b % 16) 0) u w (omega arith) in
    let told : goal (bit_or (get_or front (b % 16) 0) p) (bit_or (get_or back (b % 16) 0) q) = (
      λ h. ⊎_elim (λ i. inl i) (λ i. inr (omega arith)) (row.0 h),
      ⊎_elim (λ h. row.1 (inl h)) (λ h. row.1 (inr (ap (λ n. n / 16) h))),
    ) in
    subst (λ j. goal j (get_or (gained_row back r q) (b % 16) 0)) (sym f) (subst (goal (bit_or (get_or front (b % 16) 0) p)) (sym g) told))
    (λ (ne : b % 16 ≢ r).
    let f : get_or (gained_row front r p) (b % 16) 0 ≡ get_or front (b % 16) 0 = get_or-set_other front r (b % 16) _ 0 ne in
    let g : get_or (gained_row back r q) (b % 16) 0 ≡ get_or back (b % 16) 0 = get_or-set_other back r (b % 16) _ 0 ne in
    let told : goal (get_or front (b % 16) 0) (get_or back (b % 16) 0) = (
      λ h. inl h,
      ⊎_elim (λ h. h) (λ h. absurd (ne (ap (λ n. n % 16) (sym h)))),
    ) in
    subst (λ j. goal j (get_or (gained_row back r q) (b % 16) 0)) (sym f) (subst (goal (get_or front (b % 16) 0)) (sym g) told))
    (cases_eq (b % 16) r)

-- one more element in view
pub Contains-take_more : (xs : List ℕ) (i b : ℕ) → i < length xs → Contains (take (i + 1) xs) b ↔ (Contains (take i xs) b ⊎ (get_or xs i 0 ≡ b))
Contains-take_more xs i b l =
    let more = take_more xs i 0 l in
    let x = get_or xs i 0 in (
      λ h. Contains-push_cases (take i xs) x b (subst (λ ys. Contains ys b) more h),
      ⊎_elim
          (λ h. subst (λ ys. Contains ys b) (sym more) (Contains-append_left (take i xs) (x ∷ []) b h))
          (λ e. subst (λ ys. Contains ys b) (sym more) (subst (Contains (take i xs ++ x ∷ [])) e (Contains-push (take i xs) x))),
    )

or_left : (a b : Bool) → IsTrue a → IsTrue (a || b)
or_left true b h = refl
or_left false b h = absurd (false≢true h)

or_right : (a b : Bool) → IsTrue b → IsTrue (a || b)
or_right true b h = refl
or_right false b h = h

none_in_empty : {b : ℕ} → Contains [] b → ⊥
none_in_empty h = let l : h.0 < 0 = h.1 in omega arith

-- three bytes by comparison
pub Contains-three : (xs : List ℕ) (b : ℕ) → length xs ≡ 3 → IsTrue ((eqb b (get_or xs 0 0) || eqb b (get_or xs 1 0)) || eqb b (get_or xs 2 0)) ↔ Contains xs b
Contains-three xs b long = (
  λ h.
      let at = λ (k : ℕ) (l : k < length xs) (e : IsTrue (eqb b (get_or xs k 0))). subst (Contains xs) (sym (eqb-true b (get_or xs k 0) e)) (Contains-get_or xs k 0 l) in
      ⊎_elim (λ h. ⊎_elim (at 0 (omega arith)) (at 1 (omega arith)) (or_cases _ _ h)) (at 2 (omega arith)) (or_cases _ _ h),
  λ h.
      let k = h.0 in
      let l : k < length xs = h.1 in
      let e : get_or xs k 0 ≡ b = get_or_default xs k 0 b l ∙ h.2 in
      let first = eqb b (get_or xs 0 0) in
      let second = eqb b (get_or xs 1 0) in
      let third = eqb b (get_or xs 2 0) in
      let here = λ (j : ℕ) (same : k ≡ j). eq-eqb b (get_or xs j 0) (sym e ∙ ap (λ i. get_or xs i 0) same) in
      ⊎_elim (λ z. or_left (first || second) third (or_left first second (here 0 z)))
      (λ nz. ⊎_elim (λ o. or_left (first || second) third (or_right first second (here 1 o)))
      (λ no. or_right (first || second) third (here 2 (omega arith))) (cases_eq k 1)) (cases_eq k 0),
)

filter-cons : (p : ℕ → Bool) (x : ℕ) (xs : List ℕ) (t : Bool) → p x ≡ t → filter p (x ∷ xs) ≡ cond t (x ∷ filter p xs) (filter p xs)
filter-cons p x xs t e = ap (λ b. cond b (x ∷ filter p xs) (filter p xs)) e

-- what a filter keeps passes
passes-kept-cons : (p : ℕ → Bool) (x : ℕ) (xs : List ℕ) (b : ℕ) (t : Bool) → p x ≡ t → (Contains (filter p xs) b → IsTrue (p b))
    → Contains (cond t (x ∷ filter p xs) (filter p xs)) b → IsTrue (p b)
passes-kept-cons p x xs b true e rest h =
    ⊎_elim (λ one. ⊎_elim (λ none. absurd (none_in_empty none)) (λ same. subst (λ y. IsTrue (p y)) same e) (Contains-push_cases [] x b one)) rest
    (Contains-append_cases (x ∷ []) (filter p xs) b h)
passes-kept-cons p x xs b false e rest h = rest h

passes-kept : (p : ℕ → Bool) (xs : List ℕ) (b : ℕ) → Contains (filter p xs) b → IsTrue (p b)
passes-kept p [] b h = absurd (none_in_empty h)
passes-kept p (x ∷ xs) b h = passes-kept-cons p x xs b (p x) refl (passes-kept p xs b) h

-- a filter keeps what passes
kept-cons : (p : ℕ → Bool) (x : ℕ) (xs : List ℕ) (b : ℕ) (t : Bool) → p x ≡ t → IsTrue (p b) → (Contains xs b → Contains (filter p xs) b)
    → Contains (x ∷ xs) b → Contains (cond t (x ∷ filter p xs) (filter p xs)) b
kept-cons p x xs b true e passes rest h =
    ⊎_elim (λ one. Contains-append_left (x ∷ []) (filter p xs) b one) (λ more. Contains-append_right (x ∷ []) (filter p xs) b (rest more))
    (Contains-append_cases (x ∷ []) xs b h)
kept-cons p x xs b false e passes rest h =
    ⊎_elim
    (λ one. ⊎_elim (λ none. absurd (none_in_empty none)) (λ same. absurd (false≢true (sym e ∙ subst (λ y. IsTrue (p y)) (sym same) passes))) (Contains-push_cases [] x b one))
    rest
    (Contains-append_cases (x ∷ []) xs b h)

kept : (p : ℕ → Bool) (xs : List ℕ) (b : ℕ) → Contains xs b → IsTrue (p b) → Contains (filter p xs) b
kept p [] b h passes = absurd (none_in_empty h)
kept p (x ∷ xs) b h passes = kept-cons p x xs b (p x) refl passes (λ more. kept p xs b more passes) h

Contains-range : (n b : ℕ) → b < n → Contains (range_with_len 0 n) b
Contains-range n b l = (b, omega (arith, length-range_with_len 0 n), get_or-range_with_len 0 n b b l ∙ zero-add b)

Contains-all_bytes : (b : ℕ) → b < 256 → Contains all_bytes b
unfolding all_bytes
Contains-all_bytes b l = Contains-range 256 b l

-- a byte is one of the members exactly where the test passes
pub members_pass : (p : ℕ → Bool) (b : ℕ) → Contains (filter p all_bytes) b → IsTrue (p b)
members_pass p b h = passes-kept p all_bytes b h

pub passing_are_members : (p : ℕ → Bool) (b : ℕ) → b < 256 → IsTrue (p b) → Contains (filter p all_bytes) b
passing_are_members p b l h = kept p all_bytes b (Contains-all_bytes b l) h

-- the bytes of a list are bytes
pub Contains-lt : (xs : List ℕ) (b : ℕ) → ((k : ℕ) → Fits w8 (get_or xs k 0)) → Contains xs b → b < 256
Contains-lt xs b small h =
    let e : get_or xs h.0 0 ≡ b = get_or_default xs h.0 0 b h.1 ∙ h.2 in
    omega (arith, (small h.0).fits)

-- a next place by a test that says the same of bytes
pub IsNextPlace-same : (P Q : ℕ → Type 0) (file : List ℕ) (from place : ℕ) → ((k : ℕ) → Fits w8 (get_or file k 0)) → ((b : ℕ) → Q b → P b) → ((b : ℕ) → b < 256 → P b → Q b)
    → IsNextPlace P file from place → IsNextPlace Q file from place
IsNextPlace-same P Q file from place small back forth next = record {
  low = next.low;
  high = next.high;
  passed = λ k low high q. next.passed k low high (back (get_or file k 0) q);
  found = λ l. forth (get_or file place 0) (omega (arith, (small place).fits)) (next.found l);
}
