-- A sorted list of which the first is kept of each offset.
use Rattle.std.proofs.Common.{◌≡◌, ◌≢◌, ℕ, suc, ◌+◌, ◌<◌, ◌≤◌, inl, inr, Bool, true, false, cond, List, [], ◌∷◌, Contains, true≢false, refl, sym, ap, ◌∙◌, subst, arith}
use Rattle.std.specs.List.{dedup, dedup_from}
use Rattle.std.specs.List.Sorted.{IsNonDecreasingBy, IsPermutation}
use Rattle.std.proofs.lemmas.List.Kept.{Contains-from_dedup}
use Rattle.std.proofs.lemmas.List.Sorted.{Contains-permutation, IsPermutation-sym}
use Rattle.std.proofs.lemmas.Bool.Decides.{Decides-eqb}
use Rattle.yr_answer.specs.MatchList.{Match, RisesFrom}
use Rattle.yr_hits.proofs.MemberLemmas.{contains_first, contains_later, contains_none, contains_cases}
use Rattle.yr_hits.specs.Gathering.{DoesFor, IsSettled, AreShort, has_same_offset, order_of}

-- ---- the first of each offset

pub rises_weaken : (most least : ℕ) (xs : List Match) → least ≤ most → RisesFrom most xs → RisesFrom least xs
rises_weaken most least [] le r = tt
rises_weaken most least (x ∷ xs) le r = (omega (arith, le, r.0), r.1)

first_offset : (greatest : Bool) (k x : Match) → x.1 < 4294967296 → order_of greatest k ≤ order_of greatest x → k.0 ≤ x.0
first_offset true k x short le = omega (arith, short, le)
first_offset false k x short le = omega (arith, short, le)

does_for : (greatest : Bool) (k x : Match) → x.1 < 4294967296 → k.0 ≡ x.0 → order_of greatest k ≤ order_of greatest x
    → DoesFor greatest (k.0 + k.1) (x.0 + x.1)
does_for true k x short same le = omega (arith, short, same, le)
does_for false k x short same le = omega (arith, short, same, le)

different : (x k : Match) → has_same_offset x k ≡ false → x.0 ≢ k.0
different x k e same = true≢false (sym ((Decides-eqb x.0 k.0).1 same) ∙ e)

pub does_itself : (greatest : Bool) (n : ℕ) → DoesFor greatest n n
does_itself true n = omega arith
does_itself false n = omega arith

module _ (greatest : Bool) where
  -- no match stands before the one before it
  abbrev Sorts : Match → List Match → Type 0
  Sorts k [] = Unit {0}
  Sorts k (x ∷ xs) = (order_of greatest k ≤ order_of greatest x) × Sorts x xs

  sorts_from : (k : Match) (xs : List Match) → IsNonDecreasingBy (order_of greatest) (k ∷ xs) → Sorts k xs
  sorts_from k [] up = tt
  sorts_from k (x ∷ xs) up =
      (up 0 1 k (omega arith) (omega arith), sorts_from x xs (λ i j d le lt. up (suc i) (suc j) d (omega (arith, le)) (omega (arith, lt))))

  sorts_keep : (k x : Match) (xs : List Match) → order_of greatest k ≤ order_of greatest x → Sorts x xs → Sorts k xs
  sorts_keep k x [] le s = tt
  sorts_keep k x (y ∷ ys) le s = (omega (arith, le, s.0), s.1)

  short_tail : (k : Match) (xs : List Match) → AreShort (k ∷ xs) → AreShort xs
  short_tail k xs short m h = short m (contains_later k m xs h)

  short_skip : (k x : Match) (xs : List Match) → AreShort (k ∷ (x ∷ xs)) → AreShort (k ∷ xs)
  short_skip k x xs short m h = elim (contains_cases k m xs h) [
    | inl e ↦ short m (subst (Contains (k ∷ (x ∷ xs))) e (contains_first k (x ∷ xs)))
    | inr later ↦ short m (contains_later k m (x ∷ xs) (contains_later x m xs later))
  ]

  kept_rises : (k : Match) (xs : List Match) → AreShort (k ∷ xs) → Sorts k xs → RisesFrom k.0 (dedup_from has_same_offset k xs)
  kept_rises k [] short s = (omega arith, tt)
  kept_rises k (x ∷ xs) short s =
      let small : x.1 < 4294967296 = short x (contains_later k x (x ∷ xs) (contains_first x xs)) in
      elim (has_same_offset x k) as (λ b. has_same_offset x k ≡ b → RisesFrom k.0 (cond b (dedup_from has_same_offset k xs) (k ∷ dedup_from has_same_offset x xs))) [
        | true ↦ λ e. kept_rises k xs (short_skip k x xs short) (sorts_keep k x xs s.0 s.1)
        | false ↦ λ e.
            let other : x.0 ≢ k.0 = different x k e in
            let le = first_offset greatest k x small s.0 in
            (omega arith, rises_weaken x.0 (k.0 + 1) (dedup_from has_same_offset x xs) (omega (arith, le, other)) (kept_rises x xs (short_tail k (x ∷ xs) short) s.1))
      ] refl

  -- a match that is kept stands at the offset, and not behind
  abbrev KeptFor : Match → List Match → Type 0
  KeptFor m kept = (r : Match) × Contains kept r × (r.0 ≡ m.0) × (order_of greatest r ≤ order_of greatest m)

  kept_later : (k m : Match) (kept : List Match) → KeptFor m kept → KeptFor m (k ∷ kept)
  kept_later k m kept h = (h.0, contains_later k h.0 kept h.1, h.2, h.3)

  kept_best : (k : Match) (xs : List Match) → Sorts k xs → (m : Match) → Contains (k ∷ xs) m → KeptFor m (dedup_from has_same_offset k xs)
  kept_best k [] s m h = elim (contains_cases k m [] h) [
    | inl e ↦ (k, contains_first k [], ap (λ (y : Match). y.0) e, omega (arith, ap (order_of greatest) e))
    | inr later ↦ absurd (contains_none m later)
  ]
  kept_best k (x ∷ xs) s m h =
      elim (has_same_offset x k) as (λ b. has_same_offset x k ≡ b → KeptFor m (cond b (dedup_from has_same_offset k xs) (k ∷ dedup_from has_same_offset x xs))) [
        | true ↦ λ e.
            let same : x.0 ≡ k.0 = (Decides-eqb x.0 k.0).0 e in
            let go = kept_best k xs (sorts_keep k x xs s.0 s.1) in
            elim (contains_cases k m (x ∷ xs) h) [
              | inl is ↦ go m (subst (Contains (k ∷ xs)) is (contains_first k xs))
              | inr later ↦ elim (contains_cases x m xs later) [
                | inl is ↦
                    let first = go k (contains_first k xs) in
                    (first.0, first.1, first.2 ∙ sym same ∙ ap (λ (y : Match). y.0) is, omega (arith, first.3, s.0, ap (order_of greatest) is))
                | inr more ↦ go m (contains_later k m xs more)
              ]
            ]
        | false ↦ λ e. elim (contains_cases k m (x ∷ xs) h) [
          | inl is ↦ (k, contains_first k (dedup_from has_same_offset x xs), ap (λ (y : Match). y.0) is, omega (arith, ap (order_of greatest) is))
          | inr later ↦ kept_later k m (dedup_from has_same_offset x xs) (kept_best x xs s.1 m later)
        ]
      ] refl

  settled_cons : (k : Match) (xs : List Match) → AreShort (k ∷ xs) → Sorts k xs → IsSettled greatest (k ∷ xs) (dedup has_same_offset (k ∷ xs))
  settled_cons k xs short s = record {
    rises = rises_weaken k.0 0 (dedup_from has_same_offset k xs) (omega arith) (kept_rises k xs short s);
    from = λ m h. Contains-from_dedup has_same_offset (k ∷ xs) m h;
    best = λ i size h.
        let kept = kept_best k xs s (i, size) h in
        let there : Contains (dedup_from has_same_offset k xs) (i, kept.0.1) =
        subst (λ n. Contains (dedup_from has_same_offset k xs) (n, kept.0.1)) kept.2 kept.1 in
        let does = does_for greatest kept.0 (i, size) (short (i, size) h) kept.2 kept.3 in
        (kept.0.1, there, subst (λ n. DoesFor greatest (n + kept.0.1) (i + size)) kept.2 does);
  }

  settled_sorted : (sorted : List Match) → AreShort sorted → IsNonDecreasingBy (order_of greatest) sorted → IsSettled greatest sorted (dedup has_same_offset sorted)
  settled_sorted [] short up = record {
    rises = tt;
    from = λ m h. h;
    best = λ i size h. absurd (contains_none (i, size) h);
  }
  settled_sorted (k ∷ xs) short up = settled_cons k xs short (sorts_from k xs up)

  pub settled_by : (gathered sorted : List Match) → AreShort gathered → IsPermutation gathered sorted → IsNonDecreasingBy (order_of greatest) sorted
      → IsSettled greatest gathered (dedup has_same_offset sorted)
  settled_by gathered sorted short moved up =
      let back = IsPermutation-sym gathered sorted moved in
      let settled = settled_sorted sorted (λ m h. short m (Contains-permutation sorted gathered m back h)) up in
      record {
        rises = settled.rises;
        from = λ m h. Contains-permutation sorted gathered m back (settled.from m h);
        best = λ i size h. settled.best i size (Contains-permutation gathered sorted (i, size) moved h);
      }

  -- a list that rises stays as it is
  pub settled_already : (list : List Match) → RisesFrom 0 list → IsSettled greatest list list
  settled_already list r = record { rises = r; from = λ m h. h; best = λ i size h. (size, h, does_itself greatest (i + size)) }
