-- The search for an end, place by place.
use Rattle.std.proofs.Common.{◌≡◌, ℕ, ◌+◌, ◌-◌, ◌*◌, ◌<◌, ◌≤◌, ◌⊎◌, inl, inr, Bool, true, false, IsTrue, List, [], length, Option, Some, None, refl, sym, ap, ◌∙◌, subst, arith, true≢false, le_refl}
use Rattle.std.specs.Prelude.{slice_get, IfSome, IfNone, MatchOption}
use Rattle.std.specs.Bool.{MatchBool}
use Rattle.std.proofs.lemmas.Bool.{cases_lt}
use Rattle.std.proofs.Math.Nat.{mul-le-mul_left}
use Rattle.yr_base.specs.declared.border.Border.{Border}
use Rattle.yr_base.specs.Places.{has_right_border}
use Rattle.yr_rows.specs.Accepts.{ReadsForwards, Accepts}
use Rattle.yr_rows.specs.declared.moves.MoveRow.{MoveRow}
use Rattle.yr_moves.specs.Passes.{Passes, AreBelow}
use Rattle.yr_moves.specs.Walks.{Stands, IsBest, IsEnd}
use Rattle.yr_moves.proofs.MemberLemmas.{Joins, joins_has, joins_only, no_member}
use Rattle.yr_moves.proofs.SearchLemmas.{stands_nothing, stands_begin, found_accepts, accepts_found, stands_on, ahead_forwards, rises, stays_inside}

-- a set to which a first member came
pub first_member : (now now' : List ℕ) (n : ℕ) → now ≡ [] → Joins now now' 0 → 0 < n → Joins [] now' 0 × AreBelow n now' × (0 < length now')
first_member now now' n none j some =
    let J : List ℕ → Type 0 = λ l. Joins l now' 0 in
    let j' = subst J none j in (
      j',
      λ x c. elim (joins_only [] now' 0 x j' c) [ inl c0 ↦ absurd (omega (arith, c0.1)) | inr e ↦ omega (arith, e, some) ],
      let c = joins_has [] now' 0 j' in omega (arith, c.1),
    )

-- the steps of the places from `at` to before i, of a program of m moves
pub record Spent (m at i before steps : ℕ) : Type 0 where
  pub from : at ≤ i
  pub least : before + (i - at) ≤ steps
  pub most : steps ≤ before + m * (i - at)

pub spent_start : (m at before : ℕ) → Spent m at at before before
spent_start m at before = record { from = le_refl at; least = omega arith; most = omega arith }

pub spent_more : (m at i before steps steps' some : ℕ) → Spent m at i before steps → 0 < some → steps + some ≤ steps' → steps' ≤ steps + m → Spent m at (i + 1) before steps'
spent_more m at i before steps steps' some s nonempty low high =
    let next : i + 1 - at ≡ (i - at) + 1 = omega (arith, s.from) in
    let product : m * (i + 1 - at) ≡ m * (i - at) + m = ap (λ k. m * k) next ∙ (omega arith) in
    record { from = omega (arith, s.from); least = omega (arith, s.from, s.least, nonempty, low); most = omega (arith, product, s.most, high) }

pub spent_most : (m at i before steps end : ℕ) → Spent m at i before steps → i ≤ end → steps ≤ before + m * (end - at)
spent_most m at i before steps end s le =
    let fewer : i - at ≤ end - at = omega (arith, le) in omega (arith, s.most, mul-le-mul_left m fewer)

module _ (moves : List MoveRow) (sets : List (List ℕ)) (file : List ℕ) (at least : ℕ) (greedy : Bool) (border : Border) where
  abbrev End : ℕ → Type 0
  End = IsEnd moves sets file at least border

  abbrev Found : ℕ → ℕ → Type 0
  Found i j = IsEnd moves sets file at least border j × (greedy ≡ true) × (j < i) × ((o : ℕ) → IsEnd moves sets file at least border o → o < i → o ≤ j)

  -- all places before i are searched
  pub record Searching (i : ℕ) (now : List ℕ) (best : Option ℕ) : Type 0 where
    pub stands : Stands (ReadsForwards file) moves sets file (λ a. a ≡ at) (λ o. i ≤ o) i now
    pub some : (j : ℕ) → best ≡ Some j → Found i j
    pub none : best ≡ None → (o : ℕ) → IsEnd moves sets file at least border o → o < i → ⊥

  end_from : (o : ℕ) → End o → at ≤ o
  end_from o e = rises moves sets file e.0.0 0 at e.0.1 o e.0.2

  pub end_inside : at ≤ length file → (o : ℕ) → End o → o ≤ length file
  end_inside inside o e = stays_inside moves sets file e.0.0 0 at e.0.1 o inside e.0.2

  pub searching_start : (now : List ℕ) → Joins [] now 0 → Searching at now None
  searching_start now j = record {
    stands = stands_begin (ReadsForwards file) moves sets file (λ a. ⊥) (λ a. a ≡ at) (λ o. at ≤ o) at [] now (stands_nothing (ReadsForwards file) moves sets file (λ o. at ≤ o) at) j
        (λ a b. absurd b) refl (λ a e. inr e);
    some = λ j0 e. cc;
    none = λ e o end lt. let r = end_from o end in omega (arith, r, lt);
  }

  module _ (i : ℕ) (byte : Option ℕ) (now on : List ℕ) (best : Option ℕ) (found : Bool) (read : byte ≡ slice_get file i)
      (s : Searching i now best) (p : Passes moves sets file i byte now on found) where
    -- the search accepts at i exactly where the program does
    accepts_here : found ≡ true → Accepts moves sets file at i
    accepts_here e =
        let a = found_accepts (ReadsForwards file) moves sets file (λ x. x ≡ at) (λ o. i ≤ o) i byte (i + 1) now on found s.stands p e in
        let A : ℕ → Type 0 = λ x. Accepts moves sets file x i in subst A a.1 a.2

    found_here : Accepts moves sets file at i → found ≡ true
    found_here acc =
        accepts_found (ReadsForwards file) moves sets file (λ x. x ≡ at) (λ o. i ≤ o) i byte (i + 1) now on found s.stands p (ahead_forwards moves sets file i byte read) (le_refl i)
        (λ b e k m q r. let up = rises moves sets file k m (i + 1) q i r in omega (arith, up)) at refl acc

    next : (best' : Option ℕ) → ((j : ℕ) → best' ≡ Some j → Found (i + 1) j) → (best' ≡ None → (o : ℕ) → End o → o < i + 1 → ⊥) → Searching (i + 1) on best'
    next best' some none = record {
      stands = stands_on (ReadsForwards file) moves sets file (λ x. x ≡ at) (λ o. i ≤ o) i byte (i + 1) now on found s.stands p (ahead_forwards moves sets file i byte read) (λ o. i + 1 ≤ o)
          (λ o le. (omega (arith, le), λ e. omega (arith, le, e)));
      some = some;
      none = none;
    }

    before : (o : ℕ) → o < i + 1 → (o < i) ⊎ (o ≡ i)
    before o lt = grind arith

    not_here : (End i → ⊥) → (o : ℕ) → o ≡ i → End o → ⊥
    not_here no_end o e end = let E : ℕ → Type 0 = λ x. End x in no_end (subst E e end)

    -- this place gives nothing
    pub searching_keep : (best' : Option ℕ) → best' ≡ best → (found ≡ true → least ≤ i → IsTrue (has_right_border border file i) → ⊥) → Searching (i + 1) on best'
    searching_keep best' same idle =
        let no_end : End i → ⊥ = λ end. idle (found_here end.0) end.1 end.2 in
        next best'
        (λ j e. let b = s.some j (sym same ∙ e) in (
          b.0,
          b.1,
          omega (arith, b.2),
          λ o end lt. elim (before o lt) [ inl l ↦ b.3 o end l | inr h ↦ absurd (not_here no_end o h end) ],
        ))
        (λ e o end lt. elim (before o lt) [ inl l ↦ s.none (sym same ∙ e) o end l | inr h ↦ not_here no_end o h end ])

    -- this place is a greater end
    pub searching_new : (best' : Option ℕ) → best' ≡ Some i → found ≡ true → least ≤ i → IsTrue (has_right_border border file i) → greedy ≡ true → Searching (i + 1) on best'
    searching_new best' is yes_found le fits all =
        next best'
        (λ j e.
        let n : Some i ≡ Some j = sym is ∙ e in
        let m : i ≡ j = cc n in
        let F : ℕ → Type 0 = λ x. Found (i + 1) x in subst F m ((accepts_here yes_found, le, fits), all, omega arith, λ o end lt. omega (arith, lt)))
        (λ e. let wrong : Some i ≡ None = sym is ∙ e in cc wrong)

    -- this place is the least end
    pub least_end : found ≡ true → least ≤ i → IsTrue (has_right_border border file i) → greedy ≡ false → IsBest greedy End i
    least_end yes_found le fits lazy =
        let M : (o : ℕ) → Bool → Type 0 = λ o b. MatchBool b (o ≤ i) (i ≤ o) in
        ((accepts_here yes_found, le, fits), λ o end. subst (M o) (sym lazy) (from o end best s))
      where
        from : (o : ℕ) → End o → (b : Option ℕ) → Searching i now b → i ≤ o
        from o end None t = elim (cases_lt o i) [ inl lt ↦ absurd (t.none refl o end lt) | inr ge ↦ ge ]
        from o end (Some j) t = absurd (true≢false (sym (t.some j refl).1 ∙ lazy))

  -- no end is left
  pub finished : (i : ℕ) (now : List ℕ) (best : Option ℕ) → Searching i now best → ((o : ℕ) → End o → o < i) →
      IfSome best (λ j. IsBest greedy End j) × IfNone best ((o : ℕ) → End o → ⊥)
  finished i now None s over = (tt, λ o end. s.none refl o end (over o end))
  finished i now (Some j) s over =
      let f = s.some j refl in
      let M : (o : ℕ) → Bool → Type 0 = λ o b. MatchBool b (o ≤ j) (j ≤ o) in
      ((f.0, λ o end. subst (M o) (sym f.1) (f.3 o end (over o end))), tt)

  -- where no move stands any more, no end is left
  pub over_when_empty : (i : ℕ) (now : List ℕ) (best : Option ℕ) → Searching i now best → length now ≡ 0 → (o : ℕ) → End o → o < i
  over_when_empty i now best s none o end = elim (cases_lt o i) [
    | inl lt ↦ lt
    | inr ge ↦ let c = s.stands.complete at o refl ge end.0 in absurd (no_member now c.0 none c.3)
  ]

  -- what was found lies in the file
  pub inside_of : (i : ℕ) (now : List ℕ) (best : Option ℕ) → at ≤ length file → Searching i now best → IfSome best (λ j. j ≤ length file)
  inside_of i now None inside s = tt
  inside_of i now (Some j) inside s = end_inside inside j (s.some j refl).0

  -- what was found cost its places
  pub cost_of : (i m before steps : ℕ) (now : List ℕ) (best : Option ℕ) → Searching i now best → Spent m at i before steps → at < i →
      MatchOption best (before + 1 ≤ steps) (λ j. before + (j + 1 - at) ≤ steps)
  cost_of i m before steps now None s spent more = omega (arith, spent.least, more)
  cost_of i m before steps now (Some j) s spent more = let f = s.some j refl in omega (arith, spent.least, f.2)
