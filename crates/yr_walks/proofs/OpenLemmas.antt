-- The end that is told at a place: move 0 and what it leads to.
use Rattle.std.proofs.Common.{◌≡◌, ℕ, ◌≤◌, inl, inr, Bool, false, List, [], ◌∷◌, ◌++◌, length, Some, None, refl, sym, ap, ◌∙◌, subst, arith}
use Rattle.std.specs.Prelude.{slice_get}
use Rattle.yr_rows.specs.Moves.{AreWellformedMoves}
use Rattle.yr_rows.specs.declared.moves.MoveRow.{MoveRow}
use Rattle.yr_walks.specs.declared.carried.Carried.{Carried}
use Rattle.yr_walks.specs.Carried.{Shown, Holds, Adds, AreBelow}
use Rattle.yr_walks.specs.Arcs.{Joins, Stays}
use Rattle.yr_walks.specs.Spreads.{Grows, HasFloor, Spreads, AreClosed, CameFrom, bound}
use Rattle.yr_walks.proofs.ListLemmas.{get_within}
use Rattle.yr_walks.proofs.HoldLemmas.{nothing_held, adds_only, grows_has, grows_cases, grows_get, grows_length, no_worse_is, no_worse_trans}
use Rattle.yr_walks.proofs.SpreadLemmas.{carried_below}
use Rattle.yr_walks.specs.StartWalks.{AreAlike}

module _ (end : ℕ) (empty first : Shown) (none : empty.items ≡ []) (adds : Adds empty first 0 end) where
  -- there is one member
  pub one_held : first.items ≡ record { by = 0; end = end } ∷ []
  one_held = elim adds.1 [
    | inl h ↦ absurd (nothing_held empty.items 0 h.0 none h.1)
    | inr h ↦ h ∙ ap (λ l. l ++ record { by = 0; end = end } ∷ []) none
  ]

  first_get : slice_get first.items 0 ≡ Some (record { by = 0; end = end })
  first_get = ap (λ l. slice_get l 0) one_held

  pub first_held : Holds first.items 0 end
  first_held = (0, first_get)

  pub only_held : (m j : ℕ) → Holds first.items m j → (m ≡ 0) × (j ≡ end)
  only_held m j h = elim (adds_only empty first 0 end m j adds h) [
    | inl was ↦ absurd (nothing_held empty.items m j none was)
    | inr came ↦ (sym came.0, came.1)
  ]

  pub one_long : length first.items ≡ 1
  one_long = ap length one_held

  module _ (moves : List MoveRow) (sets : List (List ℕ)) (file : List ℕ) (i : ℕ) (good : AreWellformedMoves moves sets) (mid : List Carried)
      (s : Spreads false moves sets file i None 0 end first.items mid) where
    pub mid_below : AreBelow (bound false (length moves)) mid
    mid_below = carried_below false moves sets file i None 0 end first.items mid good s (λ m j h. omega (arith, (only_held m j h).0))

    pub mid_long : 1 ≤ length mid
    mid_long = omega (arith, one_long, grows_length end first.items mid s.grows)

    pub mid_ends : (q : ℕ) (c : Carried) → 1 ≤ q → slice_get mid q ≡ Some c → c.end ≡ end
    mid_ends q c le e = elim (grows_cases end first.items mid q c s.grows e) [
      | inl was ↦ absurd (omega (arith, one_long, le, get_within first.items q c was))
      | inr came ↦ came.1
    ]

    mid_from : (m j : ℕ) → Holds mid m j → (j ≡ end) × (k : ℕ) × Stays false moves sets file i k 0 m
    mid_from m j h = elim (s.only m j h) [
      | inl was ↦ let o = only_held m j was in (o.1, 0, sym o.0)
      | inr came ↦ (came.0, 1, (m, came.1, refl))
    ]

    pub mid_floor : (greatest : Bool) → HasFloor greatest end mid
    mid_floor greatest m o h = no_worse_is greatest o end (mid_from m o h).0

    -- the first member is done
    pub mid_closed : (greatest : Bool) → AreClosed false moves sets file i greatest 1 mid
    mid_closed greatest q c y lt e j =
        let c0 : Carried = record { by = 0; end = end } in
        let place : q ≡ 0 = omega (arith, lt) in
        let there : slice_get mid 0 ≡ Some c0 = grows_get end first.items mid 0 c0 s.grows first_get in
        let both : Some c0 ≡ Some c = sym there ∙ ap (slice_get mid) (sym place) ∙ e in
        let same : c0 ≡ c = cc both in
        let J : Carried → Type 0 = λ x. Joins false moves sets file i None x.by y in
        let h = s.all y (subst J (sym same) j) in
        (h.0, h.1, no_worse_trans greatest h.0 end c.end (mid_floor greatest y h.0 h.1) (no_worse_is greatest end c.end (ap (λ (x : Carried). x.end) same)))

    module _ (new : List Carried) (grows : Grows end mid new) (came : CameFrom false moves sets file i mid new)
        (join : (k l x y z : ℕ) → Stays false moves sets file i k x y → Stays false moves sets file i l y z → (n : ℕ) × Stays false moves sets file i n x z) where
      pub new_from : (m j : ℕ) → Holds new m j → (j ≡ end) × (k : ℕ) × Stays false moves sets file i k 0 m
      new_from m j h =
          let r = came m j h in
          let o = mid_from r.0 j r.2 in
          let t = join o.1 r.1 0 r.0 m o.2 r.3 in (o.0, t.0, t.1)

      pub new_first : Holds new 0 end
      new_first = grows_has end mid new 0 end grows (grows_has end first.items mid 0 end s.grows first_held)

      pub new_alike : AreAlike new
      new_alike q q' c c' e e' = (new_from c.by c.end (q, e)).0 ∙ sym (new_from c'.by c'.end (q', e')).0
