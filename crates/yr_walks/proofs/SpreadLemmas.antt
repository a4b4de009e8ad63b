-- How ends spread at one place, member by member.
use Rattle.std.proofs.Common.{◌≡◌, ℕ, zero, suc, ◌+◌, ◌<◌, ◌≤◌, ◌⊎◌, inl, inr, Bool, true, false, List, length, Option, Some, None, refl, sym, ap, ◌∙◌, subst, arith}
use Rattle.std.specs.Prelude.{slice_get}
use Rattle.yr_rows.specs.Moves.{AreWellformedMoves}
use Rattle.yr_rows.specs.declared.moves.MoveRow.{MoveRow}
use Rattle.yr_walks.specs.declared.carried.Carried.{Carried}
use Rattle.yr_walks.specs.Carried.{Holds, AreBelow, Falls}
use Rattle.yr_walks.specs.Arcs.{Joins, Stays}
use Rattle.yr_walks.specs.Spreads.{Grows, HasFloor, HoldsAs, Spreads, AreClosed, CameFrom, IsReady, Carries, bound}
use Rattle.yr_walks.proofs.ListLemmas.{get_within, below_or_last}
use Rattle.yr_walks.proofs.HoldLemmas.{grows_same, grows_trans, grows_get, grows_has, grows_length, grows_old, grows_cases, no_worse_trans, no_worse_is}
use Rattle.yr_walks.proofs.JoinLemmas.{joins_below}

-- what grows by an end keeps it as a floor
pub floor_grows : (greatest : Bool) (end : ℕ) (old new : List Carried) → Grows end old new → HasFloor greatest end old → HasFloor greatest end new
floor_grows greatest end old new g floor m o h = elim (grows_cases end old new h.0 (record { by = m; end = o }) g h.1) [
  | inl was ↦ floor m o (h.0, was)
  | inr came ↦ no_worse_is greatest o end came.1
]

same_member : (xs : List Carried) (q q' : ℕ) (c c' : Carried) → q ≡ q' → slice_get xs q ≡ Some c → slice_get xs q' ≡ Some c' → c ≡ c'
same_member xs q q' c c' s e e' = let both : Some c ≡ Some c' = sym e ∙ ap (slice_get xs) s ∙ e' in cc both

module _ (back : Bool) (moves : List MoveRow) (sets : List (List ℕ)) (file : List ℕ) (i : ℕ) where
  abbrev Joined : Option ℕ → ℕ → ℕ → Type 0
  Joined byte x y = Joins back moves sets file i byte x y

  abbrev Stay : ℕ → ℕ → ℕ → Type 0
  Stay k x y = Stays back moves sets file i k x y

  pub stays_more : (k x y z : ℕ) → Stay k x y → Joined None y z → Stay (suc k) x z
  stays_more zero x y z s j = let J : ℕ → Type 0 = λ m. Joined None m z in (z, subst J (sym s) j, refl)
  stays_more (suc k) x y z s j = (s.0, s.1, stays_more k s.0 y z s.2 j)

  pub stays_join : (k l x y z : ℕ) → Stay k x y → Stay l y z → (n : ℕ) × Stay n x z
  stays_join zero l x y z s t = let S : ℕ → Type 0 = λ m. Stay l m z in (l, subst S (sym s) t)
  stays_join (suc k) l x y z s t = let r = stays_join k l s.0 y z s.2 t in (suc r.0, (s.0, s.1, r.1))

  closed_grows : (greatest : Bool) (k end : ℕ) (old new : List Carried) → Grows end old new → k ≤ length old → AreClosed back moves sets file i greatest k old → AreClosed back moves sets file i greatest k new
  closed_grows greatest k end old new g le closed q c y lt e j =
      let h = closed q c y lt (grows_old end old new q c g (omega (arith, lt, le)) e) j in
      (h.0, grows_has end old new y h.0 g h.1, h.2)

  below_spreads : (byte : Option ℕ) (x end : ℕ) (old new : List Carried) → AreWellformedMoves moves sets → Spreads back moves sets file i byte x end old new → AreBelow (bound back (length moves)) old →
      AreBelow (bound back (length moves)) new
  below_spreads byte x end old new good s below m j h = elim (s.only m j h) [
    | inl was ↦ below m j was
    | inr came ↦ joins_below moves sets file i back x m byte good came.1
  ]

  -- the first k members are done, of which those from `from` on came with the end
  pub record Closing (end from k : ℕ) (start now : List Carried) : Type 0 where
    pub after : from ≤ k
    pub done : k ≤ length now
    pub grows : Grows end start now
    pub ends : (q : ℕ) (c : Carried) → from ≤ q → slice_get now q ≡ Some c → c.end ≡ end
    pub closed : (greatest : Bool) → HasFloor greatest end start → AreClosed back moves sets file i greatest from start → AreClosed back moves sets file i greatest k now
    pub came : CameFrom back moves sets file i start now
    pub below : AreBelow (bound back (length moves)) now

  pub closing_start : (end from : ℕ) (start : List Carried) → from ≤ length start → ((q : ℕ) (c : Carried) → from ≤ q → slice_get start q ≡ Some c → c.end ≡ end) →
      AreBelow (bound back (length moves)) start → Closing end from from start start
  closing_start end from start le ends below = record {
    after = omega arith;
    done = le;
    grows = grows_same end start;
    ends = ends;
    closed = λ greatest floor closed. closed;
    came = λ y o h. (y, 0, h, refl);
    below = below;
  }

  pub closing_step : (end from k : ℕ) (c : Carried) (start now now' : List Carried) → AreWellformedMoves moves sets → Closing end from k start now → slice_get now k ≡ Some c →
      Spreads back moves sets file i None c.by end now now' → Closing end from (k + 1) start now'
  closing_step end from k c start now now' good p at s =
      let carries : c.end ≡ end = p.ends k c p.after at in
      record {
        after = omega (arith, p.after);
        done = omega (arith, get_within now k c at, grows_length end now now' s.grows);
        grows = grows_trans end start now now' p.grows s.grows;
        ends = λ q d le e. elim (grows_cases end now now' q d s.grows e) [ inl was ↦ p.ends q d le was | inr came ↦ came.1 ];
        closed = λ greatest floor closed q d y lt e j. elim (below_or_last q k lt) [
          | inl before ↦ closed_grows greatest k end now now' s.grows p.done (p.closed greatest floor closed) q d y before e j
          | inr last ↦
              let here : c ≡ d = same_member now' k q c d (sym last) (grows_get end now now' k c s.grows at) e in
              let J : Carried → Type 0 = λ m. Joined None m.by y in
              let h = s.all y (subst J (sym here) j) in
              let low = floor_grows greatest end now now' s.grows (floor_grows greatest end start now p.grows floor) in
              let worse = no_worse_trans greatest h.0 end d.end (low y h.0 h.1) (no_worse_is greatest end d.end (sym carries ∙ ap (λ (m : Carried). m.end) here)) in
              (h.0, h.1, worse)
        ];
        came = λ y o h. elim (s.only y o h) [
          | inl was ↦ p.came y o was
          | inr joined ↦
              let r = p.came c.by c.end (k, at) in
              let H : ℕ → Type 0 = λ n. Holds start r.0 n in
              (r.0, suc r.1, subst H (carries ∙ sym joined.0) r.2, stays_more r.1 r.0 c.by y r.3 joined.1)
        ];
        below = below_spreads None c.by end now now' good s p.below;
      }

  pub closing_end : (end from k : ℕ) (start now : List Carried) → Closing end from k start now → length now ≤ k → (greatest : Bool) → HasFloor greatest end start →
      AreClosed back moves sets file i greatest from start → AreClosed back moves sets file i greatest (length now) now
  closing_end end from k start now p le greatest floor closed q c y lt e j = p.closed greatest floor closed q c y (omega (arith, lt, le)) e j

  pub carries_start : (b : ℕ) (old : List Carried) (from : ℕ) (before : List Carried) → Carries back moves sets file i b old from from before before
  carries_start b old from before = record {
    ready = λ greatest falls r. r;
    keeps = λ m o h. h;
    reached = λ greatest falls r q c y le lt e j. absurd (omega (arith, le, lt));
    only = λ y o h. inl (y, 0, h, refl);
  }

  -- one member more, which is at place k
  module _ (b : ℕ) (old : List Carried) (from k : ℕ) (c : Carried) (before now mid new : List Carried) (le : from ≤ k) (at : slice_get old k ≡ Some c)
      (p : Carries back moves sets file i b old from k before now) (s : Spreads back moves sets file i (Some b) c.by c.end now mid)
      (closed : (greatest : Bool) → HasFloor greatest c.end mid → AreClosed back moves sets file i greatest (length now) mid → AreClosed back moves sets file i greatest (length new) new)
      (grows : Grows c.end mid new) (came : CameFrom back moves sets file i mid new) where
    all_grows : Grows c.end now new
    all_grows = grows_trans c.end now mid new s.grows grows

    low : (greatest : Bool) → IsReady back moves sets file i greatest old k now → HasFloor greatest c.end now
    low greatest r = r.floor k c (omega arith) at

    carries_ready : (greatest : Bool) → Falls greatest old → IsReady back moves sets file i greatest old from before → IsReady back moves sets file i greatest old (k + 1) new
    carries_ready greatest falls start =
        let r = p.ready greatest falls start in
        record {
          falls = λ q q' d d' le' e e'. elim (grows_cases c.end now new q' d' all_grows e') [
            | inl was' ↦ r.falls q q' d d' le' (grows_old c.end now new q d all_grows (omega (arith, le', get_within now q' d' was')) e) was'
            | inr came' ↦
                let floor = floor_grows greatest c.end now new all_grows (low greatest r) in
                no_worse_trans greatest d.end c.end d'.end (floor d.by d.end (q, e)) (no_worse_is greatest c.end d'.end (sym came'.1))
          ];
          closed = closed greatest (floor_grows greatest c.end now mid s.grows (low greatest r)) (closed_grows greatest (length now) c.end now mid s.grows (omega arith) r.closed);
          floor = λ q d le' e m o h. elim (grows_cases c.end now new h.0 (record { by = m; end = o }) all_grows h.1) [
            | inl was ↦ r.floor q d (omega (arith, le')) e m o (h.0, was)
            | inr came' ↦ no_worse_trans greatest o c.end d.end (no_worse_is greatest o c.end came'.1) (falls k q c d (omega (arith, le')) at e)
          ];
        }

    carries_reached : (greatest : Bool) → Falls greatest old → IsReady back moves sets file i greatest old from before → (q : ℕ) (d : Carried) (y : ℕ) → from ≤ q → q < k + 1 → slice_get old q ≡ Some d →
        Joined (Some b) d.by y → HoldsAs greatest d.end new y
    carries_reached greatest falls start q d y le' lt e j = elim (below_or_last q k lt) [
      | inl prior ↦ let h = p.reached greatest falls start q d y le' prior e j in (h.0, grows_has c.end now new y h.0 all_grows h.1, h.2)
      | inr last ↦
          let here : c ≡ d = same_member old k q c d (sym last) at e in
          let J : Carried → Type 0 = λ m. Joined (Some b) m.by y in
          let h = s.all y (subst J (sym here) j) in
          let floor = floor_grows greatest c.end now new all_grows (low greatest (p.ready greatest falls start)) in
          let h' = grows_has c.end mid new y h.0 grows h.1 in
          (h.0, h', no_worse_trans greatest h.0 c.end d.end (floor y h.0 h') (no_worse_is greatest c.end d.end (ap (λ (m : Carried). m.end) here)))
    ]

    abbrev Origin : ℕ → ℕ → Type 0
    Origin y o = ((x : ℕ) × (n : ℕ) × Holds before x o × Stay n x y)
        ⊎ ((x : ℕ) × (e : ℕ) × (n : ℕ) × (q : ℕ) × (from ≤ q) × (q < k + 1) × (slice_get old q ≡ Some (record { by = x; end = o })) × Joined (Some b) x e × Stay n e y)

    carries_only : (y o : ℕ) → Holds new y o → Origin y o
    carries_only y o h =
        let r = came y o h in
        elim (s.only r.0 o r.2) [
          | inl was ↦ elim (p.only r.0 o was) [
            | inl u ↦ let t = stays_join u.1 r.1 u.0 r.0 y u.3 r.3 in inl (u.0, t.0, u.2, t.1)
            | inr u ↦ let t = stays_join u.2 r.1 u.1 r.0 y u.8 r.3 in inr (u.0, u.1, t.0, u.3, u.4, omega (arith, u.5), u.6, u.7, t.1)
          ]
          | inr joined ↦ inr (c.by, r.0, r.1, k, le, omega arith, at ∙ ap (λ n. Some (record { by = c.by; end = n })) (sym joined.0), joined.1, r.3)
        ]

    pub carries_step : Carries back moves sets file i b old from (k + 1) before new
    carries_step = record {
      ready = carries_ready;
      keeps = λ m o h. grows_has c.end now new m o all_grows (p.keeps m o h);
      reached = carries_reached;
      only = carries_only;
    }

  pub carried_below : (byte : Option ℕ) (x end : ℕ) (old new : List Carried) → AreWellformedMoves moves sets → Spreads back moves sets file i byte x end old new → AreBelow (bound back (length moves)) old →
      AreBelow (bound back (length moves)) new
  carried_below = below_spreads

-- the moves that are joined, and their number when none is joined to
pub bound_inside : (back : Bool) (n m : ℕ) → m < bound back n → m ≤ n
bound_inside true n m lt = omega (arith, lt)
bound_inside false n m lt = omega (arith, lt)

pub below_all : (back : Bool) (n : ℕ) (items : List Carried) → AreBelow (bound back n) items → AreBelow (n + 1) items
below_all back n items below m j h = let le = bound_inside back n m (below m j h) in omega (arith, le)
