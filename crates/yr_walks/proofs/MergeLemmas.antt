-- The ends of two lists, brought over a byte in the order of how good they are.
use Rattle.std.proofs.Common.{◌≡◌, ℕ, ◌<◌, ◌≤◌, ◌⊎◌, inl, inr, Bool, false, List, [], length, Some, arith}
use Rattle.std.specs.Prelude.{slice_get}
use Rattle.std.proofs.lemmas.Bool.{cases_lt}
use Rattle.yr_rows.specs.declared.moves.MoveRow.{MoveRow}
use Rattle.yr_walks.specs.declared.carried.Carried.{Carried}
use Rattle.yr_walks.specs.Carried.{Holds, IsNoWorse, Falls}
use Rattle.yr_walks.specs.Arcs.{Joins, Stays}
use Rattle.yr_walks.specs.Spreads.{HoldsAs, IsReady, Carries}
use Rattle.yr_walks.proofs.ListLemmas.{get_within}
use Rattle.yr_walks.proofs.HoldLemmas.{nothing_held, no_worse_is}
use Rattle.yr_walks.proofs.SpreadLemmas.{stays_join}
use Rattle.yr_walks.specs.StartWalks.{AreAlike, Merges}

module _ (moves : List MoveRow) (sets : List (List ℕ)) (file : List ℕ) (i b : ℕ) (greedy : Bool) (carried own before near mid new : List Carried) (s : ℕ) (none : before ≡ [])
    (falls : Falls greedy carried) (alike : AreAlike own)
    (front : (q q' : ℕ) (c d : Carried) → q < s → slice_get carried q ≡ Some c → slice_get own q' ≡ Some d → IsNoWorse greedy c.end d.end)
    (rest : (q q' : ℕ) (c d : Carried) → s ≤ q → slice_get carried q ≡ Some c → slice_get own q' ≡ Some d → IsNoWorse greedy d.end c.end)
    (c1 : Carries false moves sets file i b carried 0 s before near) (c2 : Carries false moves sets file i b own 0 (length own) near mid)
    (c3 : Carries false moves sets file i b carried s (length carried) mid new) where
  abbrev Ready : List Carried → ℕ → List Carried → Type 0
  Ready old k items = IsReady false moves sets file i greedy old k items

  abbrev Origin : ℕ → ℕ → Type 0
  Origin y j = (x : ℕ) × (e : ℕ) × (k : ℕ) × (Holds carried x j ⊎ Holds own x j) × Joins false moves sets file i (Some b) x e × Stays false moves sets file i k e y

  origin_more : (x y k j : ℕ) → Origin x j → Stays false moves sets file i k x y → Origin y j
  origin_more x y k j o s' = let t = stays_join false moves sets file i o.2 k o.1 x y o.5 s' in (o.0, o.1, t.0, o.3, o.4, t.1)

  ready_start : Ready carried 0 before
  ready_start = record {
    falls = λ q q' d d' le e e'. absurd (nothing_held before d.by d.end none (q, e));
    closed = λ q d y lt e j. absurd (nothing_held before d.by d.end none (q, e));
    floor = λ q d le e m o h. absurd (nothing_held before m o none h);
  }

  ready_near : Ready carried s near
  ready_near = c1.ready greedy falls ready_start

  falls_own : Falls greedy own
  falls_own q q' d d' le e e' = no_worse_is greedy d.end d'.end (alike q q' d d' e e')

  -- where the first members came from
  near_from : (y j : ℕ) → Holds near y j → Origin y j × ((x : ℕ) × (q : ℕ) × (q < s) × (slice_get carried q ≡ Some (record { by = x; end = j })))
  near_from y j h = elim (c1.only y j h) [
    | inl u ↦ absurd (nothing_held before u.0 j none u.2)
    | inr u ↦ ((u.0, u.1, u.2, inl (u.3, u.6), u.7, u.8), (u.0, u.3, u.5, u.6))
  ]

  ready_own : Ready own 0 near
  ready_own = record {
    falls = ready_near.falls;
    closed = ready_near.closed;
    floor = λ q d le e m o h. let u = (near_from m o h).1 in front u.1 q (record { by = u.0; end = o }) d u.2 u.3 e;
  }

  ready_mid : Ready own (length own) mid
  ready_mid = c2.ready greedy falls_own ready_own

  ready_rest : Ready carried s mid
  ready_rest = record {
    falls = ready_mid.falls;
    closed = ready_mid.closed;
    floor = λ q d le e m o h. elim (c2.only m o h) [
      | inl u ↦ ready_near.floor q d le e u.0 o u.2
      | inr u ↦ rest q u.3 d (record { by = u.0; end = o }) le e u.6
    ];
  }

  ready_new : Ready carried (length carried) new
  ready_new = c3.ready greedy falls ready_rest

  mid_from : (y j : ℕ) → Holds mid y j → Origin y j
  mid_from y j h = elim (c2.only y j h) [
    | inl u ↦ origin_more u.0 y u.1 j (near_from u.0 j u.2).0 u.3
    | inr u ↦ (u.0, u.1, u.2, inr (u.3, u.6), u.7, u.8)
  ]

  new_from : (y j : ℕ) → Holds new y j → Origin y j
  new_from y j h = elim (c3.only y j h) [
    | inl u ↦ origin_more u.0 y u.1 j (mid_from u.0 j u.2) u.3
    | inr u ↦ (u.0, u.1, u.2, inl (u.3, u.6), u.7, u.8)
  ]

  new_reached : (x j y : ℕ) → Holds carried x j ⊎ Holds own x j → Joins false moves sets file i (Some b) x y → HoldsAs greedy j new y
  new_reached x j y (inl h) over =
      let d : Carried = record { by = x; end = j } in
      elim (cases_lt h.0 s) [
        | inl lt ↦ let r = c1.reached greedy falls ready_start h.0 d y (omega arith) lt h.1 over in (r.0, c3.keeps y r.0 (c2.keeps y r.0 r.1), r.2)
        | inr ge ↦ let r = c3.reached greedy falls ready_rest h.0 d y ge (get_within carried h.0 d h.1) h.1 over in (r.0, r.1, r.2)
      ]
  new_reached x j y (inr h) over =
      let d : Carried = record { by = x; end = j } in
      let r = c2.reached greedy falls_own ready_own h.0 d y (omega arith) (get_within own h.0 d h.1) h.1 over in
      (r.0, c3.keeps y r.0 r.1, r.2)

  pub merged : Merges moves sets file i b greedy carried own new
  merged = record { falls = ready_new.falls; closed = ready_new.closed; reached = new_reached; only = new_from }
