-- The starts from one place and those from the place above it.
use Rattle.std.proofs.Common.{◌≡◌, ℕ, zero, suc, ◌+◌, ◌<◌, ◌≤◌, ◌⊎◌, inl, inr, false, List, [], ◌∷◌, length, Option, Some, None, refl, sym, ap, ◌∙◌, subst, arith}
use Rattle.std.specs.Prelude.{slice_get, slice_index, ◌↔◌}
use Rattle.std.proofs.lemmas.Option.{slice_get-get_or}
use Rattle.std.proofs.lemmas.Bool.{cases_lt}
use Rattle.yr_rows.specs.Moves.{move_at, AreWellformedMoves}
use Rattle.yr_rows.specs.declared.moves.Move.TheVariants.{Accept}
use Rattle.yr_walks.specs.declared.carried.Carried.{Carried}
use Rattle.yr_walks.specs.Carried.{Holds, IsNoWorse}
use Rattle.yr_walks.specs.Arcs.{Joins, Stays}
use Rattle.yr_walks.specs.Spreads.{HoldsAs, AreClosed}
use Rattle.yr_walks.proofs.ListLemmas.{get_within}
use Rattle.yr_walks.proofs.HoldLemmas.{nothing_held, no_worse_same, no_worse_trans}
use Rattle.yr_walks.proofs.JoinLemmas.{move_within}
use Rattle.yr_walks.specs.StartWalks.{Walk, Told, Tells, Kept, RunsDown, Reaches, StartsBelow, StartsHere, StartsAt, IsBestOf, AreCarried, AreOwn, Merges, IsBetter, IsMidway, IsReadyFor, only_with}
use Rattle.yr_walks.proofs.RunLemmas as runs

-- what is told besides
pub tells_more : (t : Told) (told : List Told) (a j : ℕ) → Tells told a j → Tells (t ∷ told) a j
tells_more t told a j h = (suc h.0, h.1, h.2, h.3, h.4)

pub tells_cases : (t : Told) (told : List Told) (a j : ℕ) → Tells (t ∷ told) a j → ((t.at ≡ a) × (t.near ≡ Some j)) ⊎ Tells told a j
tells_cases t told a j h = cases h.0 h.1 h.2 h.3 h.4
  where
    cases : (q : ℕ) (u : Told) → slice_get (t ∷ told) q ≡ Some u → u.at ≡ a → u.near ≡ Some j → ((t.at ≡ a) × (t.near ≡ Some j)) ⊎ Tells told a j
    cases zero u e at near =
        let same : t ≡ u = cc e in
        inl (ap (λ (x : Told). x.at) same ∙ at, ap (λ (x : Told). x.near) same ∙ near)
    cases (suc q) u e at near = inr (q, u, e, at, near)

module _ (walk : Walk) where
  abbrev Closed : ℕ → List Carried → Type 0
  Closed i items = AreClosed false walk.moves walk.sets walk.file i walk.greedy (length items) items

  -- a member with its end, followed by one step without a byte
  closed_step : (i : ℕ) (items : List Carried) (x y j : ℕ) → Closed i items → HoldsAs walk.greedy j items x → Joins false walk.moves walk.sets walk.file i None x y → HoldsAs walk.greedy j items y
  closed_step i items x y j closed h s =
      let d : Carried = record { by = x; end = h.0 } in
      let r = closed h.1.0 d y (get_within items h.1.0 d h.1.1) h.1.1 s in
      (r.0, r.1, no_worse_trans walk.greedy r.0 h.0 j r.2 h.2)

  module _ (told : List Told) (good : AreWellformedMoves walk.moves walk.sets) (i b : ℕ) (at : slice_get walk.file i ≡ Some b) (near : Option ℕ) (carried own new : List Carried)
      (old : AreCarried walk told (i + 1) carried) (mine : AreOwn walk near (i + 1) own) (is_near : (j : ℕ) → Tells told (i + 1) j → near ≡ Some j) (tells_near : (j : ℕ) → near ≡ Some j → Tells told (i + 1) j)
      (shut : Closed (i + 1) carried) (shut_own : Closed (i + 1) own) (merges : Merges walk.moves walk.sets walk.file i b walk.greedy carried own new) where
    abbrev From : ℕ → ℕ → Type 0
    From x j = (a : ℕ) × (k : ℕ) × (i < a) × Tells told a j × RunsDown walk k 0 a x (i + 1)

    source : (x j : ℕ) → Holds carried x j ⊎ Holds own x j → x < length walk.moves → From x j
    source x j (inl h) lt = let r = old.sound x j lt h in (r.0, r.1, omega (arith, r.2), r.3, r.4)
    source x j (inr h) lt =
        let r = mine.sound x j h in
        let run = runs.goes_stays walk.moves walk.sets walk.file 0 (i + 1) r.1 0 (i + 1) 0 x (refl, refl) r.2 lt in
        (i + 1, run.0, omega arith, tells_near j r.0, run.1)

    -- where an end comes down to
    down : (x e k y j : ℕ) → Holds carried x j ⊎ Holds own x j → Joins false walk.moves walk.sets walk.file i (Some b) x e → Stays false walk.moves walk.sets walk.file i k e y → y < length walk.moves →
        Reaches walk told i y j
    down x e k y j h over stays lt =
        let s = source x j h (move_within walk.moves x over.0 over.1) in
        let one = runs.goes_over walk.moves walk.sets walk.file s.1 0 s.0 i b x e s.4 at over in
        let all = runs.goes_stays walk.moves walk.sets walk.file one.0 i k 0 s.0 e y one.1 stays lt in
        (s.0, all.0, s.2, s.3, all.1)

    new_sound : (m j : ℕ) → m < length walk.moves → Holds new m j → Reaches walk told i m j
    new_sound m j lt h = let o = merges.only m j h in down o.0 o.1 o.2 m j o.3 o.4 o.5 lt

    new_accepts : (j : ℕ) → Holds new (length walk.moves) j → StartsBelow walk told i j
    new_accepts j h = let o = merges.only (length walk.moves) j h in accepts o.0 o.1 o.2 o.3 o.4 o.5
      where
        accepts : (x e k : ℕ) → Holds carried x j ⊎ Holds own x j → Joins false walk.moves walk.sets walk.file i (Some b) x e → Stays false walk.moves walk.sets walk.file i k e (length walk.moves) → StartsBelow walk told i j
        accepts x e zero h over stays = absurd (omega (arith, stays, runs.over_below walk.moves walk.sets walk.file good i b x e over))
        accepts x e (suc k) h over stays =
            let l = runs.stays_last walk.moves walk.sets walk.file i k e (length walk.moves) stays in
            (l.0, down x e k l.0 j h over l.1 (move_within walk.moves l.0 l.2.0 l.2.1), runs.is_accept walk.moves walk.sets walk.file good i l.0 l.2)

    abbrev Onwards : ℕ → ℕ → ℕ → Type 0
    Onwards j e o = (m : ℕ) × (l : ℕ) × HoldsAs walk.greedy j new m × RunsDown walk l m i e o

    walk_on : (l m e o j : ℕ) → o ≤ i → HoldsAs walk.greedy j carried m ⊎ HoldsAs walk.greedy j own m → RunsDown walk l m (i + 1) e o → Onwards j e o
    walk_on zero m e o j le h r = absurd (omega (arith, r.1, le))
    walk_on (suc l) m e o j le h r = elim (runs.step_cases walk.moves walk.sets walk.file r.0 (i + 1) m r.1 r.2 r.3 r.4) [
      | inl s ↦
          let rest = runs.goes_at walk.moves walk.sets walk.file l r.1 r.2 (i + 1) e o s.0 r.5 in
          elim h [
            | inl c ↦ walk_on l r.1 e o j le (inl (closed_step (i + 1) carried m r.1 j shut c s.1)) rest
            | inr c ↦ walk_on l r.1 e o j le (inr (closed_step (i + 1) own m r.1 j shut_own c s.1)) rest
          ]
      | inr s ↦
          let place : r.2 ≡ i = omega (arith, s.0) in
          let rest = runs.goes_at walk.moves walk.sets walk.file l r.1 r.2 i e o place r.5 in
          let byte : s.1 ≡ b = let both : Some s.1 ≡ Some b = sym s.2 ∙ ap (slice_get walk.file) place ∙ at in cc both in
          let P : ℕ → Type 0 = λ n. Joins false walk.moves walk.sets walk.file n (Some s.1) m r.1 in
          let B : ℕ → Type 0 = λ n. Joins false walk.moves walk.sets walk.file i (Some n) m r.1 in
          let over = subst B byte (subst P place s.3) in
          elim h [
            | inl c ↦ let q = merges.reached m c.0 r.1 (inl c.1) over in (r.1, l, (q.0, q.1, no_worse_trans walk.greedy q.0 c.0 j q.2 c.2), rest)
            | inr c ↦ let q = merges.reached m c.0 r.1 (inr c.1) over in (r.1, l, (q.0, q.1, no_worse_trans walk.greedy q.0 c.0 j q.2 c.2), rest)
          ]
    ]

    new_complete : (a j k e o : ℕ) → i < a → o ≤ i → Tells told a j → RunsDown walk k 0 a e o → move_at walk.moves e ≡ Some Accept → Onwards j e o
    new_complete a j k e o lt le tells run accept = elim (cases_lt (i + 1) a) [
      | inl higher ↦ let c = old.complete a j k e o higher (omega (arith, le)) tells run accept in walk_on c.1 c.0 e o j le (inl c.2) c.3
      | inr ge ↦
          let same : a ≡ i + 1 = omega (arith, lt, ge) in
          let T : ℕ → Type 0 = λ n. Tells told n j in
          let h = mine.first j (is_near j (subst T same tells)) in
          walk_on k 0 e o j le (inr (j, h, no_worse_same walk.greedy j)) (runs.goes_at walk.moves walk.sets walk.file k 0 a (i + 1) e o same run)
    ]

    pub carried_down : AreCarried walk told i new
    carried_down = record { sound = new_sound; accepts = new_accepts; complete = new_complete }

  -- nothing comes from above the file
  pub nothing_above : (told : List Told) (i : ℕ) (new : List Carried) → length walk.file ≤ i → new ≡ [] → ((a j : ℕ) → Tells told a j → a ≤ length walk.file) → AreCarried walk told i new
  nothing_above told i new last none inside = record {
    sound = λ m j lt h. absurd (nothing_held new m j none h);
    accepts = λ j h. absurd (nothing_held new (length walk.moves) j none h);
    complete = λ a j k e o lt le tells run accept. absurd (omega (arith, last, lt, inside a j tells));
  }

  -- what is told at the place does not come from above
  pub told_here : (told : List Told) (t : Told) (i : ℕ) (items : List Carried) → t.at ≡ i → AreCarried walk told i items → AreCarried walk (t ∷ told) i items
  told_here told t i items same c = record {
    sound = λ m j lt h. let r = c.sound m j lt h in (r.0, r.1, r.2, tells_more t told r.0 j r.3, r.4);
    accepts = λ j h. let r = c.accepts j h in (r.0, (r.1.0, r.1.1, r.1.2, tells_more t told r.1.0 j r.1.3, r.1.4), r.2);
    complete = λ a j k e o lt le tells run accept. elim (tells_cases t told a j tells) [
      | inl new ↦ absurd (omega (arith, new.0, same, lt))
      | inr was ↦ c.complete a j k e o lt le was run accept
    ];
  }

  -- the moves to which move 0 leads, with the end
  pub own_opened : (i end : ℕ) (items : List Carried) → ((m j : ℕ) → Holds items m j → (j ≡ end) × (k : ℕ) × Stays false walk.moves walk.sets walk.file i k 0 m) → Holds items 0 end → AreOwn walk (Some end) i items
  own_opened i end items from first = record {
    sound = λ m j h. let r = from m j h in (ap Some (sym r.0), r.1, r.2);
    first = λ j e. let same : end ≡ j = cc e in let H : ℕ → Type 0 = λ n. Holds items 0 n in subst H same first;
  }

  pub nothing_own : (i : ℕ) (items : List Carried) → items ≡ [] → AreOwn walk None i items
  nothing_own i items none = record { sound = λ m j h. absurd (nothing_held items m j none h); first = λ j e. cc e }

  -- what the lists say of Accept
  module _ (told : List Told) (good : AreWellformedMoves walk.moves walk.sets) (i : ℕ) (near far : Option ℕ) (carried own : List Carried) (above : AreCarried walk told i carried) (mine : AreOwn walk near i own)
      (shut : Closed i carried) (shut_own : Closed i own) (with_near : (j : ℕ) → far ≡ Some j → (o : ℕ) × (near ≡ Some o)) (found accepts result : Option ℕ)
      (is_found : (j : ℕ) → (found ≡ Some j) ↔ Holds carried (length walk.moves) j) (is_accepted : (j : ℕ) → (accepts ≡ Some j) ↔ Holds own (length walk.moves) j)
      (better : IsBetter walk.greedy found (only_with accepts far) result) where
    -- a chain that stays at the place leads from member to member, and to Accept
    through : (l m e j : ℕ) (items : List Carried) → Closed i items → HoldsAs walk.greedy j items m → RunsDown walk l m i e i → move_at walk.moves e ≡ Some Accept → HoldsAs walk.greedy j items (length walk.moves)
    through zero m e j items closed h r accept =
        closed_step i items m (length walk.moves) j closed h (Accept, ap (move_at walk.moves) r.0 ∙ accept, refl)
    through (suc l) m e j items closed h r accept = elim (runs.step_cases walk.moves walk.sets walk.file r.0 i m r.1 r.2 r.3 r.4) [
      | inl s ↦ through l r.1 e j items closed (closed_step i items m r.1 j closed h s.1) (runs.goes_at walk.moves walk.sets walk.file l r.1 r.2 i e i s.0 r.5) accept
      | inr s ↦ absurd (omega (arith, s.0, runs.falls walk.moves walk.sets walk.file l r.1 r.2 e i r.5))
    ]

    below_found : (j : ℕ) → StartsBelow walk told i j → (o : ℕ) × (result ≡ Some o) × IsNoWorse walk.greedy o j
    below_found j s =
        let r = s.1 in
        let c = above.complete r.0 j r.1 s.0 i r.2 (omega arith) r.3 r.4 s.2 in
        let h = through c.1 c.0 s.0 j carried shut c.2 c.3 s.2 in
        let f = better.first h.0 ((is_found h.0).1 h.1) in
        (f.0, f.1, no_worse_trans walk.greedy f.0 h.0 j f.2 h.2)

    here_found : (j : ℕ) → StartsHere walk far i j → (o : ℕ) × (result ≡ Some o) × IsNoWorse walk.greedy o j
    here_found j s =
        let n = with_near j s.0 in
        let h = through s.1 0 s.2 n.0 own shut_own (n.0, mine.first n.0 n.1, no_worse_same walk.greedy n.0) s.3 s.4 in
        let there : only_with accepts far ≡ Some j = ap (λ o. only_with o far) ((is_accepted h.0).1 h.1) ∙ s.0 in
        better.second j there

    any_found : (j : ℕ) → StartsAt walk told far i j → (o : ℕ) × (result ≡ Some o) × IsNoWorse walk.greedy o j
    any_found j (inl s) = below_found j s
    any_found j (inr s) = here_found j s

    with_other : (o f : Option ℕ) (j : ℕ) → only_with o f ≡ Some j → (v : ℕ) × (o ≡ Some v) × (f ≡ Some j)
    with_other None f j e = cc e
    with_other (Some v) f j e = (v, refl, e)

    here_starts : (j : ℕ) → only_with accepts far ≡ Some j → StartsHere walk far i j
    here_starts j e =
        let w = with_other accepts far j e in
        let h = mine.sound (length walk.moves) w.0 ((is_accepted w.0).0 w.1) in
        opened h.1 h.2 w.2
      where
        opened : (k : ℕ) → Stays false walk.moves walk.sets walk.file i k 0 (length walk.moves) → far ≡ Some j → StartsHere walk far i j
        opened zero s f = absurd (omega (arith, s, good.0))
        opened (suc k) s f =
            let l = runs.stays_last walk.moves walk.sets walk.file i k 0 (length walk.moves) s in
            let run = runs.goes_stays walk.moves walk.sets walk.file 0 i k 0 i 0 l.0 (refl, refl) l.1 (move_within walk.moves l.0 l.2.0 l.2.1) in
            (f, run.0, l.0, run.1, runs.is_accept walk.moves walk.sets walk.file good i l.0 l.2)

    starts : (j : ℕ) → result ≡ Some j → StartsAt walk told far i j
    starts j e = elim better.one [
      | inl f ↦ inl (above.accepts j ((is_found j).0 (sym f ∙ e)))
      | inr s ↦ inr (here_starts j (sym s ∙ e))
    ]

    pub best_start : IsBestOf walk.greedy (StartsAt walk told far i) result
    best_start = of result refl
      where
        of : (o : Option ℕ) → result ≡ o → IsBestOf walk.greedy (StartsAt walk told far i) o
        of None is = λ j s. let f = any_found j s in let both : None ≡ Some f.0 = sym is ∙ f.1 in cc both
        of (Some r) is = (
          starts r is,
          λ o s.
              let f = any_found o s in
              let both : Some f.0 ≡ Some r = sym f.1 ∙ is in
              let same : f.0 ≡ r = cc both in
              let N : ℕ → Type 0 = λ n. IsNoWorse walk.greedy n o in subst N same f.2,
        )

-- what the lists say does not look at the walk's own place
pub moved_carried : (walk : Walk) (p i : ℕ) (told : List Told) (items : List Carried) → AreCarried walk told i items → AreCarried (record walk { place = p }) told i items
moved_carried walk p i told items c = record { sound = c.sound; accepts = c.accepts; complete = c.complete }

pub moved_own : (walk : Walk) (p i : ℕ) (near : Option ℕ) (items : List Carried) → AreOwn walk near i items → AreOwn (record walk { place = p }) near i items
moved_own walk p i near items o = record { sound = o.sound; first = o.first }

-- a place without a byte is not in the file
past_end : (file : List ℕ) (i : ℕ) → slice_get file i ≡ None → length file ≤ i
past_end file i none = elim (cases_lt i (length file)) [
  | inl lt ↦ let both : None ≡ Some (slice_index file i) = sym none ∙ slice_get-get_or file i 0 lt in cc both
  | inr ge ↦ ge
]

-- one place down
module _ (walk : Walk) (told : List Told) (old : Kept) (i : ℕ) (place : walk.place ≡ i + 1) (ready : IsReadyFor walk old) (midway : IsMidway walk told old) where
  abbrev Next : Walk
  Next = record walk { place = i }

  -- what comes from above to the next place
  pub carried_next : (new : List Carried) → (slice_get walk.file i ≡ None → new ≡ []) →
      ((b : ℕ) → slice_get walk.file i ≡ Some b → Merges walk.moves walk.sets walk.file i b walk.greedy old.carried.items old.own.items new) → AreCarried Next told i new
  carried_next new past merges = of (slice_get walk.file i) refl
    where
      of : (o : Option ℕ) → slice_get walk.file i ≡ o → AreCarried Next told i new
      of None is = nothing_above Next told i new (past_end walk.file i is) (past is) (λ a j t. (midway.inside a j t).1)
      of (Some b) is =
          let C : ℕ → Type 0 = λ n. AreCarried walk told n old.carried.items in
          let O : ℕ → Type 0 = λ n. AreOwn walk midway.near n old.own.items in
          let T : ℕ → Type 0 = λ n. (j : ℕ) → Tells told n j → midway.near ≡ Some j in
          let U : ℕ → Type 0 = λ n. (j : ℕ) → midway.near ≡ Some j → Tells told n j in
          let S : ℕ → Type 0 = λ n. AreClosed false walk.moves walk.sets walk.file n walk.greedy (length old.carried.items) old.carried.items in
          let R : ℕ → Type 0 = λ n. AreClosed false walk.moves walk.sets walk.file n walk.greedy (length old.own.items) old.own.items in
          carried_down Next told ready.wellformed i b is midway.near old.carried.items old.own.items new (moved_carried walk i (i + 1) told old.carried.items (subst C place midway.carried))
          (moved_own walk i (i + 1) midway.near old.own.items (subst O place midway.own)) (subst T place midway.is_near) (subst U place midway.tells_near) (subst S place ready.shut.0) (subst R place ready.shut.1)
          (merges b is)

  pub midway_next : (new : Kept) (near far : Option ℕ) → AreCarried Next told i new.carried.items → AreOwn Next near i new.own.items → i ≤ length walk.file →
      IsMidway Next (record { at = i; near = near; far = far } ∷ told) new
  midway_next new near far carried own le =
      let t : Told = record { at = i; near = near; far = far } in
      record {
        inside = λ a j h. elim (tells_cases t told a j h) [
          | inl here ↦ (omega (arith, here.0), omega (arith, here.0, le))
          | inr was ↦ let r = midway.inside a j was in (omega (arith, r.0, place), r.1)
        ];
        carried = told_here Next told t i new.carried.items refl carried;
        near = near;
        is_near = λ j h. elim (tells_cases t told i j h) [
          | inl here ↦ here.1
          | inr was ↦ absurd (omega (arith, (midway.inside i j was).0, place))
        ];
        tells_near = λ j e. (0, t, refl, refl, e);
        own = own;
      }
