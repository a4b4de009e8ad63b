-- The ends from one place and those from the place behind it.
use Rattle.std.proofs.Common.{◌≡◌, ℕ, zero, suc, ◌+◌, ◌-◌, ◌^◌, ◌<◌, ◌≤◌, ◌⊎◌, inl, inr, Bool, true, false, IsTrue, List, [], length, Option, Some, None, refl, sym, ap, ◌∙◌, subst, arith, le_trans}
use Rattle.std.specs.Prelude.{slice_get, slice_index, if◌then◌else◌, ◌↔◌}
use Rattle.std.proofs.lemmas.Bool.{cases_lt}
use Rattle.std.proofs.lemmas.Option.{slice_get-get_or, slice_get_within, get_or_from_slice_get}
use Rattle.yr_base.specs.Places.{has_right_border}
use Rattle.yr_rows.specs.Moves.{move_at, NamesAmong, AreWellformedMoves}
use Rattle.yr_rows.specs.Accepts.{HasByte, ReadsForwards, Does, Run}
use Rattle.yr_rows.specs.declared.moves.MoveRow.{MoveRow}
use Rattle.yr_rows.specs.declared.moves.Move.{Move}
use Rattle.yr_rows.specs.declared.moves.Move.TheVariants.{Accept, Set, Fork, Test}
use Rattle.yr_moves.specs.Walks.{IsEnd}
use Rattle.yr_walks.specs.declared.carried.Carried.{Carried}
use Rattle.yr_walks.specs.Carried.{Holds, AreBelow, IsNoWorse, Falls}
use Rattle.yr_walks.specs.Arcs.{Leads, Joins, Stays}
use Rattle.yr_walks.specs.Spreads.{Grows, HasFloor, HoldsAs, Spreads, AreClosed, CameFrom, IsReady, Carries}
use Rattle.yr_walks.specs.EndWalks.{Walk, Kept, EndsFrom, AreBeyond, AreHere, HasRoom, IsMidway, IsBestEnd, or_else}
use Rattle.yr_walks.proofs.HoldLemmas.{grows_has, nothing_held, no_worse_trans, no_worse_is}
use Rattle.yr_walks.proofs.JoinLemmas.{move_within, names_of}
use Rattle.yr_walks.proofs.ListLemmas.{get_within}

module _ (moves : List MoveRow) (sets : List (List ℕ)) (file : List ℕ) where
  -- a chain rises and stays in the file
  rises_one : (v : Move) (i m1 i1 : ℕ) → Does (ReadsForwards file) sets file v i m1 i1 → i ≤ i1
  rises_one Accept i m1 i1 d = absurd d
  rises_one (Set next set) i m1 i1 d = omega (arith, d.3.0)
  rises_one (Fork a b) i m1 i1 d = omega (arith, d.1)
  rises_one (Test assertion next) i m1 i1 d = omega (arith, d.2)

  pub rises : (k m i e j : ℕ) → Run (ReadsForwards file) sets file moves k m i e j → i ≤ j
  rises zero m i e j r = omega (arith, r.1)
  rises (suc k) m i e j r = le_trans (rises_one r.0 i r.1 r.2 r.4) (rises k r.1 r.2 e j r.5)

  inside_one : (v : Move) (i m1 i1 : ℕ) → i ≤ length file → Does (ReadsForwards file) sets file v i m1 i1 → i1 ≤ length file
  inside_one Accept i m1 i1 le d = absurd d
  inside_one (Set next set) i m1 i1 le d = omega (arith, d.3.0, d.3.1)
  inside_one (Fork a b) i m1 i1 le d = omega (arith, d.1, le)
  inside_one (Test assertion next) i m1 i1 le d = omega (arith, d.2, le)

  pub stays_inside : (k m i e j : ℕ) → i ≤ length file → Run (ReadsForwards file) sets file moves k m i e j → j ≤ length file
  stays_inside zero m i e j le r = omega (arith, r.1, le)
  stays_inside (suc k) m i e j le r = stays_inside k r.1 r.2 e j (inside_one r.0 i r.1 r.2 le r.4) r.5

  -- a move that leads on here, or over the byte, does so in a chain
  here_does : (v : Move) (i x : ℕ) → x < length moves → Leads (length moves) sets file i v None x → Does (ReadsForwards file) sets file v i x i
  here_does Accept i x lt l = absurd (omega (arith, l, lt))
  here_does (Set next set) i x lt l = absurd l
  here_does (Fork next other) i x lt l = (l, refl)
  here_does (Test assertion next) i x lt l = (l.0, l.1, refl)

  over_does : (v : Move) (i b x : ℕ) → slice_get file i ≡ Some b → Leads (length moves) sets file i v (Some b) x → Does (ReadsForwards file) sets file v i x (i + 1)
  over_does Accept i b x at l = absurd l
  over_does (Set next set) i b x at l =
      let H : ℕ → Type 0 = HasByte l.1 in (l.0, l.1, l.2, (refl, slice_get_within file i b at, subst H (sym (get_or_from_slice_get file i b 0 at)) l.3))
  over_does (Fork next other) i b x at l = absurd l
  over_does (Test assertion next) i b x at l = absurd l

  abbrev Step : ℕ → ℕ → ℕ → ℕ → Type 0
  Step i m m1 i1 =
      ((i1 ≡ i) × Joins true moves sets file i None m1 m) ⊎ ((i1 ≡ i + 1) × (b : ℕ) × (slice_get file i ≡ Some b) × Joins true moves sets file i (Some b) m1 m)

  step_cases : (v : Move) (i m m1 i1 : ℕ) → move_at moves m ≡ Some v → Does (ReadsForwards file) sets file v i m1 i1 → Step i m m1 i1
  step_cases Accept i m m1 i1 at d = absurd d
  step_cases (Set next set) i m m1 i1 at d = inr (d.3.0, slice_index file i, slice_get-get_or file i 0 d.3.1, (Set next set, at, (d.0, d.1, d.2, d.3.2)))
  step_cases (Fork next other) i m m1 i1 at d = inl (d.1, (Fork next other, at, d.0))
  step_cases (Test assertion next) i m m1 i1 at d = inl (d.2, (Test assertion next, at, (d.0, d.1)))

module _ (walk : Walk) where
  abbrev Goes : ℕ → ℕ → ℕ → ℕ → ℕ → Type 0
  Goes k m i e j = Run (ReadsForwards walk.file) walk.sets walk.file walk.moves k m i e j

  abbrev Joined : ℕ → Option ℕ → ℕ → ℕ → Type 0
  Joined i byte x y = Joins true walk.moves walk.sets walk.file i byte x y

  pub ends_here : (i j x y : ℕ) → x < length walk.moves → Joined i None x y → EndsFrom walk x i j → EndsFrom walk y i j
  ends_here i j x y lt s e = (suc e.0, e.1, (s.0, x, i, s.1, here_does walk.moves walk.sets walk.file s.0 i x lt s.2, e.2), e.3, e.4)

  pub ends_over : (i j b x y : ℕ) → slice_get walk.file i ≡ Some b → Joined i (Some b) x y → EndsFrom walk x (i + 1) j → EndsFrom walk y i j
  ends_over i j b x y at s e = (suc e.0, e.1, (s.0, x, i + 1, s.1, over_does walk.moves walk.sets walk.file s.0 i b x at s.2, e.2), e.3, e.4)

  pub ends_stays : (k i j x y : ℕ) → x < length walk.moves → Stays true walk.moves walk.sets walk.file i k x y → EndsFrom walk x i j → EndsFrom walk y i j
  ends_stays zero i j x y lt s e = let E : ℕ → Type 0 = λ m. EndsFrom walk m i j in subst E s e
  ends_stays (suc k) i j x y lt s e = ends_stays k i j s.0 y (move_within walk.moves s.0 s.1.0 s.1.1) s.2 (ends_here i j x s.0 lt s.1 e)

  pub ends_rise : (m i j : ℕ) → EndsFrom walk m i j → i ≤ j
  ends_rise m i j e = rises walk.moves walk.sets walk.file e.0 m i e.1 j e.2

  pub ends_inside : (m i j : ℕ) → i ≤ length walk.file → EndsFrom walk m i j → j ≤ length walk.file
  ends_inside m i j le e = stays_inside walk.moves walk.sets walk.file e.0 m i e.1 j le e.2

  goes_at : (k m i i' e j : ℕ) → i ≡ i' → Goes k m i e j → Goes k m i' e j
  goes_at k m i i' e j s r = let G : ℕ → Type 0 = λ n. Goes k m n e j in subst G s r

  stays_below : (i k e x : ℕ) → e < length walk.moves → Stays true walk.moves walk.sets walk.file i k e x → x < length walk.moves
  stays_below i zero e x lt s = omega (arith, lt, s)
  stays_below i (suc k) e x lt s = stays_below i k s.0 x (move_within walk.moves s.0 s.1.0 s.1.1) s.2

  -- the file has a byte here, and what lists say of the place behind it was carried over the byte
  module _ (i b : ℕ) (at : slice_get walk.file i ≡ Some b) (first second before mid new : List Carried) (none : before ≡ [])
      (c1 : Carries true walk.moves walk.sets walk.file i b first 0 (length first) before mid) (c2 : Carries true walk.moves walk.sets walk.file i b second 0 (length second) mid new)
      (falls1 : Falls walk.greedy first) (falls2 : Falls walk.greedy second)
      (between : (m o m' o' : ℕ) → Holds first m o → Holds second m' o' → IsNoWorse walk.greedy o o')
      (sound : (m j : ℕ) → Holds first m j ⊎ Holds second m j → EndsFrom walk m (i + 1) j × (i + 1 ≤ j))
      (complete : (m j : ℕ) → EndsFrom walk m (i + 1) j → i + 1 ≤ j → HoldsAs walk.greedy j first m ⊎ HoldsAs walk.greedy j second m) where
    abbrev Ready : List Carried → ℕ → List Carried → Type 0
    Ready old k items = IsReady true walk.moves walk.sets walk.file i walk.greedy old k items

    ready_first : Ready first 0 before
    ready_first = record {
      falls = λ q q' d d' le e e'. absurd (nothing_held before d.by d.end none (q, e));
      closed = λ q d y lt e j. absurd (nothing_held before d.by d.end none (q, e));
      floor = λ q d le e m o h. absurd (nothing_held before m o none h);
    }

    ready_mid : Ready first (length first) mid
    ready_mid = c1.ready walk.greedy falls1 ready_first

    mid_from : (x o : ℕ) → Holds mid x o → (z : ℕ) × (e : ℕ) × (k : ℕ) × Holds first z o × Joined i (Some b) z e × Stays true walk.moves walk.sets walk.file i k e x
    mid_from x o h = elim (c1.only x o h) [
      | inl u ↦ absurd (nothing_held before u.0 o none u.2)
      | inr u ↦ (u.0, u.1, u.2, (u.3, u.6), u.7, u.8)
    ]

    ready_then : Ready second 0 mid
    ready_then = record {
      falls = ready_mid.falls;
      closed = ready_mid.closed;
      floor = λ q d le e m o h. let u = mid_from m o h in between u.0 o d.by d.end u.3 (q, e);
    }

    ready_new : Ready second (length second) new
    ready_new = c2.ready walk.greedy falls2 ready_then

    new_ends : (x z e k j : ℕ) → EndsFrom walk z (i + 1) j → Joined i (Some b) z e → Stays true walk.moves walk.sets walk.file i k e x → EndsFrom walk x i j
    new_ends x z e k j s over stays = ends_stays k i j e x (move_within walk.moves e over.0 over.1) stays (ends_over i j b z e at over s)

    new_sound : (m j : ℕ) → Holds new m j → EndsFrom walk m i j × (i < j)
    new_sound m j h = elim (c2.only m j h) [
      | inl u ↦
          let w = mid_from u.0 j u.2 in
          let s = sound w.0 j (inl w.3) in
          let there = new_ends u.0 w.0 w.1 w.2 j s.0 w.4 w.5 in
          (ends_stays u.1 i j u.0 m (stays_below i w.2 w.1 u.0 (move_within walk.moves w.1 w.4.0 w.4.1) w.5) u.3 there, omega (arith, s.1))
      | inr u ↦ let s = sound u.0 j (inr (u.3, u.6)) in (new_ends m u.0 u.1 u.2 j s.0 u.7 u.8, omega (arith, s.1))
    ]

    new_complete : (k m e j : ℕ) → Goes k m i e j → move_at walk.moves e ≡ Some Accept → IsTrue (has_right_border walk.border walk.file j) → i < j → HoldsAs walk.greedy j new m
    new_complete zero m e j r accept fits lt = absurd (omega (arith, r.1, lt))
    new_complete (suc k) m e j r accept fits lt = elim (step_cases walk.moves walk.sets walk.file r.0 i m r.1 r.2 r.3 r.4) [
      | inl s ↦
          let h = new_complete k r.1 e j (goes_at k r.1 r.2 i e j s.0 r.5) accept fits lt in
          let c = ready_new.closed h.1.0 (record { by = r.1; end = h.0 }) m (get_within new h.1.0 (record { by = r.1; end = h.0 }) h.1.1) h.1.1 s.1 in
          (c.0, c.1, no_worse_trans walk.greedy c.0 h.0 j c.2 h.2)
      | inr s ↦
          let rest = goes_at k r.1 r.2 (i + 1) e j s.0 r.5 in
          let one : b ≡ s.1 = let both : Some b ≡ Some s.1 = sym at ∙ s.2 in cc both in
          let J : ℕ → Type 0 = λ n. Joined i (Some n) r.1 m in
          let over = subst J (sym one) s.3 in
          elim (complete r.1 j (k, e, rest, accept, fits) (omega (arith, lt))) [
            | inl h ↦
                let d : Carried = record { by = r.1; end = h.0 } in
                let c = c1.reached walk.greedy falls1 ready_first h.1.0 d m (omega arith) (get_within first h.1.0 d h.1.1) h.1.1 over in
                (c.0, c2.keeps m c.0 c.1, no_worse_trans walk.greedy c.0 h.0 j c.2 h.2)
            | inr h ↦
                let d : Carried = record { by = r.1; end = h.0 } in
                let c = c2.reached walk.greedy falls2 ready_then h.1.0 d m (omega arith) (get_within second h.1.0 d h.1.1) h.1.1 over in
                (c.0, c.1, no_worse_trans walk.greedy c.0 h.0 j c.2 h.2)
          ]
    ]

    pub brought : AreBeyond walk i new
    brought = record {
      falls = ready_new.falls;
      sound = new_sound;
      complete = λ m j e lt. new_complete e.0 m e.1 j e.2 e.3 e.4 lt;
    }

  -- at the file's end nothing lies behind
  pub nothing_beyond : (i : ℕ) (new : List Carried) → i ≡ length walk.file → new ≡ [] → AreBeyond walk i new
  nothing_beyond i new last none = record {
    falls = λ q q' d d' le e e'. absurd (nothing_held new d.by d.end none (q, e));
    sound = λ m j h. absurd (nothing_held new m j none h);
    complete = λ m j e lt. absurd (omega (arith, last, lt, ends_inside m i j (omega (arith, last)) e));
  }

  -- the lists of the place behind, the better ends first
  module _ (i b : ℕ) (at : slice_get walk.file i ≡ Some b) (beyond here before mid new : List Carried) (none : before ≡ []) (far : AreBeyond walk (i + 1) beyond) (near : AreHere walk (i + 1) here) where
    same_end : Falls walk.greedy here
    same_end q q' d d' le e e' =
        let s = near.sound d.by d.end (q, e) in
        let s' = near.sound d'.by d'.end (q', e') in no_worse_is walk.greedy d.end d'.end (s.1 ∙ sym s'.1)

    any_sound : (m j : ℕ) → Holds beyond m j ⊎ Holds here m j → EndsFrom walk m (i + 1) j × (i + 1 ≤ j)
    any_sound m j (inl h) = let s = far.sound m j h in (s.0, omega (arith, s.1))
    any_sound m j (inr h) = let s = near.sound m j h in let E : ℕ → Type 0 = λ o. EndsFrom walk m (i + 1) o in (subst E (sym s.1) s.0, omega (arith, s.1))

    any_complete : (m j : ℕ) → EndsFrom walk m (i + 1) j → i + 1 ≤ j → HoldsAs walk.greedy j beyond m ⊎ HoldsAs walk.greedy j here m
    any_complete m j e le = elim (cases_lt (i + 1) j) [
      | inl lt ↦ inl (far.complete m j e lt)
      | inr ge ↦
          let same : j ≡ i + 1 = omega (arith, le, ge) in
          let E : ℕ → Type 0 = λ o. EndsFrom walk m (i + 1) o in
          inr (i + 1, near.complete m (subst E same e), no_worse_is walk.greedy (i + 1) j (sym same))
    ]

    swapped : {A B : Type 0} → A ⊎ B → B ⊎ A
    swapped (inl a) = inr a
    swapped (inr b) = inl b

    pub brought_greedy : walk.greedy ≡ true → Carries true walk.moves walk.sets walk.file i b beyond 0 (length beyond) before mid →
        Carries true walk.moves walk.sets walk.file i b here 0 (length here) mid new → AreBeyond walk i new
    brought_greedy is_greedy c1 c2 = brought i b at beyond here before mid new none c1 c2 far.falls same_end
        (λ m o m' o' h h'.
        let N : Bool → Type 0 = λ g. IsNoWorse g o o' in
        subst N (sym is_greedy) (omega (arith, (far.sound m o h).1, (near.sound m' o' h').1)))
        any_sound any_complete

    pub brought_least : walk.greedy ≡ false → Carries true walk.moves walk.sets walk.file i b here 0 (length here) before mid →
        Carries true walk.moves walk.sets walk.file i b beyond 0 (length beyond) mid new → AreBeyond walk i new
    brought_least is_least c1 c2 = brought i b at here beyond before mid new none c1 c2 same_end far.falls
        (λ m o m' o' h h'.
        let N : Bool → Type 0 = λ g. IsNoWorse g o o' in
        subst N (sym is_least) (omega (arith, (near.sound m o h).1, (far.sound m' o' h').1)))
        (λ m j h. any_sound m j (swapped h)) (λ m j e le. swapped (any_complete m j e le))

  -- the moves from which the place is an end: those that lead to Accept
  module _ (i : ℕ) (good : AreWellformedMoves walk.moves walk.sets) where
    reaches_end : (v : Move) (m : ℕ) → move_at walk.moves m ≡ Some v → Leads (length walk.moves) walk.sets walk.file i v None (length walk.moves) → v ≡ Accept
    reaches_end v m at l = is_accept v (names_of walk.moves walk.sets m v good at) l
      where
        is_accept : (u : Move) → NamesAmong (length walk.moves) (length walk.sets) u → Leads (length walk.moves) walk.sets walk.file i u None (length walk.moves) → u ≡ Accept
        is_accept Accept names l = refl
        is_accept (Set next set) names l = absurd l
        is_accept (Fork next other) names (inl l) = absurd (omega (arith, l, names.0))
        is_accept (Fork next other) names (inr l) = absurd (omega (arith, l, names.1))
        is_accept (Test assertion next) names l = absurd (omega (arith, l.0, names))

    module _ (before mid new : List Carried) (none : before ≡ []) (fits : IsTrue (has_right_border walk.border walk.file i))
        (s : Spreads true walk.moves walk.sets walk.file i None (length walk.moves) i before mid) (grows : Grows i mid new) (came : CameFrom true walk.moves walk.sets walk.file i mid new)
        (closed : AreClosed true walk.moves walk.sets walk.file i walk.greedy (length new) new) where
      here_sound : (m j : ℕ) → Holds new m j → EndsFrom walk m i i × (j ≡ i)
      here_sound m j h =
          let r = came m j h in
          elim (s.only r.0 j r.2) [
            | inl was ↦ absurd (nothing_held before r.0 j none was)
            | inr o ↦
                let v = o.1 in
                let accept : move_at walk.moves r.0 ≡ Some Accept = v.1 ∙ ap Some (reaches_end v.0 r.0 v.1 v.2) in
                (ends_stays r.1 i i r.0 m (move_within walk.moves r.0 v.0 v.1) r.3 (0, r.0, (refl, refl), accept, fits), o.0)
          ]

      here_complete : (k m e : ℕ) → Goes k m i e i → move_at walk.moves e ≡ Some Accept → Holds new m i
      here_complete zero m e r accept =
          let h = s.all m (Accept, ap (move_at walk.moves) r.0 ∙ accept, refl) in
          let there = grows_has i mid new m h.0 grows h.1 in
          let H : ℕ → Type 0 = λ o. Holds new m o in subst H (here_sound m h.0 there).1 there
      here_complete (suc k) m e r accept = elim (step_cases walk.moves walk.sets walk.file r.0 i m r.1 r.2 r.3 r.4) [
        | inl t ↦
            let h = here_complete k r.1 e (goes_at k r.1 r.2 i e i t.0 r.5) accept in
            let c = closed h.0 (record { by = r.1; end = i }) m (get_within new h.0 (record { by = r.1; end = i }) h.1) h.1 t.1 in
            let H : ℕ → Type 0 = λ o. Holds new m o in subst H (here_sound m c.0 c.1).1 c.1
        | inr t ↦ absurd (omega (arith, t.0, rises walk.moves walk.sets walk.file k r.1 r.2 e i r.5))
      ]

      pub looked : AreHere walk i new
      looked = record { sound = here_sound; complete = λ m e. here_complete e.0 m e.1 e.2 e.3 }

  -- what is joined at first carries the place
  pub joined_floor : (i : ℕ) (before mid : List Carried) → before ≡ [] → Spreads true walk.moves walk.sets walk.file i None (length walk.moves) i before mid → HasFloor walk.greedy i mid
  joined_floor i before mid none s m o h = elim (s.only m o h) [
    | inl was ↦ absurd (nothing_held before m o none was)
    | inr came ↦ no_worse_is walk.greedy o i came.0
  ]

  pub nothing_here : (i : ℕ) (new : List Carried) → new ≡ [] → (IsTrue (has_right_border walk.border walk.file i) → ⊥) → AreHere walk i new
  nothing_here i new none unfit = record {
    sound = λ m j h. absurd (nothing_held new m j none h);
    complete = λ m e. absurd (unfit e.4);
  }

  -- what the lists say of move 0
  module _ (i : ℕ) (beyond here : List Carried) (far : AreBeyond walk i beyond) (near : AreHere walk i here) (behind at : Option ℕ)
      (found : (j : ℕ) → (behind ≡ Some j) ↔ Holds beyond 0 j) (found_here : (j : ℕ) → (at ≡ Some j) ↔ Holds here 0 j) where
    abbrev End : ℕ → ℕ → Type 0
    End least j = IsEnd walk.moves walk.sets walk.file i least walk.border j

    ends_of : (least j : ℕ) → End least j → EndsFrom walk 0 i j
    ends_of least j e = (e.0.0, e.0.1, e.0.2, e.0.3, e.2)

    end_of : (least j : ℕ) → EndsFrom walk 0 i j → least ≤ j → End least j
    end_of least j e le = ((e.0, e.1, e.2, e.3), le, e.4)

    -- an end behind is no better than the one that was found
    best_behind : (j o : ℕ) → behind ≡ Some j → EndsFrom walk 0 i o → i < o → IsNoWorse walk.greedy j o
    best_behind j o is e lt =
        let h = far.complete 0 o e lt in
        let both : Some h.0 ≡ Some j = sym ((found h.0).1 h.1) ∙ is in
        let same : h.0 ≡ j = cc both in
        let N : ℕ → Type 0 = λ n. IsNoWorse walk.greedy n o in subst N same h.2

    none_behind : (o : ℕ) → behind ≡ None → EndsFrom walk 0 i o → i < o → ⊥
    none_behind o is e lt = let h = far.complete 0 o e lt in let both : None ≡ Some h.0 = sym is ∙ (found h.0).1 h.1 in cc both

    is_here : (j : ℕ) → at ≡ Some j → EndsFrom walk 0 i i × (j ≡ i)
    is_here j is = near.sound 0 j ((found_here j).0 is)

    not_here : at ≡ None → EndsFrom walk 0 i i → ⊥
    not_here is e = let both : None ≡ Some i = sym is ∙ (found_here i).1 (near.complete 0 e) in cc both

    here_or_behind : (o : ℕ) → EndsFrom walk 0 i o → (o ≡ i) ⊎ (i < o)
    here_or_behind o e = elim (cases_lt i o) [ inl lt ↦ inr lt | inr ge ↦ inl (omega (arith, ge, ends_rise 0 i o e)) ]

    pub best_beyond : IsBestEnd walk i (i + 1) behind
    best_beyond = of behind refl
      where
        of : (o : Option ℕ) → behind ≡ o → IsBestEnd walk i (i + 1) o
        of None is = λ j e. none_behind j is (ends_of (i + 1) j e) (omega (arith, e.1))
        of (Some j) is =
            let s = far.sound 0 j ((found j).0 is) in
            (end_of (i + 1) j s.0 (omega (arith, s.1)), λ o e. best_behind j o is (ends_of (i + 1) o e) (omega (arith, e.1)))

    at_least : (j : ℕ) → EndsFrom walk 0 i j → End i j
    at_least j e = end_of i j e (ends_rise 0 i j e)

    only_behind : behind ≡ None → (o : ℕ) → EndsFrom walk 0 i o → o ≡ i
    only_behind is o e = elim (here_or_behind o e) [ inl s ↦ s | inr lt ↦ absurd (none_behind o is e lt) ]

    best_greedy : walk.greedy ≡ true → (r s : Option ℕ) → behind ≡ r → at ≡ s → IsBestEnd walk i i (or_else r s)
    best_greedy is_greedy None None is is' = λ j e.
        let from = ends_of i j e in
        let E : ℕ → Type 0 = λ o. EndsFrom walk 0 i o in not_here is' (subst E (only_behind is j from) from)
    best_greedy is_greedy None (Some j) is is' =
        let h = is_here j is' in
        let E : ℕ → Type 0 = λ o. EndsFrom walk 0 i o in
        (at_least j (subst E (sym h.1) h.0), λ o e. no_worse_is walk.greedy j o (h.1 ∙ sym (only_behind is o (ends_of i o e))))
    best_greedy is_greedy (Some j) s is is' =
        let f = far.sound 0 j ((found j).0 is) in (
          at_least j f.0,
          λ o e. elim (here_or_behind o (ends_of i o e)) [
            | inl same ↦ let N : Bool → Type 0 = λ g. IsNoWorse g j o in subst N (sym is_greedy) (omega (arith, same, f.1))
            | inr lt ↦ best_behind j o is (ends_of i o e) lt
          ],
        )

    best_least : walk.greedy ≡ false → (r s : Option ℕ) → behind ≡ r → at ≡ s → IsBestEnd walk i i (or_else s r)
    best_least is_least r (Some j) is is' =
        let h = is_here j is' in
        let E : ℕ → Type 0 = λ o. EndsFrom walk 0 i o in
        (at_least j (subst E (sym h.1) h.0), λ o e. let N : Bool → Type 0 = λ g. IsNoWorse g j o in subst N (sym is_least) (omega (arith, h.1, e.1)))
    best_least is_least None None is is' = λ j e.
        let from = ends_of i j e in
        let E : ℕ → Type 0 = λ o. EndsFrom walk 0 i o in not_here is' (subst E (only_behind is j from) from)
    best_least is_least (Some j) None is is' =
        let f = far.sound 0 j ((found j).0 is) in (
          at_least j f.0,
          λ o e. elim (here_or_behind o (ends_of i o e)) [
            | inl same ↦ let E : ℕ → Type 0 = λ n. EndsFrom walk 0 i n in absurd (not_here is' (subst E same (ends_of i o e)))
            | inr lt ↦ best_behind j o is (ends_of i o e) lt
          ],
        )

    pub best_here : (best : Option ℕ) → best ≡ (if walk.greedy then or_else behind at else or_else at behind) → IsBestEnd walk i i best
    best_here best is = let I : Option ℕ → Type 0 = λ o. IsBestEnd walk i i o in subst I (sym is) (of walk.greedy refl)
      where
        of : (g : Bool) → walk.greedy ≡ g → IsBestEnd walk i i (if g then or_else behind at else or_else at behind)
        of true is_greedy = best_greedy is_greedy behind at refl refl
        of false is_least = best_least is_least behind at refl refl

-- a place without a byte is the end
pub past_end : (file : List ℕ) (i : ℕ) → i ≤ length file → slice_get file i ≡ None → i ≡ length file
past_end file i le none = elim (cases_lt i (length file)) [
  | inl lt ↦ let both : None ≡ Some (slice_index file i) = sym none ∙ slice_get-get_or file i 0 lt in cc both
  | inr ge ↦ omega (arith, le, ge)
]

-- what the lists say does not look at the walk's own place
pub moved_beyond : (walk : Walk) (p i : ℕ) (items : List Carried) → AreBeyond walk i items → AreBeyond (record walk { place = p }) i items
moved_beyond walk p i items a = record { falls = a.falls; sound = a.sound; complete = a.complete }

pub moved_here : (walk : Walk) (p i : ℕ) (items : List Carried) → AreHere walk i items → AreHere (record walk { place = p }) i items
moved_here walk p i items a = record { sound = a.sound; complete = a.complete }

pub midway_next : (walk next : Walk) (old new : Kept) → IsMidway walk old → 0 < walk.place → next ≡ record walk { place = walk.place - 1 } → HasRoom (length next.moves + 1) new →
    AreBelow (length next.moves) new.beyond.items → AreBelow (length next.moves) new.here.items → AreBeyond next next.place new.beyond.items → AreHere next next.place new.here.items → IsMidway next new
midway_next walk next old new m more is room below below_here far near =
    let G : Walk → Type 0 = λ x. AreWellformedMoves x.moves x.sets in
    let S : Walk → Type 0 = λ x. length x.file ≤ 2 ^ 28 in
    let P : Walk → Type 0 = λ x. x.place ≤ length x.file + 1 in
    record {
      wellformed = subst G (sym is) m.wellformed;
      small = subst S (sym is) m.small;
      place = subst P (sym is) (omega (arith, m.place));
      room = room;
      below = (below, below_here);
      beyond = λ le. far;
      here = λ le. near;
    }
