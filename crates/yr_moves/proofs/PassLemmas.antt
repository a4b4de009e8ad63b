-- A place of a search, member by member.
use Rattle.std.proofs.Common.{◌≡◌, ℕ, zero, suc, ◌+◌, ◌<◌, ◌≤◌, ◌⊎◌, inl, inr, Bool, true, false, List, [], length, Option, Some, Contains, refl, sym, ap, ◌∙◌, subst, arith, true≢false}
use Rattle.std.specs.Prelude.{slice_get}
use Rattle.yr_rows.specs.Moves.{move_at, NamesAmong}
use Rattle.yr_rows.specs.declared.moves.MoveRow.{MoveRow}
use Rattle.yr_rows.specs.declared.moves.Move.{Move}
use Rattle.yr_rows.specs.declared.moves.Move.TheVariants.{Accept}
use Rattle.yr_moves.specs.Passes.{Extends, LeadsHere, LeadsOver, Visits, Stays, StandsHere, Passes, AreBelow}
use Rattle.yr_moves.proofs.MemberLemmas.{extends_same, extends_trans, extends_has, extends_length, get_extended, get_member, member_get}
use Rattle.yr_moves.proofs.VisitLemmas.{names_here, names_over}

module _ (moves : List MoveRow) (sets : List (List ℕ)) (file : List ℕ) (i : ℕ) (byte : Option ℕ) where
  -- the first k members are done
  pub record Passing (k : ℕ) (start now on : List ℕ) (found : Bool) : Type 0 where
    pub done : k ≤ length now
    pub grows : Extends start now
    pub here : (q m : ℕ) (v : Move) (x : ℕ) → q < k → slice_get now q ≡ Some m → move_at moves m ≡ Some v → LeadsHere file i v x → Contains now x
    pub over : (q m : ℕ) (v : Move) (x : ℕ) → q < k → slice_get now q ≡ Some m → move_at moves m ≡ Some v → LeadsOver sets byte v x → Contains on x
    pub accepts : (q m : ℕ) → q < k → slice_get now q ≡ Some m → move_at moves m ≡ Some Accept → found ≡ true
    pub from : (x : ℕ) → Contains now x → StandsHere moves file i start x
    pub from_over : (x : ℕ) → Contains on x → (e : ℕ) × (v : Move) × StandsHere moves file i start e × (move_at moves e ≡ Some v) × LeadsOver sets byte v x
    pub from_accepts : found ≡ true → (e : ℕ) × StandsHere moves file i start e × (move_at moves e ≡ Some Accept)
    pub below : AreBelow (length moves) now
    pub below_on : AreBelow (length moves) on

  pub passing_start : (start on : List ℕ) → on ≡ [] → AreBelow (length moves) start → Passing 0 start start on false
  passing_start start on none below =
      let nothing : (x : ℕ) → Contains on x → ⊥ = λ x c. omega (arith, c.1, ap length none) in
      record {
        done = omega arith;
        grows = extends_same start;
        here = λ q m v x lt e at d. absurd (omega (arith, lt));
        over = λ q m v x lt e at d. absurd (omega (arith, lt));
        accepts = λ q m lt e at. absurd (omega (arith, lt));
        from = λ x c. (x, 0, c, refl);
        from_over = λ x c. absurd (nothing x c);
        from_accepts = λ e. absurd (true≢false (sym e));
        below = below;
        below_on = λ x c. absurd (nothing x c);
      }

  -- one move more
  one_more : (k m e : ℕ) (v : Move) (x : ℕ) → Stays moves file i k m e → move_at moves e ≡ Some v → LeadsHere file i v x → (n : ℕ) × Stays moves file i n m x
  one_more zero m e v x r at d = let same : move_at moves m ≡ move_at moves e = ap (move_at moves) r in (1, (v, x, same ∙ at, d, refl))
  one_more (suc k) m e v x r at d = let q = one_more k r.1 e v x r.4 at d in (suc q.0, (r.0, r.1, r.2, r.3, q.1))

  stands_more : (start : List ℕ) (e : ℕ) (v : Move) (x : ℕ) → StandsHere moves file i start e → move_at moves e ≡ Some v → LeadsHere file i v x → StandsHere moves file i start x
  stands_more start e v x s at d = let r = one_more s.1 s.0 e v x s.3 at d in (s.0, r.0, s.2, r.1)

  earlier : (q k : ℕ) → q < k + 1 → (q < k) ⊎ (q ≡ k)
  earlier q k lt = grind arith

  pub passing_step : (k : ℕ) (start now now' on on' : List ℕ) (found found' b : Bool) (m : ℕ) (v : Move) → k < length now → slice_get now k ≡ Some m → move_at moves m ≡ Some v →
      NamesAmong (length moves) (length sets) v → Passing k start now on found → Visits sets file i byte v now now' on on' b →
      (b ≡ true → found' ≡ true) → (found ≡ true → found' ≡ true) → (found' ≡ true → (b ≡ true) ⊎ (found ≡ true)) → Passing (k + 1) start now' on' found'
  passing_step k start now now' on on' found found' b m v inside stands is names p w now_found stays only =
      let this : (q m0 : ℕ) (u : Move) → q ≡ k → slice_get now q ≡ Some m0 → move_at moves m0 ≡ Some u → u ≡ v =
      λ q m0 u same e at.
      let both : Some m0 ≡ Some m = sym e ∙ ap (slice_get now) same ∙ stands in
      let one : m0 ≡ m = cc both in
      let moved : Some u ≡ Some v = sym at ∙ ap (move_at moves) one ∙ is in
      cc moved
      in
      let here_m = p.from m (member_get now k m stands) in
      record {
        done = omega (arith, inside, extends_length now now' w.grows);
        grows = extends_trans start now now' p.grows w.grows;
        here = λ q m0 u x lt e at d.
            let e' = get_extended now now' q m0 w.grows (omega (arith, lt, inside)) e in
            elim (earlier q k lt) [
              | inl lt1 ↦ extends_has now now' x w.grows (p.here q m0 u x lt1 e' at d)
              | inr same ↦ let D : Move → Type 0 = λ y. LeadsHere file i y x in w.here x (subst D (this q m0 u same e' at) d)
            ];
        over = λ q m0 u x lt e at d.
            let e' = get_extended now now' q m0 w.grows (omega (arith, lt, inside)) e in
            elim (earlier q k lt) [
              | inl lt1 ↦ extends_has on on' x w.grows_on (p.over q m0 u x lt1 e' at d)
              | inr same ↦ let D : Move → Type 0 = λ y. LeadsOver sets byte y x in w.over x (subst D (this q m0 u same e' at) d)
            ];
        accepts = λ q m0 lt e at.
            let e' = get_extended now now' q m0 w.grows (omega (arith, lt, inside)) e in
            elim (earlier q k lt) [
              | inl lt1 ↦ stays (p.accepts q m0 lt1 e' at)
              | inr same ↦ now_found (w.accepts (sym (this q m0 Accept same e' at)))
            ];
        from = λ x c. elim (w.only_here x c) [ inl c0 ↦ p.from x c0 | inr d ↦ stands_more start m v x here_m is d ];
        from_over = λ x c. elim (w.only_over x c) [ inl c0 ↦ p.from_over x c0 | inr d ↦ (m, v, here_m, is, d) ];
        from_accepts = λ e. elim (only e) [ inl h ↦ (m, here_m, is ∙ ap Some (w.only_accepts h)) | inr h ↦ p.from_accepts h ];
        below = λ x c. elim (w.only_here x c) [ inl c0 ↦ p.below x c0 | inr d ↦ names_here (length moves) (length sets) file i v x names d ];
        below_on = λ x c. elim (w.only_over x c) [ inl c0 ↦ p.below_on x c0 | inr d ↦ names_over (length moves) (length sets) sets byte v x names d ];
      }

  module _ (k : ℕ) (start now on : List ℕ) (found : Bool) (all : length now ≤ k) (p : Passing k start now on found) where
    -- what a member leads to is a member
    closed : (n m e : ℕ) → Contains now m → Stays moves file i n m e → Contains now e
    closed zero m e c r = let C : ℕ → Type 0 = λ y. Contains now y in subst C r c
    closed (suc n) m e c r =
        let q = get_member now m c in closed n r.1 e (p.here c.0 m r.0 r.1 (omega (arith, c.1, all)) q r.2 r.3) r.4

    member : (e : ℕ) → StandsHere moves file i start e → Contains now e
    member e s = closed s.1 s.0 e (extends_has start now s.0 p.grows s.2) s.3

    pub passing_done : Passes moves sets file i byte start on found
    passing_done = record {
      accepts = λ e s at. let c = member e s in p.accepts c.0 e (omega (arith, c.1, all)) (get_member now e c) at;
      over = λ e v x s at d. let c = member e s in p.over c.0 e v x (omega (arith, c.1, all)) (get_member now e c) at d;
      only_accepts = p.from_accepts;
      only_over = p.from_over;
    }
