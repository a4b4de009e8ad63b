-- From one place of a search to the next, in either direction.
use Rattle.std.proofs.Common.{◌≡◌, ℕ, zero, suc, ◌+◌, ◌-◌, ◌<◌, ◌≤◌, ◌⊎◌, inl, inr, Bool, true, List, [], length, Option, Some, None, refl, sym, ◌∙◌, subst, arith, le_trans}
use Rattle.std.specs.Prelude.{slice_get, slice_index}
use Rattle.std.proofs.lemmas.Option.{slice_get-get_or, slice_get_within, get_or_from_slice_get}
use Rattle.yr_rows.specs.Moves.{move_at}
use Rattle.yr_rows.specs.Accepts.{HasByte, ReadsForwards, ReadsBackwards, Does, Run, AcceptsBy}
use Rattle.yr_rows.specs.declared.moves.MoveRow.{MoveRow}
use Rattle.yr_rows.specs.declared.moves.Move.{Move}
use Rattle.yr_rows.specs.declared.moves.Move.TheVariants.{Accept, Set, Fork, Test}
use Rattle.yr_moves.specs.Passes.{LeadsHere, LeadsOver, Stays, Passes}
use Rattle.yr_moves.specs.Walks.{Stands, byte_before}
use Rattle.yr_moves.proofs.MemberLemmas.{Joins, joins_extends, joins_has, joins_only, extends_has}

module _ (read : List ℕ → ℕ → ℕ → Type 0) (moves : List MoveRow) (sets : List (List ℕ)) (file : List ℕ) where
  abbrev pub Goes : ℕ → ℕ → ℕ → ℕ → ℕ → Type 0
  Goes k m i e j = Run read sets file moves k m i e j

  run_at : (k m m' i i' a b : ℕ) → m ≡ m' → i ≡ i' → Goes k m i a b → Goes k m' i' a b
  run_at k m m' i i' a b p q r =
      let P : ℕ → Type 0 = λ x. Goes k x i a b in let Q : ℕ → Type 0 = λ y. Goes k m' y a b in subst Q q (subst P p r)

  pub join : (k1 k2 m i m1 i1 m2 i2 : ℕ) → Goes k1 m i m1 i1 → Goes k2 m1 i1 m2 i2 → (k : ℕ) × Goes k m i m2 i2
  join zero k2 m i m1 i1 m2 i2 r s = (k2, run_at k2 m1 m i1 i m2 i2 (sym r.0) (sym r.1) s)
  join (suc k1) k2 m i m1 i1 m2 i2 r s = let q = join k1 k2 r.1 r.2 m1 i1 m2 i2 r.5 s in (suc q.0, (r.0, r.1, r.2, r.3, r.4, q.1))

  -- the byte that is read at place i, and the place behind it
  pub record IsAhead (i : ℕ) (byte : Option ℕ) (i1 : ℕ) : Type 0 where
    pub only : (bits : List ℕ) (j : ℕ) → read bits i j → (j ≡ i1) × (b : ℕ) × (byte ≡ Some b) × HasByte bits b
    pub goes : (bits : List ℕ) (b : ℕ) → byte ≡ Some b → HasByte bits b → read bits i i1

  step_cases : (v : Move) (i : ℕ) (byte : Option ℕ) (i1 m j : ℕ) → IsAhead i byte i1 → Does read sets file v i m j →
      ((j ≡ i) × LeadsHere file i v m) ⊎ ((j ≡ i1) × LeadsOver sets byte v m)
  step_cases Accept i byte i1 m j ahead d = absurd d
  step_cases (Set next set) i byte i1 m j ahead d = let o = ahead.only d.1 j d.3 in inr (o.0, (d.0, d.1, d.2, o.1, o.2, o.3))
  step_cases (Fork next other) i byte i1 m j ahead d = inl (d.1, d.0)
  step_cases (Test assertion next) i byte i1 m j ahead d = inl (d.2, (d.0, d.1))

  here_does : (v : Move) (i m : ℕ) → LeadsHere file i v m → Does read sets file v i m i
  here_does Accept i m d = absurd d
  here_does (Set next set) i m d = absurd d
  here_does (Fork next other) i m d = (d, refl)
  here_does (Test assertion next) i m d = (d.0, d.1, refl)

  over_does : (v : Move) (i : ℕ) (byte : Option ℕ) (i1 m : ℕ) → IsAhead i byte i1 → LeadsOver sets byte v m → Does read sets file v i m i1
  over_does Accept i byte i1 m ahead d = absurd d
  over_does (Set next set) i byte i1 m ahead d = (d.0, d.1, d.2, ahead.goes d.1 d.3 d.4 d.5)
  over_does (Fork next other) i byte i1 m ahead d = absurd d
  over_does (Test assertion next) i byte i1 m ahead d = absurd d

  over_byte : (v : Move) (byte : Option ℕ) (m : ℕ) → LeadsOver sets byte v m → (b : ℕ) × (byte ≡ Some b)
  over_byte Accept byte m d = absurd d
  over_byte (Set next set) byte m d = (d.3, d.4)
  over_byte (Fork next other) byte m d = absurd d
  over_byte (Test assertion next) byte m d = absurd d

  stays_run : (k m e i : ℕ) → Stays moves file i k m e → Goes k m i e i
  stays_run zero m e i s = (s, refl)
  stays_run (suc k) m e i s = (s.0, s.1, i, s.2, here_does s.0 i s.1 s.3, stays_run k s.1 e i s.4)

  -- a chain stays here to its end, or reads a byte first
  abbrev Parts : ℕ → Option ℕ → ℕ → ℕ → ℕ → ℕ → Type 0
  Parts i byte i1 m e j =
      ((j ≡ i) × (n : ℕ) × Stays moves file i n m e)
      ⊎ ((n : ℕ) × (e1 : ℕ) × (v : Move) × (x : ℕ) × (k : ℕ) × Stays moves file i n m e1 × (move_at moves e1 ≡ Some v) × LeadsOver sets byte v x × Goes k x i1 e j)

  parts : (k m i : ℕ) (byte : Option ℕ) (i1 e j : ℕ) → IsAhead i byte i1 → Goes k m i e j → Parts i byte i1 m e j
  parts zero m i byte i1 e j ahead r = inl (sym r.1, 0, r.0)
  parts (suc k) m i byte i1 e j ahead r = elim (step_cases r.0 i byte i1 r.1 r.2 ahead r.4) [
    | inl h ↦ elim (parts k r.1 i byte i1 e j ahead (run_at k r.1 r.1 r.2 i e j refl h.0 r.5)) [
      | inl p ↦ inl (p.0, suc p.1, (r.0, r.1, r.3, h.1, p.2))
      | inr p ↦ inr (suc p.0, p.1, p.2, p.3, p.4, (r.0, r.1, r.3, h.1, p.5), p.6, p.7, p.8)
    ]
    | inr h ↦ inr (0, m, r.0, r.1, k, refl, r.3, h.1, run_at k r.1 r.1 r.2 i1 e j refl h.0 r.5)
  ]

  pub stands_nothing : (Left : ℕ → Type 0) (i : ℕ) → Stands read moves sets file (λ a. ⊥) Left i []
  stands_nothing Left i = record {
    sound = λ x c. absurd (omega (arith, c.1));
    complete = λ a o b l acc. absurd b;
  }

  -- chains may also begin here
  pub stands_begin : (Begun Begun' Left : ℕ → Type 0) (i : ℕ) (now now' : List ℕ) → Stands read moves sets file Begun Left i now → Joins now now' 0 →
      ((a : ℕ) → Begun a → Begun' a) → Begun' i → ((a : ℕ) → Begun' a → Begun a ⊎ (a ≡ i)) → Stands read moves sets file Begun' Left i now'
  stands_begin Begun Begun' Left i now now' s j more here cases = record {
    sound = λ x c. elim (joins_only now now' 0 x j c) [
      | inl c0 ↦ let o = s.sound x c0 in (o.0, more o.0 o.1, o.2, o.3)
      | inr e ↦ (i, here, 0, (e, refl))
    ];
    complete = λ a o b l acc. elim (cases a b) [
      | inl b0 ↦ let c = s.complete a o b0 l acc in (c.0, c.1, c.2, extends_has now now' c.0 (joins_extends now now' 0 j) c.3, c.4, c.5)
      | inr e ↦ (0, acc.0, acc.1, joins_has now now' 0 j, run_at acc.0 0 0 a i acc.1 o refl e acc.2, acc.3)
    ];
  }

  module _ (Begun Left : ℕ → Type 0) (i : ℕ) (byte : Option ℕ) (i1 : ℕ) (now on : List ℕ) (found : Bool)
      (s : Stands read moves sets file Begun Left i now) (p : Passes moves sets file i byte now on found) where
    pub found_accepts : found ≡ true → (a : ℕ) × Begun a × AcceptsBy read sets file moves a i
    found_accepts e =
        let o = p.only_accepts e in
        let h = o.1 in
        let b = s.sound h.0 h.2 in
        let r = join b.2 h.1 0 b.0 h.0 i o.0 i b.3 (stays_run h.1 h.0 o.0 i h.3) in (b.0, b.1, (r.0, o.0, r.1, o.2))

    pub accepts_found : IsAhead i byte i1 → Left i → ((b : ℕ) → byte ≡ Some b → (k m e : ℕ) → Goes k m i1 e i → ⊥) → (a : ℕ) → Begun a → AcceptsBy read sets file moves a i → found ≡ true
    accepts_found ahead left away a b acc =
        let c = s.complete a i b left acc in
        elim (parts c.1 c.0 i byte i1 c.2 i ahead c.4) [
          | inl h ↦ p.accepts c.2 (c.0, h.1, c.3, h.2) c.5
          | inr h ↦ let o = over_byte h.2 byte h.3 h.7 in absurd (away o.0 o.1 h.4 h.3 c.2 h.8)
        ]

    pub stands_on : IsAhead i byte i1 → (Left' : ℕ → Type 0) → ((o : ℕ) → Left' o → Left o × ((o ≡ i) → ⊥)) → Stands read moves sets file Begun Left' i1 on
    stands_on ahead Left' later = record {
      sound = λ x c.
          let o = p.only_over x c in
          let h = o.2 in
          let b = s.sound h.0 h.2 in
          let r = join b.2 h.1 0 b.0 h.0 i o.0 i b.3 (stays_run h.1 h.0 o.0 i h.3) in
          let q = join r.0 1 0 b.0 o.0 i x i1 r.1 (o.1, x, i1, o.3, over_does o.1 i byte i1 x ahead o.4, (refl, refl)) in (b.0, b.1, q.0, q.1);
      complete = λ a o b l acc.
          let still = later o l in
          let c = s.complete a o b still.0 acc in
          elim (parts c.1 c.0 i byte i1 c.2 o ahead c.4) [
            | inl h ↦ absurd (still.1 h.0)
            | inr h ↦ (h.3, h.4, c.2, p.over h.1 h.2 h.3 (c.0, h.0, c.3, h.5) h.6 h.7, h.8, c.5)
          ];
    }

module _ (moves : List MoveRow) (sets : List (List ℕ)) (file : List ℕ) where
  pub ahead_forwards : (i : ℕ) (byte : Option ℕ) → byte ≡ slice_get file i → IsAhead (ReadsForwards file) moves sets file i byte (i + 1)
  ahead_forwards i byte is = record {
    only = λ bits j r. (r.0, slice_index file i, is ∙ slice_get-get_or file i 0 r.1, r.2);
    goes = λ bits b e has.
        let at : slice_get file i ≡ Some b = sym is ∙ e in
        let H : ℕ → Type 0 = HasByte bits in
        (refl, slice_get_within file i b at, subst H (sym (get_or_from_slice_get file i b 0 at)) has);
  }

  pub ahead_backwards : (i : ℕ) (byte : Option ℕ) → byte ≡ byte_before file i → IsAhead (ReadsBackwards file) moves sets file i byte (i - 1)
  ahead_backwards zero byte is = record {
    only = λ bits j r. absurd (omega (arith, r.0));
    goes = λ bits b e has. let wrong : None ≡ Some b = sym is ∙ e in cc wrong;
  }
  ahead_backwards (suc i) byte is =
      let back : suc i - 1 ≡ i = omega arith in
      let A : ℕ → Type 0 = λ x. IsAhead (ReadsBackwards file) moves sets file (suc i) byte x in
      subst A (sym back) (record {
        only = λ bits j r.
            let same : j ≡ i = omega (arith, r.0) in
            let H : ℕ → Type 0 = λ x. HasByte bits (slice_index file x) in
            let L : ℕ → Type 0 = λ x. x < length file in
            (same, slice_index file i, is ∙ slice_get-get_or file i 0 (subst L same r.1), subst H same r.2);
        goes = λ bits b e has.
            let at : slice_get file i ≡ Some b = sym is ∙ e in
            let H : ℕ → Type 0 = HasByte bits in
            (omega arith, slice_get_within file i b at, subst H (sym (get_or_from_slice_get file i b 0 at)) has);
      })

  -- read forwards, a chain rises and stays in the file
  rises_one : (v : Move) (i m1 i1 : ℕ) → Does (ReadsForwards file) sets file v i m1 i1 → i ≤ i1
  rises_one Accept i m1 i1 d = absurd d
  rises_one (Set next set) i m1 i1 d = omega (arith, d.3.0)
  rises_one (Fork a b) i m1 i1 d = omega (arith, d.1)
  rises_one (Test assertion next) i m1 i1 d = omega (arith, d.2)

  pub rises : (k m i e j : ℕ) → Run (ReadsForwards file) sets file moves k m i e j → i ≤ j
  rises zero m i e j r = omega (arith, r.1)
  rises (suc k) m i e j r = le_trans (rises_one r.0 i r.1 r.2 r.4) (rises k r.1 r.2 e j r.5)

  inside_one : (v : Move) (i m1 i1 : ℕ) → i ≤ length file → Does (ReadsForwards file) sets file v i m1 i1 → i1 ≤ length file
  inside_one Accept i m1 i1 le d = absurd d
  inside_one (Set next set) i m1 i1 le d = omega (arith, d.3.0, d.3.1)
  inside_one (Fork a b) i m1 i1 le d = omega (arith, d.1, le)
  inside_one (Test assertion next) i m1 i1 le d = omega (arith, d.2, le)

  pub stays_inside : (k m i e j : ℕ) → i ≤ length file → Run (ReadsForwards file) sets file moves k m i e j → j ≤ length file
  stays_inside zero m i e j le r = omega (arith, r.1, le)
  stays_inside (suc k) m i e j le r = stays_inside k r.1 r.2 e j (inside_one r.0 i r.1 r.2 le r.4) r.5

  -- read backwards, a chain falls
  falls_one : (v : Move) (i m1 i1 : ℕ) → Does (ReadsBackwards file) sets file v i m1 i1 → i1 ≤ i
  falls_one Accept i m1 i1 d = absurd d
  falls_one (Set next set) i m1 i1 d = omega (arith, d.3.0)
  falls_one (Fork a b) i m1 i1 d = omega (arith, d.1)
  falls_one (Test assertion next) i m1 i1 d = omega (arith, d.2)

  pub falls : (k m i e j : ℕ) → Run (ReadsBackwards file) sets file moves k m i e j → j ≤ i
  falls zero m i e j r = omega (arith, r.1)
  falls (suc k) m i e j r = le_trans (falls k r.1 r.2 e j r.5) (falls_one r.0 i r.1 r.2 r.4)
