-- Parts of a program: a part leads from its entry to a next move by a relation on places, and no chain to the last move gets past it otherwise.
use Rattle.std.proofs.Common.{◌≡◌, ℕ, zero, suc, ◌<◌, ◌≤◌, ◌⊎◌, Bool, inl, inr, List, Some, refl, sym, ap, subst, arith, le_refl, le_trans}
use Rattle.std.specs.Prelude.{slice_get}
use Rattle.yr_pattern.specs.Spans.{Chain}
use Rattle.yr_program.specs.Acts.{Act, Stop, Branch, Does, Run}

abbrev pub Rel : Type 1
Rel = ℕ → ℕ → Type 0

module _ (read : (ℕ → Bool) → ℕ → ℕ → Type 0) (file : List ℕ) (moves : List Act) where
  abbrev pub Runs : ℕ → ℕ → ℕ → ℕ → ℕ → Type 0
  Runs = Run read file moves

  abbrev pub Ends : ℕ → Type 0
  Ends m = slice_get moves m ≡ Some Stop

  -- from the entry e to the move next, by R
  pub record Piece (e next : ℕ) (R : Rel) : Type 0 where
    pub go : (i j : ℕ) → R i j → (k : ℕ) × Runs k e i next j
    pub back : (k i m j : ℕ) → Ends m → Runs k e i m j → (i1 : ℕ) × (k2 : ℕ) × (k2 ≤ k) × R i i1 × Runs k2 next i1 m j

  -- a run from equal places
  pub run_at : (k m m' i i' a b : ℕ) → m ≡ m' → i ≡ i' → Runs k m i a b → Runs k m' i' a b
  run_at k m m' i i' a b p q r =
      let P : ℕ → Type 0 = λ x. Runs k x i a b in let Q : ℕ → Type 0 = λ y. Runs k m' y a b in subst Q q (subst P p r)

  pub join : (k1 k2 m i m1 i1 m2 i2 : ℕ) → Runs k1 m i m1 i1 → Runs k2 m1 i1 m2 i2 → (k : ℕ) × Runs k m i m2 i2
  join zero k2 m i m1 i1 m2 i2 r s = (k2, run_at k2 m1 m i1 i m2 i2 (sym r.0) (sym r.1) s)
  join (suc k1) k2 m i m1 i1 m2 i2 r s =
      let q = join k1 k2 r.1 r.2 m1 i1 m2 i2 r.5 s in (suc q.0, (r.0, r.1, r.2, r.3, r.4, q.1))

  -- the first step of a run to the last move, at another move
  pub peel : (v : Act) (k e i m j : ℕ) → slice_get moves e ≡ Some v → (v ≡ Stop → ⊥) → Ends m → Runs k e i m j →
      (k1 : ℕ) × (m1 : ℕ) × (i1 : ℕ) × (k1 < k) × Does read file v i m1 i1 × Runs k1 m1 i1 m j
  peel v zero e i m j at not_end ends r =
      let same : slice_get moves e ≡ slice_get moves m = ap (slice_get moves) r.0 in
      absurd (not_end (cc (at, ends, same)))
  peel v (suc k) e i m j at not_end ends r =
      let same : r.0 ≡ v = cc (at, r.3) in
      let D : Act → Type 0 = λ x. Does read file x i r.1 r.2 in
      (k, r.1, r.2, omega arith, subst D same r.4, r.5)

  pub same_piece : (e next : ℕ) (R S : Rel) → ((i j : ℕ) → R i j → S i j) → ((i j : ℕ) → S i j → R i j) → Piece e next R → Piece e next S
  same_piece e next R S to from p = record {
    go = λ i j h. p.go i j (from i j h);
    back = λ k i m j ends r. let a = p.back k i m j ends r in (a.0, a.1, a.2, to i a.0 a.3, a.4);
  }

  pub no_piece : (e : ℕ) → Piece e e (λ i j. i ≡ j)
  no_piece e = record {
    go = λ i j h. (0, (refl, h));
    back = λ k i m j ends r. (i, k, le_refl k, refl, r);
  }

  -- one move with one way on
  pub move_piece : (v : Act) (e next : ℕ) (R : Rel) → slice_get moves e ≡ Some v → (v ≡ Stop → ⊥) →
      ((i m j : ℕ) → Does read file v i m j → (m ≡ next) × R i j) → ((i j : ℕ) → R i j → Does read file v i next j) → Piece e next R
  move_piece v e next R at not_end to from = record {
    go = λ i j h. (1, (v, next, j, at, from i j h, (refl, refl)));
    back = λ k i m j ends r.
        let p = peel v k e i m j at not_end ends r in
        let d = to i p.1 p.2 p.4 in
        (p.2, p.0, omega (arith, p.3), d.1, run_at p.0 p.1 next p.2 p.2 m j d.0 refl p.5);
  }

  pub both_piece : (e middle next : ℕ) (R S : Rel) → Piece e middle R → Piece middle next S → Piece e next (λ i j. (k : ℕ) × R i k × S k j)
  both_piece e middle next R S p q = record {
    go = λ i j h.
        let a = p.go i h.0 h.1 in let b = q.go h.0 j h.2 in join a.0 b.0 e i middle h.0 next j a.1 b.1;
    back = λ k i m j ends r.
        let a = p.back k i m j ends r in let b = q.back a.1 a.0 m j ends a.4 in
        (b.0, b.1, le_trans b.2 a.2, (a.0, a.3, b.3), b.4);
  }

  fork_not_end : (a b : ℕ) → Branch a b ≡ Stop → ⊥
  fork_not_end a b h = cc

  pub either_piece : (e e1 e2 next : ℕ) (R S : Rel) → slice_get moves e ≡ Some (Branch e1 e2) → Piece e1 next R → Piece e2 next S →
      Piece e next (λ i j. R i j ⊎ S i j)
  either_piece e e1 e2 next R S at p q = record {
    go = λ i j h. elim h [
      | inl a ↦ let r = p.go i j a in (suc r.0, (Branch e1 e2, e1, i, at, (inl refl, refl), r.1))
      | inr b ↦ let r = q.go i j b in (suc r.0, (Branch e1 e2, e2, i, at, (inr refl, refl), r.1))
    ];
    back = λ k i m j ends r.
        let f = peel (Branch e1 e2) k e i m j at (fork_not_end e1 e2) ends r in
        elim f.4.0 [
          | inl a ↦ let b = p.back f.0 i m j ends (run_at f.0 f.1 e1 f.2 i m j a f.4.1 f.5) in
              (b.0, b.1, omega (arith, b.2, f.3), inl b.3, b.4)
          | inr a ↦ let b = q.back f.0 i m j ends (run_at f.0 f.1 e2 f.2 i m j a f.4.1 f.5) in
              (b.0, b.1, omega (arith, b.2, f.3), inr b.3, b.4)
        ];
  }

  module _ (l e next : ℕ) (R : Rel) (at : slice_get moves l ≡ Some (Branch e next)) (p : Piece e l R) where
    rounds_go : (c i j : ℕ) → Chain R c i j → (k : ℕ) × Runs k l i next j
    rounds_go zero i j h = (1, (Branch e next, next, i, at, (inr refl, refl), (refl, h)))
    rounds_go (suc c) i j h =
        let a = p.go i h.0 h.1 in let b = rounds_go c h.0 j h.2 in let r = join a.0 b.0 e i l h.0 next j a.1 b.1 in
        (suc r.0, (Branch e next, e, i, at, (inl refl, refl), r.1))

    rounds_back : (most k i m j : ℕ) → k ≤ most → Ends m → Runs k l i m j →
        (i1 : ℕ) × (k2 : ℕ) × (k2 ≤ k) × ((c : ℕ) × Chain R c i i1) × Runs k2 next i1 m j
    rounds_back zero k i m j le ends r =
        let f = peel (Branch e next) k l i m j at (fork_not_end e next) ends r in absurd (omega (arith, f.3))
    rounds_back (suc most) k i m j le ends r =
        let f = peel (Branch e next) k l i m j at (fork_not_end e next) ends r in
        elim f.4.0 [
          | inl a ↦
              let b = p.back f.0 i m j ends (run_at f.0 f.1 e f.2 i m j a f.4.1 f.5) in
              let d = rounds_back most b.1 b.0 m j (omega (arith, b.2, f.3)) ends b.4 in
              (d.0, d.1, omega (arith, d.2, b.2, f.3), (suc d.3.0, (b.0, b.3, d.3.1)), d.4)
          | inr a ↦ (i, f.0, omega (arith, f.3), (0, refl), run_at f.0 f.1 next f.2 i m j a f.4.1 f.5)
        ]

    pub loop_piece : Piece l next (λ i j. (c : ℕ) × Chain R c i j)
    loop_piece = record {
      go = λ i j h. rounds_go h.0 i j h.1;
      back = λ k i m j ends r. rounds_back k k i m j (le_refl k) ends r;
    }
