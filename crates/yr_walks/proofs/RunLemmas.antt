-- Chains of moves that go down.
use Rattle.std.proofs.Common.{◌≡◌, ℕ, zero, suc, ◌+◌, ◌<◌, ◌≤◌, ◌⊎◌, inl, inr, false, List, length, Option, Some, None, refl, sym, ap, ◌∙◌, subst, arith, le_trans}
use Rattle.std.specs.Prelude.{slice_get, slice_index}
use Rattle.std.proofs.lemmas.Option.{slice_get-get_or, slice_get_within, get_or_from_slice_get}
use Rattle.yr_rows.specs.Moves.{move_at, NamesAmong, AreWellformedMoves}
use Rattle.yr_rows.specs.Accepts.{HasByte, ReadsBackwards, Does, Run}
use Rattle.yr_rows.specs.declared.moves.MoveRow.{MoveRow}
use Rattle.yr_rows.specs.declared.moves.Move.{Move}
use Rattle.yr_rows.specs.declared.moves.Move.TheVariants.{Accept, Set, Fork, Test}
use Rattle.yr_walks.specs.Arcs.{Leads, Joins, Stays}
use Rattle.yr_walks.proofs.JoinLemmas.{move_within, names_of}

module _ (moves : List MoveRow) (sets : List (List ℕ)) (file : List ℕ) where
  abbrev pub Goes : ℕ → ℕ → ℕ → ℕ → ℕ → Type 0
  Goes k m i e j = Run (ReadsBackwards file) sets file moves k m i e j

  abbrev pub Joined : ℕ → Option ℕ → ℕ → ℕ → Type 0
  Joined i byte x y = Joins false moves sets file i byte x y

  abbrev pub Stay : ℕ → ℕ → ℕ → ℕ → Type 0
  Stay i k x y = Stays false moves sets file i k x y

  falls_one : (v : Move) (i m1 i1 : ℕ) → Does (ReadsBackwards file) sets file v i m1 i1 → i1 ≤ i
  falls_one Accept i m1 i1 d = absurd d
  falls_one (Set next set) i m1 i1 d = omega (arith, d.3.0)
  falls_one (Fork a b) i m1 i1 d = omega (arith, d.1)
  falls_one (Test assertion next) i m1 i1 d = omega (arith, d.2)

  pub falls : (k m i e j : ℕ) → Goes k m i e j → j ≤ i
  falls zero m i e j r = omega (arith, r.1)
  falls (suc k) m i e j r = le_trans (falls k r.1 r.2 e j r.5) (falls_one r.0 i r.1 r.2 r.4)

  pub goes_at : (k m i i' e j : ℕ) → i ≡ i' → Goes k m i e j → Goes k m i' e j
  goes_at k m i i' e j s r = let G : ℕ → Type 0 = λ n. Goes k m n e j in subst G s r

  run_at : (k m m' i i' a b : ℕ) → m ≡ m' → i ≡ i' → Goes k m i a b → Goes k m' i' a b
  run_at k m m' i i' a b p q r = let P : ℕ → Type 0 = λ x. Goes k x i a b in let Q : ℕ → Type 0 = λ y. Goes k m' y a b in subst Q q (subst P p r)

  join : (k1 k2 m i m1 i1 m2 i2 : ℕ) → Goes k1 m i m1 i1 → Goes k2 m1 i1 m2 i2 → (k : ℕ) × Goes k m i m2 i2
  join zero k2 m i m1 i1 m2 i2 r s = (k2, run_at k2 m1 m i1 i m2 i2 (sym r.0) (sym r.1) s)
  join (suc k1) k2 m i m1 i1 m2 i2 r s = let q = join k1 k2 r.1 r.2 m1 i1 m2 i2 r.5 s in (suc q.0, (r.0, r.1, r.2, r.3, r.4, q.1))

  here_does : (v : Move) (i x : ℕ) → x < length moves → Leads (length moves) sets file i v None x → Does (ReadsBackwards file) sets file v i x i
  here_does Accept i x lt l = absurd (omega (arith, l, lt))
  here_does (Set next set) i x lt l = absurd l
  here_does (Fork next other) i x lt l = (l, refl)
  here_does (Test assertion next) i x lt l = (l.0, l.1, refl)

  over_does : (v : Move) (i b x : ℕ) → slice_get file i ≡ Some b → Leads (length moves) sets file i v (Some b) x → Does (ReadsBackwards file) sets file v (i + 1) x i
  over_does Accept i b x at l = absurd l
  over_does (Set next set) i b x at l =
      let H : ℕ → Type 0 = HasByte l.1 in (l.0, l.1, l.2, (refl, slice_get_within file i b at, subst H (sym (get_or_from_slice_get file i b 0 at)) l.3))
  over_does (Fork next other) i b x at l = absurd l
  over_does (Test assertion next) i b x at l = absurd l

  abbrev Step : ℕ → ℕ → ℕ → ℕ → Type 0
  Step i m m1 i1 = ((i1 ≡ i) × Joined i None m m1) ⊎ ((i ≡ i1 + 1) × (b : ℕ) × (slice_get file i1 ≡ Some b) × Joined i1 (Some b) m m1)

  pub step_cases : (v : Move) (i m m1 i1 : ℕ) → move_at moves m ≡ Some v → Does (ReadsBackwards file) sets file v i m1 i1 → Step i m m1 i1
  step_cases Accept i m m1 i1 at d = absurd d
  step_cases (Set next set) i m m1 i1 at d = inr (d.3.0, slice_index file i1, slice_get-get_or file i1 0 d.3.1, (Set next set, at, (d.0, d.1, d.2, d.3.2)))
  step_cases (Fork next other) i m m1 i1 at d = inl (d.1, (Fork next other, at, d.0))
  step_cases (Test assertion next) i m m1 i1 at d = inl (d.2, (Test assertion next, at, (d.0, d.1)))

  -- a chain goes on by a move
  pub goes_here : (k m a i x y : ℕ) → Goes k m a x i → Joined i None x y → y < length moves → (l : ℕ) × Goes l m a y i
  goes_here k m a i x y r s lt = join k 1 m a x i y i r (s.0, y, i, s.1, here_does s.0 i y lt s.2, (refl, refl))

  pub goes_over : (k m a i b x y : ℕ) → Goes k m a x (i + 1) → slice_get file i ≡ Some b → Joined i (Some b) x y → (l : ℕ) × Goes l m a y i
  goes_over k m a i b x y r at s = join k 1 m a x (i + 1) y i r (s.0, y, i, s.1, over_does s.0 i b y at s.2, (refl, refl))

  stays_source : (i k x y : ℕ) → Stay i k x y → y < length moves → x < length moves
  stays_source i zero x y s lt = omega (arith, lt, s)
  stays_source i (suc k) x y s lt = move_within moves x s.1.0 s.1.1

  pub goes_stays : (l i k m a x y : ℕ) → Goes l m a x i → Stay i k x y → y < length moves → (n : ℕ) × Goes n m a y i
  goes_stays l i zero m a x y r s lt = let G : ℕ → Type 0 = λ z. Goes l m a z i in (l, subst G s r)
  goes_stays l i (suc k) m a x y r s lt =
      let one = goes_here l m a i x s.0 r s.1 (stays_source i k s.0 y s.2 lt) in goes_stays one.0 i k m a s.0 y one.1 s.2 lt

  -- the last of some steps
  pub stays_last : (i k x y : ℕ) → Stay i (suc k) x y → (z : ℕ) × Stay i k x z × Joined i None z y
  stays_last i zero x y s = let J : ℕ → Type 0 = λ n. Joined i None x n in (x, refl, subst J s.2 s.1)
  stays_last i (suc k) x y s = let r = stays_last i k s.0 y s.2 in (r.0, (s.0, s.1, r.1), r.2)

  module _ (good : AreWellformedMoves moves sets) where
    -- only Accept leads to the number of moves
    pub is_accept : (i z : ℕ) → Joined i None z (length moves) → move_at moves z ≡ Some Accept
    is_accept i z s = s.1 ∙ ap Some (accepts s.0 (names_of moves sets z s.0 good s.1) s.2)
      where
        accepts : (u : Move) → NamesAmong (length moves) (length sets) u → Leads (length moves) sets file i u None (length moves) → u ≡ Accept
        accepts Accept names l = refl
        accepts (Set next set) names l = absurd l
        accepts (Fork next other) names (inl l) = absurd (omega (arith, l, names.0))
        accepts (Fork next other) names (inr l) = absurd (omega (arith, l, names.1))
        accepts (Test assertion next) names l = absurd (omega (arith, l.0, names))

    -- over a byte a move leads to a move
    pub over_below : (i b x y : ℕ) → Joined i (Some b) x y → y < length moves
    over_below i b x y s = below s.0 (names_of moves sets x s.0 good s.1) s.2
      where
        below : (u : Move) → NamesAmong (length moves) (length sets) u → Leads (length moves) sets file i u (Some b) y → y < length moves
        below Accept names l = absurd l
        below (Set next set) names l = omega (arith, l.0, names.0)
        below (Fork next other) names l = absurd l
        below (Test assertion next) names l = absurd l
