-- Whether a program accepts anything in a text, found by trying all pairs of a move and a place.
use Rattle.std.proofs.Common.{◌≡◌, ℕ, zero, suc, ◌+◌, ◌≤◌, ◌<◌, ◌==◌, nat_lt, ◌/◌, ◌%◌, ◌⊎◌, inl, inr, ⊎_elim, Bool, true, false, ◌&&◌, ◌||◌, List, [], ◌∷◌, ◌++◌, length, Option, Some, None, slice_get, slice_index, Decides, refl, sym, ap, subst, ◌∙◌, true≢false, arith}
use Rattle.std.specs.Prelude.{IsTrue, ◌↔◌}
use Rattle.std.specs.Int.{bit_at}
use Rattle.std.specs.Option.{option_and_then}
use Rattle.std.proofs.lemmas.Bool.{cases_lt}
use Rattle.std.proofs.lemmas.Bool.Decides.{Decides-eqb, Decides-ltb, Decides-and, Decides-or, Decides-like}
use Rattle.std.proofs.lemmas.Option.{slice_get_within}
use Rattle.yr_rows.specs.Accepts.{ReadsForwards, holds, Does, Run, Accepts}
use Rattle.yr_rows.specs.Moves.{move_at, move_of}
use Rattle.yr_rows.specs.declared.moves.MoveRow.{MoveRow}
use Rattle.yr_rows.specs.declared.moves.Move.{Move}
use Rattle.yr_rows.specs.declared.moves.Move.TheVariants.{Accept, Set, Fork, Test}
use Rattle.yr_image.specs.declared.rows.ProgramRow.{ProgramRow}
use Rattle.yr_image.specs.Image.{Image, moves_of}
use Rattle.yr_machine.specs.ImageRun.{Occurs}
use Rattle.yr_machine.proofs.ReachLemmas.{In, within, within-leads, found-in-time, found-leads}

-- ---- pairs of numbers

-- a move and a place
abbrev State : Type 0
State = ℕ × ℕ

abbrev row_of_states : ℕ → ℕ → List State
row_of_states a zero = []
row_of_states a (suc n) = (a, n) ∷ row_of_states a n

abbrev states_below : ℕ → ℕ → List State
states_below zero n = []
states_below (suc m) n = row_of_states m n ++ states_below m n

in-front : (xs ys : List State) (s : State) → In xs s → In (xs ++ ys) s
in-front [] ys s h = absurd h
in-front (x ∷ xs) ys s (inl e) = inl e
in-front (x ∷ xs) ys s (inr h) = inr (in-front xs ys s h)

behind : (xs ys : List State) (s : State) → In ys s → In (xs ++ ys) s
behind [] ys s h = h
behind (x ∷ xs) ys s h = inr (behind xs ys s h)

in-row : (a n b : ℕ) → b < n → In (row_of_states a n) (a, b)
in-row a zero b h = absurd (omega (arith, h))
in-row a (suc n) b h = ⊎_elim (λ c. inr (in-row a n b c)) (λ c. let e : n ≡ b = omega (arith, h, c) in subst (λ (i : ℕ). In (row_of_states a (suc n)) (a, i)) e (inl refl)) (cases_lt b n)

below : (m n a b : ℕ) → a < m → b < n → In (states_below m n) (a, b)
below zero n a b h k = absurd (omega (arith, h))
below (suc m) n a b h k =
    ⊎_elim (λ c. behind (row_of_states m n) (states_below m n) (a, b) (below m n a b c k))
    (λ c. let e : a ≡ m = omega (arith, h, c) in subst (λ (i : ℕ). In (row_of_states m n ++ states_below m n) (i, b)) (sym e) (in-front (row_of_states m n) (states_below m n) (m, b) (in-row m n b k)))
    (cases_lt a m)

-- ---- one step

module _ (sets : List (List ℕ)) (text : List ℕ) where
  abbrev Reads : List ℕ → ℕ → ℕ → Type 0
  Reads bits i j = ReadsForwards text bits i j

  -- a byte of the set stands between the places
  abbrev reads : Option (List ℕ) → ℕ → ℕ → Bool
  reads None i j = false
  reads (Some bits) i j = (j == i + 1) && (nat_lt i (length text) && (bit_at (slice_index bits (slice_index text i / 8)) (slice_index text i % 8) == 1))

  -- the move leads from place i to move m and place j
  abbrev does : Move → ℕ → ℕ → ℕ → Bool
  does Accept i m j = false
  does (Set next set) i m j = (m == next) && reads (slice_get sets set) i j
  does (Fork next other) i m j = ((m == next) || (m == other)) && (j == i)
  does (Test assertion next) i m j = (m == next) && (holds assertion text i && (j == i))

  abbrev IsRead : ℕ → ℕ → ℕ → Type 0
  IsRead set i j = (bits : List ℕ) × (slice_get sets set ≡ Some bits) × Reads bits i j

  reads-decides : (set i j : ℕ) (o : Option (List ℕ)) → slice_get sets set ≡ o → Decides (reads o i j) (IsRead set i j)
  reads-decides set i j None e = (λ h. absurd (true≢false (sym h)), λ h. absurd (none-some h.0 (sym e ∙ h.1)))
    where
      none-some : (bits : List ℕ) → ◌≡◌ {A = Option (List ℕ)} None (Some bits) → ⊥
      none-some bits h = cc
  reads-decides set i j (Some bits) e =
      Decides-like (reads (Some bits) i j) (λ h. (bits, e, (h.0, h.1.0, h.1.1))) (λ h. back h.0 h.1 h.2)
      (Decides-and (j == i + 1) (nat_lt i (length text) && (bit_at (slice_index bits (slice_index text i / 8)) (slice_index text i % 8) == 1)) (Decides-eqb j (i + 1))
      (Decides-and (nat_lt i (length text)) (bit_at (slice_index bits (slice_index text i / 8)) (slice_index text i % 8) == 1) (Decides-ltb i (length text))
      (Decides-eqb (bit_at (slice_index bits (slice_index text i / 8)) (slice_index text i % 8)) 1)))
    where
      Parts : List ℕ → Type 0
      Parts other = (j ≡ i + 1) × ((i < length text) × (bit_at (slice_index other (slice_index text i / 8)) (slice_index text i % 8) ≡ 1))

      back : (other : List ℕ) → slice_get sets set ≡ Some other → Reads other i j → Parts bits
      back other f h = subst Parts (same other (sym f ∙ e)) (h.0, (h.1, h.2))
        where
          same : (other : List ℕ) → ◌≡◌ {A = Option (List ℕ)} (Some other) (Some bits) → other ≡ bits
          same other g = cc

  does-decides : (v : Move) (i m j : ℕ) → Decides (does v i m j) (Does Reads sets text v i m j)
  does-decides Accept i m j = (λ h. absurd (true≢false (sym h)), λ h. absurd h)
  does-decides (Set next set) i m j =
      Decides-like (does (Set next set) i m j) (λ h. (h.0, h.1.0, h.1.1, h.1.2)) (λ h. (h.0, (h.1, h.2, h.3)))
      (Decides-and (m == next) (reads (slice_get sets set) i j) (Decides-eqb m next) (reads-decides set i j (slice_get sets set) refl))
  does-decides (Fork next other) i m j =
      Decides-and ((m == next) || (m == other)) (j == i) (Decides-or (m == next) (m == other) (Decides-eqb m next) (Decides-eqb m other)) (Decides-eqb j i)
  does-decides (Test assertion next) i m j =
      Decides-like (does (Test assertion next) i m j) (λ h. (h.0, h.1.0, h.1.1)) (λ h. (h.0, (h.1, h.2)))
      (Decides-and (m == next) (holds assertion text i && (j == i)) (Decides-eqb m next)
      (Decides-and (holds assertion text i) (j == i) (λ h. h, λ h. h) (Decides-eqb j i)))

  -- a step leads to a place of the text, or to its end
  stays : (v : Move) (i m j : ℕ) → i ≤ length text → Does Reads sets text v i m j → j ≤ length text
  stays Accept i m j b h = absurd h
  stays (Set next set) i m j b h = omega (arith, h.3.0, h.3.1)
  stays (Fork next other) i m j b h = omega (arith, b, h.1)
  stays (Test assertion next) i m j b h = omega (arith, b, h.2)

  module _ (moves : List MoveRow) where
    abbrev leads_by : Option Move → ℕ → State → Bool
    leads_by None i s = false
    leads_by (Some v) i s = does v i s.0 s.1

    abbrev leads : State → State → Bool
    leads s s' = leads_by (move_at moves s.0) s.1 s'

    abbrev accepts_by : Option Move → Bool
    accepts_by None = false
    accepts_by (Some Accept) = true
    accepts_by (Some (Set next set)) = false
    accepts_by (Some (Fork next other)) = false
    accepts_by (Some (Test assertion next)) = false

    abbrev accepts : State → Bool
    accepts s = accepts_by (move_at moves s.0)

    abbrev states : List State
    states = states_below (length moves) (length text + 1)

    -- some chain of moves leads from the state to Accept
    abbrev Leads : State → Type 0
    Leads s = (j : ℕ) × (k : ℕ) × (m : ℕ) × Run Reads sets text moves k s.0 s.1 m j × (move_at moves m ≡ Some Accept)

    accepts-by : (o : Option Move) → accepts_by o ≡ true → o ≡ Some Accept
    accepts-by None h = absurd (true≢false (sym h))
    accepts-by (Some Accept) h = refl
    accepts-by (Some (Set next set)) h = absurd (true≢false (sym h))
    accepts-by (Some (Fork next other)) h = absurd (true≢false (sym h))
    accepts-by (Some (Test assertion next)) h = absurd (true≢false (sym h))

    ends : (s : State) → accepts s ≡ true → Leads s
    ends s h = (s.1, zero, s.0, (refl, refl), accepts-by (move_at moves s.0) h)

    steps : (s s' : State) → leads s s' ≡ true → Leads s' → Leads s
    steps s s' h l = by-move (move_at moves s.0) refl h
      where
        by-move : (o : Option Move) → move_at moves s.0 ≡ o → leads_by o s.1 s' ≡ true → Leads s
        by-move None e h = absurd (true≢false (sym h))
        by-move (Some v) e h = (l.0, suc l.1, l.2, (v, s'.0, s'.1, e, (does-decides v s.1 s'.0 s'.1).0 h, l.3), l.4)

    at-move : (m : ℕ) (v : Move) → move_at moves m ≡ Some v → m < length moves
    at-move m v e = by-row (slice_get moves m) refl e
      where
        by-row : (o : Option MoveRow) → slice_get moves m ≡ o → option_and_then move_of o ≡ Some v → m < length moves
        by-row None f h = cc
        by-row (Some row) f h = slice_get_within moves m row f

    starts : (k m i m' j : ℕ) → Run Reads sets text moves k m i m' j → move_at moves m' ≡ Some Accept → m < length moves
    starts zero m i m' j r e = at-move m Accept (ap (move_at moves) r.0 ∙ e)
    starts (suc k) m i m' j r e = at-move m r.0 r.3

    there : (m i : ℕ) → m < length moves → i ≤ length text → In states (m, i)
    there m i h b = below (length moves) (length text + 1) m i h (omega (arith, b))

    found : (k m i m' j : ℕ) → i ≤ length text → Run Reads sets text moves k m i m' j → move_at moves m' ≡ Some Accept → within leads accepts states k (m, i) ≡ true
    found zero m i m' j b r e = ap accepts_by (ap (move_at moves) r.0 ∙ e)
    found (suc k) m i m' j b r e =
        let on = stays r.0 i r.1 r.2 b r.4 in
        within-leads leads accepts states k (m, i) (r.1, r.2) (there r.1 r.2 (starts k r.1 r.2 m' j r.5 e) on)
        (ap (λ o. leads_by o i (r.1, r.2)) r.3 ∙ (does-decides r.0 i r.1 r.2).1 r.4) (found k r.1 r.2 m' j on r.5 e)

    -- whether the program accepts something from the place on
    abbrev starts_at : ℕ → Bool
    starts_at i = within leads accepts states (length states) (zero, i)

    starts-at : (i : ℕ) → i ≤ length text → Decides (starts_at i) (Leads (zero, i))
    starts-at i b = (
      λ h. found-leads leads accepts states Leads ends steps (length states) (zero, i) h,
      λ l. found-in-time leads accepts states l.1 (zero, i) (there zero i (starts l.1 zero i l.2 l.0 l.3 l.4) b) (found l.1 zero i l.2 l.0 b l.3 l.4),
    )

    -- whether it accepts something from one of the first n places on
    abbrev starts_below : ℕ → Bool
    starts_below zero = false
    starts_below (suc n) = starts_at n || starts_below n

    abbrev Somewhere : ℕ → Type 0
    Somewhere n = (i : ℕ) × (i < n) × Leads (zero, i)

    starts-below : (n : ℕ) → n ≤ length text + 1 → Decides (starts_below n) (Somewhere n)
    starts-below zero b = (λ h. absurd (true≢false (sym h)), λ h. absurd (omega (arith, h.1)))
    starts-below (suc n) b =
        Decides-like (starts_at n || starts_below n) (⊎_elim (λ l. (n, omega arith, l)) (λ h. (h.0, omega (arith, h.1), h.2))) cases
        (Decides-or (starts_at n) (starts_below n) (starts-at n (omega (arith, b))) (starts-below n (omega (arith, b))))
      where
        cases : Somewhere (suc n) → Leads (zero, n) ⊎ Somewhere n
        cases h = ⊎_elim (λ c. inr (h.0, c, h.2)) (λ c. let e : h.0 ≡ n = omega (arith, h.1, c) in inl (subst (λ (i : ℕ). Leads (zero, i)) e h.2)) (cases_lt h.0 n)

-- ---- the programs of an image

module _ (image : Image) (k : ℕ) (text : List ℕ) where
  abbrev occurs_by : Option ProgramRow → Bool
  occurs_by None = false
  occurs_by (Some row) = starts_below image.sets text (moves_of image row) (length text + 1)

  by-program : (o : Option ProgramRow) → slice_get image.programs k ≡ o → Decides (occurs_by o) (Occurs image k text)
  by-program None e = (λ h. absurd (true≢false (sym h)), λ h. absurd (none-some h.0 (sym e ∙ h.1)))
    where
      none-some : (row : ProgramRow) → ◌≡◌ {A = Option ProgramRow} None (Some row) → ⊥
      none-some row h = cc
  by-program (Some row) e =
      Decides-like (occurs_by (Some row)) (λ h. (row, e, h.0, h.2.0, omega (arith, h.1), (h.2.1, h.2.2, h.2.3, h.2.4)))
      (λ h. back h.0 h.1 h.2 h.3 h.4 h.5)
      (starts-below image.sets text (moves_of image row) (length text + 1) (omega arith))
    where
      same : (other : ProgramRow) → ◌≡◌ {A = Option ProgramRow} (Some other) (Some row) → other ≡ row
      same other g = cc

      back : (other : ProgramRow) → slice_get image.programs k ≡ Some other → (i j : ℕ) → i ≤ length text → Accepts (moves_of image other) image.sets text i j
          → Somewhere image.sets text (moves_of image row) (length text + 1)
      back other f i j b a =
          subst (λ (r : ProgramRow). Somewhere image.sets text (moves_of image r) (length text + 1)) (same other (sym f ∙ e)) (i, omega (arith, b), (j, a.0, a.1, a.2, a.3))

-- what each program accepts anything in
abbrev pub occurs : Image → ℕ → List ℕ → Bool
occurs image k text = occurs_by image k text (slice_get image.programs k)

pub occurs-decides : (image : Image) (k : ℕ) (text : List ℕ) → IsTrue (occurs image k text) ↔ Occurs image k text
occurs-decides image k text = by-program image k text (slice_get image.programs k) refl
