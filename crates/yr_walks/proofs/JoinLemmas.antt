-- Arcs and the moves that they join.
use Rattle.std.proofs.Common.{◌≡◌, ℕ, suc, ◌+◌, ◌*◌, ◌/◌, ◌%◌, ◌<◌, ◌⊎◌, ◌==◌, inl, inr, Bool, true, false, List, length, Option, Some, None, sym, ap, ◌∙◌, arith}
use Rattle.std.specs.Prelude.{slice_get, if◌then◌else◌, option_map}
use Rattle.std.proofs.lemmas.Option.{option_and_then_some, slice_get_within}
use Rattle.yr_rows.specs.Moves.{move_at, move_of, NamesAmong, AreWellformedMoves}
use Rattle.yr_rows.specs.declared.moves.MoveRow.{MoveRow}
use Rattle.yr_rows.specs.declared.moves.Move.{Move}
use Rattle.yr_rows.specs.declared.moves.Move.TheVariants.{Accept, Set, Fork, Test}
use Rattle.yr_rows.proofs.MoveLemmas.{wellformed_at, wellformed_names}
use Rattle.yr_walks.specs.Arcs.{Leads, Joins, Opens, first_way, other_way, way, head, tail}
use Rattle.yr_walks.specs.Spreads.{bound}

pub move_within : (moves : List MoveRow) (m : ℕ) (v : Move) → move_at moves m ≡ Some v → m < length moves
move_within moves m v e = option_and_then_some move_of (slice_get moves m) v e (λ row at is. slice_get_within moves m row at)

pub move_row : (moves : List MoveRow) (m : ℕ) (v : Move) → move_at moves m ≡ Some v → (row : MoveRow) × (slice_get moves m ≡ Some row) × (move_of row ≡ Some v)
move_row moves m v e = option_and_then_some move_of (slice_get moves m) v e (λ row at is. (row, at, is))

pub names_of : (moves : List MoveRow) (sets : List (List ℕ)) (m : ℕ) (v : Move) → AreWellformedMoves moves sets → move_at moves m ≡ Some v → NamesAmong (length moves) (length sets) v
names_of moves sets m v good e =
    let r = move_row moves m v e in wellformed_names (length moves) (length sets) r.0 v (wellformed_at moves sets m r.0 good r.1) r.2

-- one of the two ways
pub way_cases : (b : Bool) (first other : Option ℕ) (x : ℕ) → (if b then first else other) ≡ Some x → (first ≡ Some x) ⊎ (other ≡ Some x)
way_cases true first other x e = inl e
way_cases false first other x e = inr e

module _ (n : ℕ) (sets : List (List ℕ)) (file : List ℕ) (i : ℕ) where
  opens_first : (v : Move) (byte : Option ℕ) (x : ℕ) → Opens sets file i v byte → first_way n v ≡ Some x → Leads n sets file i v byte x
  opens_first Accept None x o e = sym (cc e)
  opens_first Accept (Some b) x o e = o
  opens_first (Set next set) None x o e = o
  opens_first (Set next set) (Some b) x o e = (sym (cc e), o.0, o.1, o.2)
  opens_first (Fork next other) None x o e = inl (sym (cc e))
  opens_first (Fork next other) (Some b) x o e = o
  opens_first (Test assertion next) None x o e = (sym (cc e), o)
  opens_first (Test assertion next) (Some b) x o e = o

  opens_other : (v : Move) (byte : Option ℕ) (x : ℕ) → Opens sets file i v byte → other_way v ≡ Some x → Leads n sets file i v byte x
  opens_other Accept byte x o e = cc e
  opens_other (Set next set) byte x o e = cc e
  opens_other (Fork next other) None x o e = inr (sym (cc e))
  opens_other (Fork next other) (Some b) x o e = o
  opens_other (Test assertion next) byte x o e = cc e

  pub opens_leads : (e : ℕ) (v : Move) (byte : Option ℕ) (x : ℕ) → Opens sets file i v byte → way n e v ≡ Some x → Leads n sets file i v byte x
  opens_leads e v byte x o w = elim (way_cases (e % 2 == 0) (first_way n v) (other_way v) x w) [
    | inl f ↦ opens_first v byte x o f
    | inr s ↦ opens_other v byte x o s
  ]

  pub leads_opens : (v : Move) (byte : Option ℕ) (x : ℕ) → Leads n sets file i v byte x → Opens sets file i v byte × ((first_way n v ≡ Some x) ⊎ (other_way v ≡ Some x))
  leads_opens Accept None x l = (tt, inl (ap Some (sym l)))
  leads_opens Accept (Some b) x l = absurd l
  leads_opens (Set next set) None x l = absurd l
  leads_opens (Set next set) (Some b) x l = ((l.1, l.2, l.3), inl (ap Some (sym l.0)))
  leads_opens (Fork next other) None x (inl l) = (tt, inl (ap Some (sym l)))
  leads_opens (Fork next other) None x (inr l) = (tt, inr (ap Some (sym l)))
  leads_opens (Fork next other) (Some b) x l = absurd l
  leads_opens (Test assertion next) None x l = (l.1, inl (ap Some (sym l.0)))
  leads_opens (Test assertion next) (Some b) x l = absurd l

  pub leads_below : (v : Move) (byte : Option ℕ) (x k : ℕ) → NamesAmong n k v → Leads n sets file i v byte x → x < suc n
  leads_below Accept None x k names l = omega (arith, l)
  leads_below Accept (Some b) x k names l = absurd l
  leads_below (Set next set) None x k names l = absurd l
  leads_below (Set next set) (Some b) x k names l = omega (arith, l.0, names.0)
  leads_below (Fork next other) None x k names (inl l) = omega (arith, l, names.0)
  leads_below (Fork next other) None x k names (inr l) = omega (arith, l, names.1)
  leads_below (Fork next other) (Some b) x k names l = absurd l
  leads_below (Test assertion next) None x k names l = omega (arith, l.0, names)
  leads_below (Test assertion next) (Some b) x k names l = absurd l

-- the arc of move s with this way
abbrev pub IsArcOf : ℕ → Move → ℕ → ℕ → ℕ → Type 0
IsArcOf n v s z e = (e < 2 * n) × (e / 2 ≡ s) × (way n e v ≡ Some z)

arc_of : (n s z : ℕ) (v : Move) → s < n → (first_way n v ≡ Some z) ⊎ (other_way v ≡ Some z) → (e : ℕ) × IsArcOf n v s z e
arc_of n s z v lt (inl f) =
    let half : 2 * s / 2 ≡ s = omega arith in
    let rest : 2 * s % 2 ≡ 0 = omega arith in
    (2 * s, (omega (arith, lt), half, ap (λ r. if (r == 0) then first_way n v else other_way v) rest ∙ f))
arc_of n s z v lt (inr o) =
    let half : (2 * s + 1) / 2 ≡ s = omega arith in
    let rest : (2 * s + 1) % 2 ≡ 1 = omega arith in
    (2 * s + 1, (omega (arith, lt), half, ap (λ r. if (r == 0) then first_way n v else other_way v) rest ∙ o))

module _ (moves : List MoveRow) (sets : List (List ℕ)) (file : List ℕ) (i : ℕ) where
  -- an arc whose move leads on joins its head to its tail
  pub arc_joins : (back : Bool) (e x y : ℕ) (v : Move) (byte : Option ℕ) → move_at moves (e / 2) ≡ Some v → head back (length moves) e v ≡ Some x → tail back (length moves) e v ≡ Some y →
      Opens sets file i v byte → Joins back moves sets file i byte x y
  arc_joins true e x y v byte at h t o =
      let same : e / 2 ≡ y = cc t in (v, ap (move_at moves) (sym same) ∙ at, opens_leads (length moves) sets file i e v byte x o h)
  arc_joins false e x y v byte at h t o =
      let mapped : option_map (λ _. e / 2) (Some y) ≡ Some x = ap (option_map (λ _. e / 2)) (sym t) ∙ h in
      let same : e / 2 ≡ x = cc mapped in (v, ap (move_at moves) (sym same) ∙ at, opens_leads (length moves) sets file i e v byte y o t)

  -- what is joined is joined by an arc
  pub record IsJoinedBy (back : Bool) (x y : ℕ) (byte : Option ℕ) (e : ℕ) (v : Move) : Type 0 where
    pub below : e < 2 * length moves
    pub at : move_at moves (e / 2) ≡ Some v
    pub head : head back (length moves) e v ≡ Some x
    pub tail : tail back (length moves) e v ≡ Some y
    pub opens : Opens sets file i v byte

  pub joins_arc : (back : Bool) (x y : ℕ) (byte : Option ℕ) → Joins back moves sets file i byte x y → (e : ℕ) × (v : Move) × IsJoinedBy back x y byte e v
  joins_arc true x y byte j =
      let o = leads_opens (length moves) sets file i j.0 byte x j.2 in
      let a = arc_of (length moves) y x j.0 (move_within moves y j.0 j.1) o.1 in
      (a.0, j.0, record { below = a.1.0; at = ap (move_at moves) a.1.1 ∙ j.1; head = a.1.2; tail = ap Some a.1.1; opens = o.0 })
  joins_arc false x y byte j =
      let o = leads_opens (length moves) sets file i j.0 byte y j.2 in
      let a = arc_of (length moves) x y j.0 (move_within moves x j.0 j.1) o.1 in
      (a.0, j.0, record { below = a.1.0; at = ap (move_at moves) a.1.1 ∙ j.1; head = ap (option_map (λ _. a.0 / 2)) a.1.2 ∙ ap Some a.1.1; tail = a.1.2; opens = o.0 })

  pub joins_below : (back : Bool) (x y : ℕ) (byte : Option ℕ) → AreWellformedMoves moves sets → Joins back moves sets file i byte x y → y < bound back (length moves)
  joins_below true x y byte good j = move_within moves y j.0 j.1
  joins_below false x y byte good j = leads_below (length moves) sets file i j.0 byte y (length sets) (names_of moves sets x j.0 good j.1) j.2

way_below : (n k e : ℕ) (v : Move) (x : ℕ) → NamesAmong n k v → way n e v ≡ Some x → x < n + 1
way_below n k e v x names w = elim (way_cases (e % 2 == 0) (first_way n v) (other_way v) x w) [ inl f ↦ first_below v f names | inr o ↦ other_below v o names ]
  where
    first_below : (v : Move) → first_way n v ≡ Some x → NamesAmong n k v → x < n + 1
    first_below Accept f names = let s : n ≡ x = cc f in omega (arith, s)
    first_below (Set next set) f names = let s : next ≡ x = cc f in omega (arith, s, names.0)
    first_below (Fork next other) f names = let s : next ≡ x = cc f in omega (arith, s, names.0)
    first_below (Test assertion next) f names = let s : next ≡ x = cc f in omega (arith, s, names)

    other_below : (v : Move) → other_way v ≡ Some x → NamesAmong n k v → x < n + 1
    other_below Accept f names = cc f
    other_below (Set next set) f names = cc f
    other_below (Fork next other) f names = let s : other ≡ x = cc f in omega (arith, s, names.1)
    other_below (Test assertion next) f names = cc f

pub head_below : (back : Bool) (n k e : ℕ) (v : Move) (x : ℕ) → NamesAmong n k v → e < 2 * n → head back n e v ≡ Some x → x < n + 1
head_below true n k e v x names lt h = way_below n k e v x names h
head_below false n k e v x names lt h = halves (way n e v) h
  where
    halves : (o : Option ℕ) → option_map (λ _. e / 2) o ≡ Some x → x < n + 1
    halves None h = cc h
    halves (Some y) h = let s : e / 2 ≡ x = cc h in omega (arith, s, lt)
