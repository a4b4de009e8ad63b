-- The search for an occurrence, place by place.
use Rattle.std.proofs.Common.{◌≡◌, ℕ, ◌+◌, ◌<◌, ◌≤◌, ◌⊎◌, inl, inr, Bool, true, false, List, [], length, Option, sym, ◌∙◌, arith, true≢false, le_refl}
use Rattle.std.specs.Prelude.{slice_get}
use Rattle.yr_rows.specs.Accepts.{ReadsForwards, Accepts}
use Rattle.yr_rows.specs.declared.moves.MoveRow.{MoveRow}
use Rattle.yr_moves.specs.Passes.{Passes}
use Rattle.yr_moves.specs.Walks.{Stands, Occurs}
use Rattle.yr_moves.proofs.MemberLemmas.{Joins}
use Rattle.yr_moves.proofs.SearchLemmas.{stands_begin, found_accepts, accepts_found, stands_on, ahead_forwards, rises, stays_inside}
use Rattle.std.proofs.Common.{ap, subst}

module _ (moves : List MoveRow) (sets : List (List ℕ)) (text : List ℕ) where
  -- all places before i are searched, and nothing is accepted up to one of them
  pub record Looking (i : ℕ) (now : List ℕ) : Type 0 where
    pub stands : Stands (ReadsForwards text) moves sets text (λ a. a < i) (λ o. i ≤ o) i now
    pub none : (a o : ℕ) → Accepts moves sets text a o → o < i → ⊥

  pub looking_start : (now : List ℕ) → now ≡ [] → Looking 0 now
  looking_start now empty = record {
    stands = record { sound = λ x c. absurd (omega (arith, c.1, ap length empty)); complete = λ a o b l acc. absurd (omega (arith, b)) };
    none = λ a o acc lt. omega (arith, lt);
  }

  module _ (i : ℕ) (byte : Option ℕ) (now now' on : List ℕ) (found : Bool) (read : byte ≡ slice_get text i) (s : Looking i now) (j : Joins now now' 0)
      (p : Passes moves sets text i byte now' on found) where
    begun : (a : ℕ) → a < i + 1 → (a < i) ⊎ (a ≡ i)
    begun a lt = grind arith

    here : Stands (ReadsForwards text) moves sets text (λ a. a < i + 1) (λ o. i ≤ o) i now'
    here =
        stands_begin (ReadsForwards text) moves sets text (λ a. a < i) (λ a. a < i + 1) (λ o. i ≤ o) i now now' s.stands j (λ a b. omega (arith, b)) (omega arith) begun

    pub looking_found : i ≤ length text → found ≡ true → Occurs moves sets text
    looking_found le e =
        let a = found_accepts (ReadsForwards text) moves sets text (λ a. a < i + 1) (λ o. i ≤ o) i byte (i + 1) now' on found here p e in (a.0, i, omega (arith, a.1, le), a.2)

    found_here : (a : ℕ) → a < i + 1 → Accepts moves sets text a i → found ≡ true
    found_here a lt acc =
        accepts_found (ReadsForwards text) moves sets text (λ a. a < i + 1) (λ o. i ≤ o) i byte (i + 1) now' on found here p (ahead_forwards moves sets text i byte read) (le_refl i)
        (λ b e k m q r. let up = rises moves sets text k m (i + 1) q i r in omega (arith, up)) a lt acc

    accepted_at : (a o : ℕ) → o ≡ i → Accepts moves sets text a o → Accepts moves sets text a i
    accepted_at a o e acc = let A : ℕ → Type 0 = λ x. Accepts moves sets text a x in subst A e acc

    pub looking_more : found ≡ false → Looking (i + 1) on
    looking_more nothing = record {
      stands = stands_on (ReadsForwards text) moves sets text (λ a. a < i + 1) (λ o. i ≤ o) i byte (i + 1) now' on found here p (ahead_forwards moves sets text i byte read) (λ o. i + 1 ≤ o)
          (λ o le. (omega (arith, le), λ e. omega (arith, le, e)));
      none = λ a o acc lt. elim (begun o lt) [
        | inl l ↦ s.none a o acc l
        | inr e ↦
            let up = rises moves sets text acc.0 0 a acc.1 o acc.2 in
            true≢false (sym (found_here a (omega (arith, up, e)) (accepted_at a o e acc)) ∙ nothing)
      ];
    }

  pub looking_done : (i : ℕ) (now : List ℕ) → Looking i now → length text < i → Occurs moves sets text → ⊥
  looking_done i now s end occurs =
      let acc = occurs.3 in
      let inside = stays_inside moves sets text acc.0 0 occurs.0 acc.1 occurs.1 occurs.2 acc.2 in s.none occurs.0 occurs.1 acc (omega (arith, end, inside))
