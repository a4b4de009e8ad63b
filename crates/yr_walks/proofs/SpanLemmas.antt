-- Spans by the starts of one side and the ends of the other.
use Rattle.std.proofs.Common.{◌≡◌, ℕ, zero, suc, ◌+◌, ◌<◌, ◌≤◌, ◌⊎◌, ◌==◌, inl, inr, Bool, true, false, IsTrue, List, ◌∷◌, Option, Some, None, refl, sym, ap, ◌∙◌, subst, arith, true≢false}
use Rattle.std.specs.Prelude.{slice_get, if◌then◌else◌}
use Rattle.std.proofs.lemmas.Bool.Decides.{nat_tests}
use Rattle.yr_base.specs.Places.{has_left_border}
use Rattle.yr_moves.specs.Walks.{IsBest, IsEnd}
use Rattle.yr_walks.specs.Carried.{IsNoWorse}
use Rattle.yr_walks.specs.EndWalks as ends
use Rattle.yr_walks.proofs.HoldLemmas.{no_worse_trans}
use Rattle.yr_walks.specs.StartWalks as starts
use Rattle.yr_walks.specs.StartWalks.{Told, Tells, IsBestOf, StartsAt, StartsBelow, StartsHere}
use Rattle.yr_walks.specs.Spans.{Walk, IsEndOf, IsSpan, IsAmong, IsCounted, AreTold}
use Rattle.yr_walks.proofs.StartLemmas.{tells_more, tells_cases}

is_zero : (n : ℕ) → (n == 0) ≡ true → n ≡ 0
is_zero n e = grind (arith, nat_tests)

not_zero : (n : ℕ) → (n == 0) ≡ false → 0 < n
not_zero zero e = absurd (true≢false e)
not_zero (suc n) e = omega arith

-- the best of one property is the best of another that it stands for
pub best_of_both : (greedy : Bool) (P Q : ℕ → Type 0) (r : Option ℕ) → IsBestOf greedy P r → ((j : ℕ) → P j → Q j) → ((j : ℕ) → Q j → (o : ℕ) × P o × IsNoWorse greedy o j) → IsBestOf greedy Q r
best_of_both greedy P Q None best to from = λ j q. let f = from j q in best f.0 f.1
best_of_both greedy P Q (Some r) best to from = (to r best.0, λ j q. let f = from j q in no_worse_trans greedy r f.0 j (best.1 f.0 f.1) f.2)

-- the places told of, with one more where there is a hit
pub among_more : (hit : Bool) (i : ℕ) (hits : List ℕ) (a : ℕ) → IsAmong (if hit then i ∷ hits else hits) a → ((hit ≡ true) × (i ≡ a)) ⊎ IsAmong hits a
among_more true i hits a h = cases h.0 h.1
  where
    cases : (q : ℕ) → slice_get (i ∷ hits) q ≡ Some a → ((true ≡ true) × (i ≡ a)) ⊎ IsAmong hits a
    cases zero e = inl (refl, cc e)
    cases (suc q) e = inr (q, e)
among_more false i hits a h = inr h

pub among_old : (hit : Bool) (i : ℕ) (hits : List ℕ) (a : ℕ) → IsAmong hits a → IsAmong (if hit then i ∷ hits else hits) a
among_old true i hits a h = (suc h.0, h.1)
among_old false i hits a h = h

pub among_new : (hit : Bool) (i : ℕ) (hits : List ℕ) → hit ≡ true → IsAmong (if hit then i ∷ hits else hits) i
among_new true i hits e = (0, refl)
among_new false i hits e = absurd (true≢false (sym e))

module _ (walk : Walk) (i : ℕ) (hit : Bool) (near beyond near' far' : Option ℕ) (e : ℕ) (level : e ≡ i + walk.atom)
    (best : ends.IsBestEnd walk.ends e e near) (behind : ends.IsBestEnd walk.ends e (e + 1) beyond)
    (near_is : near' ≡ (if hit then near else None)) (far_is : far' ≡ (if hit then (if (walk.atom == 0) then beyond else near) else None)) where
  abbrev End : ℕ → ℕ → Type 0
  End least j = IsEnd walk.ends.moves walk.ends.sets walk.ends.file e least walk.ends.border j

  to_end : (j : ℕ) → IsEndOf walk i j → End e j
  to_end j h = let E : ℕ → Type 0 = λ n. IsEnd walk.ends.moves walk.ends.sets walk.ends.file n n walk.ends.border j in subst E (sym level) h

  of_end : (j : ℕ) → End e j → IsEndOf walk i j
  of_end j h = let E : ℕ → Type 0 = λ n. IsEnd walk.ends.moves walk.ends.sets walk.ends.file n n walk.ends.border j in subst E level h

  best_some : (j : ℕ) → near ≡ Some j → IsBest walk.ends.greedy (End e) j
  best_some j is = let B : Option ℕ → Type 0 = λ o. ends.IsBestEnd walk.ends e e o in subst B is best

  best_none : near ≡ None → (j : ℕ) → End e j → ⊥
  best_none is = let B : Option ℕ → Type 0 = λ o. ends.IsBestEnd walk.ends e e o in subst B is best

  behind_some : (j : ℕ) → beyond ≡ Some j → IsBest walk.ends.greedy (End (e + 1)) j
  behind_some j is = let B : Option ℕ → Type 0 = λ o. ends.IsBestEnd walk.ends e (e + 1) o in subst B is behind

  behind_none : beyond ≡ None → (j : ℕ) → End (e + 1) j → ⊥
  behind_none is = let B : Option ℕ → Type 0 = λ o. ends.IsBestEnd walk.ends e (e + 1) o in subst B is behind

  near_found : (j : ℕ) → End e j → (o : ℕ) × (near ≡ Some o) × IsNoWorse walk.ends.greedy o j
  near_found j h = of near refl
    where
      of : (o : Option ℕ) → near ≡ o → (o : ℕ) × (near ≡ Some o) × IsNoWorse walk.ends.greedy o j
      of None is = absurd (best_none is j h)
      of (Some o) is = (o, is, (best_some o is).1 j h)

  beyond_found : (j : ℕ) → End (e + 1) j → (o : ℕ) × (beyond ≡ Some o) × IsNoWorse walk.ends.greedy o j
  beyond_found j h = of beyond refl
    where
      of : (o : Option ℕ) → beyond ≡ o → (o : ℕ) × (beyond ≡ Some o) × IsNoWorse walk.ends.greedy o j
      of None is = absurd (behind_none is j h)
      of (Some o) is = (o, is, (behind_some o is).1 j h)

  -- what is told for spans that read a byte
  pub near_sound : (j : ℕ) → near' ≡ Some j → (hit ≡ true) × IsBest walk.ends.greedy (IsEndOf walk i) j
  near_sound j is = of hit refl
    where
      of : (h : Bool) → hit ≡ h → (hit ≡ true) × IsBest walk.ends.greedy (IsEndOf walk i) j
      of true t =
          let there : near ≡ Some j = sym (near_is ∙ ap (λ b. if b then near else None) t) ∙ is in
          let b = best_some j there in (t, (of_end j b.0, λ o h. b.1 o (to_end o h)))
      of false f = let wrong : None ≡ Some j = sym (near_is ∙ ap (λ b. if b then near else None) f) ∙ is in cc wrong

  pub near_complete : (j : ℕ) → hit ≡ true → IsEndOf walk i j → (o : ℕ) × (near' ≡ Some o)
  near_complete j t h = let f = near_found j (to_end j h) in (f.0, near_is ∙ ap (λ b. if b then near else None) t ∙ f.1)

  -- what is told for a span that reads none
  abbrev FarOf : Bool → Option ℕ
  FarOf b = if b then beyond else near

  pub far_sound : (j : ℕ) → far' ≡ Some j → (hit ≡ true) × IsEndOf walk i j × (i < j)
  far_sound j is = of hit refl
    where
      at : (b : Bool) → (walk.atom == 0) ≡ b → FarOf b ≡ Some j → IsEndOf walk i j × (i < j)
      at true s there =
          let b = (behind_some j there).0 in (of_end j (b.0, omega (arith, b.1), b.2), omega (arith, b.1, level))
      at false s there = let b = (best_some j there).0 in (of_end j b, omega (arith, b.1, level, not_zero walk.atom s))

      of : (h : Bool) → hit ≡ h → (hit ≡ true) × IsEndOf walk i j × (i < j)
      of true t =
          let there : FarOf (walk.atom == 0) ≡ Some j = sym (far_is ∙ ap (λ b. if b then FarOf (walk.atom == 0) else None) t) ∙ is in
          let r = at (walk.atom == 0) refl there in (t, r.0, r.1)
      of false f = let wrong : None ≡ Some j = sym (far_is ∙ ap (λ b. if b then FarOf (walk.atom == 0) else None) f) ∙ is in cc wrong

  pub far_complete : (j : ℕ) → hit ≡ true → IsEndOf walk i j → i < j → (o : ℕ) × (far' ≡ Some o) × IsNoWorse walk.ends.greedy o j
  far_complete j t h lt = let r = at (walk.atom == 0) refl in (r.0, far_is ∙ ap (λ b. if b then FarOf (walk.atom == 0) else None) t ∙ r.1, r.2)
    where
      at : (b : Bool) → (walk.atom == 0) ≡ b → (o : ℕ) × (FarOf b ≡ Some o) × IsNoWorse walk.ends.greedy o j
      at true s = let u = to_end j h in beyond_found j (u.0, omega (arith, level, is_zero walk.atom s, lt), u.2)
      at false s = near_found j (to_end j h)

  -- where an end is told for the one, an end is told for the other
  pub far_near : (j : ℕ) → far' ≡ Some j → (o : ℕ) × (near' ≡ Some o)
  far_near j is = let s = far_sound j is in near_complete j s.0 s.1

  module _ (told : List Told) (hits : List ℕ) (are : AreTold walk told hits) (above : (a : ℕ) → IsAmong hits a → i < a) (same : walk.starts.greedy ≡ walk.ends.greedy) where
    abbrev Hits : List ℕ
    Hits = if hit then i ∷ hits else hits

    counted : IsTrue (has_left_border walk.ends.border walk.ends.file i) → (j : ℕ) → StartsAt walk.starts told far' i j → IsCounted walk Hits i j
    counted fits j (inl s) =
        let r = s.1 in
        let t = are.sound r.0 j r.3 in
        (r.0, among_old hit i hits r.0 t.0, ((r.1, s.0, r.4, s.2), t.1.0, omega (arith, r.2, t.1.0.1), fits))
    counted fits j (inr s) = let f = far_sound j s.0 in (i, among_new hit i hits f.0, ((s.1, s.2, s.3, s.4), f.1, f.2, fits))

    started : (j : ℕ) → IsCounted walk Hits i j → (o : ℕ) × StartsAt walk.starts told far' i o × IsNoWorse walk.ends.greedy o j
    started j c = elim (among_more hit i hits c.0 c.1) [
      | inl h ↦
          let S : ℕ → Type 0 = λ a. IsSpan walk a i j in
          let s = subst S (sym h.1) c.2 in
          let f = far_complete j h.0 s.1 s.2 in (f.0, inr (f.1, s.0.0, s.0.1, s.0.2, s.0.3), f.2)
      | inr h ↦
          let s = c.2 in
          let t = are.complete c.0 j h s.1 in
          let b = (are.sound c.0 t.0 t.1).1 in
          (t.0, inl (s.0.1, (c.0, s.0.0, above c.0 h, t.1, s.0.2), s.0.3), b.1 j s.1)
    ]

    pub best_span : (r : Option ℕ) → IsBestOf walk.starts.greedy (StartsAt walk.starts told far' i) r → IsTrue (has_left_border walk.ends.border walk.ends.file i) →
        IsBestOf walk.ends.greedy (IsCounted walk Hits i) r
    best_span r b fits =
        let G : Bool → Type 0 = λ g. IsBestOf g (StartsAt walk.starts told far' i) r in
        best_of_both walk.ends.greedy (StartsAt walk.starts told far' i) (IsCounted walk Hits i) r (subst G same b) (counted fits) started

    pub no_span : (IsTrue (has_left_border walk.ends.border walk.ends.file i) → ⊥) → (j : ℕ) → IsCounted walk Hits i j → ⊥
    no_span unfit j c = unfit c.2.3

    pub told_more : AreTold walk (record { at = i; near = near'; far = far' } ∷ told) Hits
    told_more =
        let t : Told = record { at = i; near = near'; far = far' } in
        record {
          sound = λ a j h. elim (tells_cases t told a j h) [
            | inl new ↦
                let n = near_sound j new.1 in
                let A : ℕ → Type 0 = λ x. IsAmong Hits x × IsBest walk.ends.greedy (IsEndOf walk x) j in subst A new.0 (among_new hit i hits n.0, n.1)
            | inr was ↦ let s = are.sound a j was in (among_old hit i hits a s.0, s.1)
          ];
          complete = λ a j h end. elim (among_more hit i hits a h) [
            | inl new ↦
                let E : ℕ → Type 0 = λ x. IsEndOf walk x j in
                let n = near_complete j new.0 (subst E (sym new.1) end) in (n.0, (0, t, refl, new.1, n.1))
            | inr was ↦ let o = are.complete a j was end in (o.0, tells_more t told a o.0 o.1)
          ];
        }

    pub still_inside : (a : ℕ) → IsAmong Hits a → i ≤ a
    still_inside a h = elim (among_more hit i hits a h) [ inl new ↦ omega (arith, new.1) | inr was ↦ let lt = above a was in omega (arith, lt) ]

-- what was told does not look at the walks' own places
pub moved_told : (walk : Walk) (p : ℕ) (next : ends.Walk) (other : starts.Walk) (told : List Told) (hits : List ℕ) → next ≡ record walk.ends { place = p } → AreTold walk told hits →
    AreTold (record { ends = next; starts = other; atom = walk.atom }) told hits
moved_told walk p next other told hits is are =
    let A : ends.Walk → Type 0 = λ x. AreTold (record { ends = x; starts = other; atom = walk.atom }) told hits in
    subst A (sym is) (record { sound = are.sound; complete = are.complete })
