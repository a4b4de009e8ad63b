-- The ends that are told where atoms begin, and what the walk over starts answers.
use Rattle.std.proofs.Common.{◌≡◌, ℕ, zero, suc, ◌+◌, ◌-◌, ◌<◌, ◌≤◌, inl, inr, ◌↔◌, Bool, true, false, nat_lt, List, [], ◌∷◌, length, Contains, Option, Some, None, refl, sym, ap, ◌∙◌, subst, arith}
use Rattle.std.specs.Prelude.{if◌then◌else◌}
use Rattle.std.proofs.lemmas.Bool.{cases_lt, lt-ltb, ltb-true}
use Rattle.yr_base.specs.Places.{has_left_border}
use Rattle.yr_rows.specs.Accepts.{AcceptsBackwards}
use Rattle.yr_answer.specs.MatchList.{IsBest}
use Rattle.yr_moves.specs.declared.rows.ProgramRows.{ProgramRows}
use Rattle.yr_moves.specs.Programs.{moves_of, sets_of}
use Rattle.yr_walks.specs.StartWalks as starts
use Rattle.yr_walks.specs.StartWalks.{Told, Tells}
use Rattle.yr_image.specs.Views.{image_of}
use Rattle.yr_hits.specs.declared.hit.Hit.{Hit}
use Rattle.yr_hits.specs.declared.hit.Ends.{Ends}
use Rattle.yr_hits.specs.Programs.{IsProgramOf}
use Rattle.yr_hits.specs.Gathering.{DoesFor}
use Rattle.yr_hits.specs.Spans.{begin_of, IsGoodHit, StartsAt, EndsAt, IsBestOf, AreEnds, IsSpanOf}
use Rattle.yr_hits.proofs.SideLemmas.{best_as}
use Rattle.yr_hits.proofs.HitLemmas.{leads_up, starts_down}
use Rattle.yr_hits.proofs.StartLemmas.{program_starts}
use Rattle.yr_hits.specs.Sweeps.{hit_after, IsInside, IsCountBelow, AreHits, SpansOfAll}
use Rattle.yr_hits.specs.Walks.{AreTold, IsStartWalkOf, WereTold, IsToldHere}
use Rattle.yr_hits.proofs.OrderLemmas.{is_there, is_counted}
use Rattle.yr_hits.proofs.SweepLemmas.{good_after}
use Rattle.yr_hits.proofs.PlaceLemmas.{best_by, span_in, span_out}

-- ---- what is told of a hit

module _ (hit : Hit) (good : IsGoodHit hit) (ends : Ends) (are : AreEnds hit ends) where
  pub told_empty : hit.row.atom_length ≡ 0 → AreTold hit ends
  told_empty empty = record {
    near = are.near;
    far = best_as hit.greatest (λ j. EndsAt hit j × (hit.at < j)) (λ j. EndsAt hit j × (begin_of hit < j)) ends.far
        (λ j h. (h.0, omega (arith, h.1, empty))) (λ j h. (h.0, omega (arith, h.1, empty))) (are.far empty);
  }

  pub told_longer : (hit.row.atom_length ≡ 0 → ⊥) → AreTold hit (record { near = ends.near; far = ends.near })
  told_longer some = record {
    near = are.near;
    far = best_as hit.greatest (EndsAt hit) (λ j. EndsAt hit j × (begin_of hit < j)) ends.near
        (λ j h. let up = (leads_up hit good j h.0).0 in (h, omega (arith, up, some, good.begins))) (λ j h. h.0) are.near;
  }

-- ---- the walk reads the side before the atom

abbrev pub start_walk : Hit → ProgramRows → (place : ℕ) → starts.Walk
start_walk hit rows place = record { moves = moves_of rows; sets = sets_of rows; file = hit.file.now; greedy = hit.greatest; place = place }

-- by how a hit is given
begin_at : (a n : ℕ) → (a + n) - n ≡ a
begin_at a n = omega arith

pub is_start_walk : (hit : Hit) → IsGoodHit hit → (rows : ProgramRows) → hit.row.before_kind ≡ 2 → IsProgramOf (image_of hit.view.now) hit.row.before_place rows
    → (place : ℕ) (walk : starts.Walk) → walk ≡ start_walk hit rows place → IsStartWalkOf hit walk
is_start_walk hit good rows kind is place walk same =
    let n = hit.row.atom_length in
    let F : starts.Walk → Type 0 = λ w. (a i : ℕ) → IsInside hit (a + n) → (StartsAt (hit_after hit (a + n)) i) ↔ (AcceptsBackwards w.moves w.sets w.file i a) in
    let reads : F (start_walk hit rows place) = λ a i inside.
    let all = program_starts (hit_after hit (a + n)) (good_after hit good (a + n) inside) rows kind is i in
    subst (λ b. (StartsAt (hit_after hit (a + n)) i) ↔ (AcceptsBackwards (moves_of rows) (sets_of rows) hit.file.now i b)) (begin_at a n) all in
    record {
      greedy = ap (λ (w : starts.Walk). w.greedy) same;
      reads = subst F (sym same) reads;
    }

pub start_walk_on : (hit : Hit) (walk : starts.Walk) (place : ℕ) (new : starts.Walk) → new ≡ record walk { place = place } → IsStartWalkOf hit walk → IsStartWalkOf hit new
start_walk_on hit walk place new is of =
    let n = hit.row.atom_length in
    let F : starts.Walk → Type 0 = λ w. (a i : ℕ) → IsInside hit (a + n) → (StartsAt (hit_after hit (a + n)) i) ↔ (AcceptsBackwards w.moves w.sets w.file i a) in
    record {
      greedy = ap (λ (w : starts.Walk). w.greedy) is ∙ of.greedy;
      reads = subst F (sym is) of.reads;
    }

-- ---- one place down

-- an end is told where there is one, of spans that read a byte, if one is of those that read none
pub far_near : (hit : Hit) → IsGoodHit hit → (ends : Ends) → AreTold hit ends → (j : ℕ) → ends.far ≡ Some j → (o : ℕ) × (ends.near ≡ Some o)
far_near hit good ends told j is = at ends.near told.near
  where
    there : EndsAt hit j
    there = let B : Option ℕ → Type 0 = λ o. IsBestOf hit.greatest (λ j. EndsAt hit j × (begin_of hit < j)) o in
        let best : B (Some j) = subst B is told.far in
        best.0.0

    at : (near : Option ℕ) → IsBestOf hit.greatest (EndsAt hit) near → (o : ℕ) × (near ≡ Some o)
    at None none = absurd (none j there)
    at (Some o) best = (o, refl)

-- by the counts below the place and the next
pub told_here : (hit : Hit) (hits : List ℕ) (at place count below : ℕ) (ends : Ends) → at ≡ place + hit.row.atom_length → IsCountBelow hits (at + 1) count
    → IsCountBelow hits at below → (nat_lt below count ≡ true → AreTold (hit_after hit at) ends)
    → (nat_lt below count ≡ false → (ends.near ≡ None) × (ends.far ≡ None)) → IsToldHere hit hits place (nat_lt below count) ends
told_here hit hits at place count below ends is next here told nothing = record {
  into = λ t. subst (Contains hits) is (is_there hits at count below next here (ltb-true below count t));
  back = λ h. lt-ltb below count (is_counted hits at count below next here (subst (Contains hits) (sym is) h));
  told = λ t. subst (λ e. AreTold (hit_after hit e) ends) is (told t);
  nothing = nothing;
}

-- nothing was told yet
pub none_told : (hit : Hit) (hits : List ℕ) (place : ℕ) → AreHits hit hits → length hit.file.now < place + hit.row.atom_length → WereTold hit hits [] place
none_told hit hits place are past = record { sound = sound; complete = complete }
  where
    sound : (a j : ℕ) → Tells [] a j
        → Contains hits (a + hit.row.atom_length) × IsBest hit.greatest (EndsAt (hit_after hit (a + hit.row.atom_length))) j
    sound a j (q, t, get, at, near) = absurd cc

    complete : (a j : ℕ) → Contains hits (a + hit.row.atom_length) → place ≤ a → EndsAt (hit_after hit (a + hit.row.atom_length)) j → (o : ℕ) × Tells [] a o
    complete a j h le end = let inside = are (a + hit.row.atom_length) h in absurd (omega (arith, inside.0, le, past))

module _ (hit : Hit) (good : IsGoodHit hit) (hits : List ℕ) (are : AreHits hit hits) (place : ℕ) (there : Bool) (ends : Ends)
    (here : IsToldHere hit hits place there ends) where
  -- where an end is told, there is a hit
  near_there : (j : ℕ) → ends.near ≡ Some j → there ≡ true
  near_there j is = at there here.nothing
    where
      at : (b : Bool) → (b ≡ false → (ends.near ≡ None) × (ends.far ≡ None)) → b ≡ true
      at true none = refl
      at false none = let gone = (none refl).0 in cc

  far_there : (j : ℕ) → ends.far ≡ Some j → there ≡ true
  far_there j is = at there here.nothing
    where
      at : (b : Bool) → (b ≡ false → (ends.near ≡ None) × (ends.far ≡ None)) → b ≡ true
      at true none = refl
      at false none = let gone = (none refl).1 in cc

  pub far_needs : (j : ℕ) → ends.far ≡ Some j → (o : ℕ) × (ends.near ≡ Some o)
  far_needs j is =
      let t = far_there j is in
      far_near (hit_after hit (place + hit.row.atom_length)) (good_after hit good (place + hit.row.atom_length) (are (place + hit.row.atom_length) (here.into t))) ends (here.told t) j is

  near_best : (j : ℕ) → ends.near ≡ Some j → IsBest hit.greatest (EndsAt (hit_after hit (place + hit.row.atom_length))) j
  near_best j is = subst (λ o. IsBestOf hit.greatest (EndsAt (hit_after hit (place + hit.row.atom_length))) o) is (here.told (near_there j is)).near

  -- what was told, with what is told here
  pub told_more : (told : List Told) (next : ℕ) → next ≡ place + 1 → WereTold hit hits told next
      → WereTold hit hits (record { at = place; near = ends.near; far = ends.far } ∷ told) place
  told_more told next is were = record { sound = sound; complete = complete }
    where
      sound : (a j : ℕ) → Tells (record { at = place; near = ends.near; far = ends.far } ∷ told) a j
          → Contains hits (a + hit.row.atom_length) × IsBest hit.greatest (EndsAt (hit_after hit (a + hit.row.atom_length))) j
      sound a j (zero, t, get, at, near) =
          let same : record { at = place; near = ends.near; far = ends.far } ≡ t = cc in
          let same_place : place ≡ a = ap (λ (t : Told). t.at) same ∙ at in
          let is : ends.near ≡ Some j = ap (λ (t : Told). t.near) same ∙ near in
          subst (λ a. Contains hits (a + hit.row.atom_length) × IsBest hit.greatest (EndsAt (hit_after hit (a + hit.row.atom_length))) j) same_place (here.into (near_there j is), near_best j is)
      sound a j (suc q, t, get, at, near) = were.sound a j (q, t, get, at, near)

      complete : (a j : ℕ) → Contains hits (a + hit.row.atom_length) → place ≤ a → EndsAt (hit_after hit (a + hit.row.atom_length)) j
          → (o : ℕ) × Tells (record { at = place; near = ends.near; far = ends.far } ∷ told) a o
      complete a j hit_there le end = elim (cases_lt place a) [
        | inl lt ↦ let old = were.complete a j hit_there (omega (arith, lt, is)) end in (old.0, (suc old.1.0, old.1.1, old.1.2, old.1.3, old.1.4))
        | inr past ↦
            let same : a ≡ place = omega (arith, le, past) in
            let ends_here = subst (λ a. EndsAt (hit_after hit (a + hit.row.atom_length)) j) same end in
            let best = (here.told (here.back (subst (λ a. Contains hits (a + hit.row.atom_length)) same hit_there))).near in
            let o = some_end ends.near best j ends_here in
            (o.0, (0, record { at = place; near = ends.near; far = ends.far }, refl, sym same, o.1))
      ]
        where
          some_end : (near : Option ℕ) → IsBestOf hit.greatest (EndsAt (hit_after hit (place + hit.row.atom_length))) near → (j : ℕ)
              → EndsAt (hit_after hit (place + hit.row.atom_length)) j → (o : ℕ) × (near ≡ Some o)
          some_end None none j e = absurd (none j e)
          some_end (Some o) best j e = (o, refl)

  module _ (walk : starts.Walk) (of : IsStartWalkOf hit walk) (told : List Told) (next : ℕ) (is : next ≡ place + 1) (were : WereTold hit hits told next)
      (border : has_left_border hit.border hit.file.now place ≡ true) where
    -- what the walk can answer ends a span
    start_sound : (j : ℕ) → starts.StartsAt walk told ends.far place j → SpansOfAll hit hits place j
    start_sound j (inl below) =
        let reach = below.1 in
        let a = reach.0 in
        let e = a + hit.row.atom_length in
        let of_told = were.sound a j reach.3 in
        let inside = are e of_told.0 in
        let accepts : AcceptsBackwards walk.moves walk.sets walk.file place a = (reach.1, below.0, reach.4, below.2) in
        let starts_there = (of.reads a place inside).1 accepts in
        let end = of_told.1.0 in
        let up = (leads_up (hit_after hit e) (good_after hit good e inside) j end.0).0 in
        (e, of_told.0, span_out hit good hits are e place j of_told.0 (starts_there, border, end, omega (arith, up, reach.2)))
    start_sound j (inr told_far) =
        let e = place + hit.row.atom_length in
        let t = far_there j told_far.0 in
        let inside = are e (here.into t) in
        let accepts : AcceptsBackwards walk.moves walk.sets walk.file place place = (told_far.1, told_far.2, told_far.3, told_far.4) in
        let starts_there = (of.reads place place inside).1 accepts in
        let B : Option ℕ → Type 0 = λ o. IsBestOf hit.greatest (λ j. EndsAt (hit_after hit e) j × (begin_of (hit_after hit e) < j)) o in
        let best : B (Some j) = subst B told_far.0 (here.told t).far in
        (e, here.into t, span_out hit good hits are e place j (here.into t) (starts_there, border, best.0.0, omega (arith, best.0.1)))

    -- one of its answers does for each span
    start_does : (j : ℕ) → SpansOfAll hit hits place j → (o : ℕ) × starts.StartsAt walk told ends.far place o × DoesFor hit.greatest o j
    start_does j s =
        let e = s.0 in
        let inside = are e s.1 in
        let a = e - hit.row.atom_length in
        let whole : e ≡ a + hit.row.atom_length = omega (arith, inside.1) in
        let there_a : Contains hits (a + hit.row.atom_length) = subst (Contains hits) whole s.1 in
        let span = subst (λ e. IsSpanOf (hit_after hit e) place j) whole (span_in hit good hits are e place j s.1 s.2) in
        let down = starts_down (hit_after hit (a + hit.row.atom_length)) (good_after hit good (a + hit.row.atom_length) (are (a + hit.row.atom_length) there_a)) place span.0 in
        let accepts = (of.reads a place (are (a + hit.row.atom_length) there_a)).0 span.0 in
        elim (cases_lt place a) [
          | inl lt ↦
              let old = were.complete a j there_a (omega (arith, lt, is)) span.2 in
              let best = (were.sound a old.0 old.1).1 in
              (old.0, inl (accepts.1, (a, accepts.0, lt, old.1, accepts.2), accepts.3), best.1 j span.2)
          | inr le ↦
              let same : a ≡ place = omega (arith, le, down) in
              let e_here : Contains hits (place + hit.row.atom_length) = subst (λ a. Contains hits (a + hit.row.atom_length)) same there_a in
              let ends_here = subst (λ a. EndsAt (hit_after hit (a + hit.row.atom_length)) j) same span.2 in
              let runs = subst (λ a. AcceptsBackwards walk.moves walk.sets walk.file place a) same accepts in
              let o = best_far ends.far (here.told (here.back e_here)).far j ends_here (omega (arith, span.3)) in
              (o.0, inr (o.1, runs.0, runs.1, runs.2, runs.3), o.2)
        ]
      where
        best_far : (far : Option ℕ) → IsBestOf hit.greatest (λ j. EndsAt (hit_after hit (place + hit.row.atom_length)) j × (begin_of (hit_after hit (place + hit.row.atom_length)) < j)) far
            → (j : ℕ) → EndsAt (hit_after hit (place + hit.row.atom_length)) j → place < j → (o : ℕ) × (far ≡ Some o) × DoesFor hit.greatest o j
        best_far None none j e lt = absurd (none j (e, omega (arith, lt)))
        best_far (Some o) best j e lt = (o, refl, best.1 j (e, omega (arith, lt)))

    start_best : (found : Option ℕ) → IsBestOf walk.greedy (starts.StartsAt walk told ends.far place) found → IsBestOf hit.greatest (SpansOfAll hit hits place) found
    start_best found best =
        let by : IsBestOf hit.greatest (starts.StartsAt walk told ends.far place) found = subst (λ g. IsBestOf g (starts.StartsAt walk told ends.far place) found) of.greedy best in
        best_by hit.greatest (starts.StartsAt walk told ends.far place) (SpansOfAll hit hits place) found start_sound start_does by

  -- no span begins where the left border fails
  no_border : has_left_border hit.border hit.file.now place ≡ false → (j : ℕ) → SpansOfAll hit hits place j → ⊥
  no_border none j s = let holds = (span_in hit good hits are s.0 place j s.1 s.2).1 in cc

  pub best_start : (walk : starts.Walk) → IsStartWalkOf hit walk → (told : List Told) (next : ℕ) → next ≡ place + 1 → WereTold hit hits told next → (found : Option ℕ)
      → IsBestOf walk.greedy (starts.StartsAt walk told ends.far place) found
      → IsBestOf hit.greatest (SpansOfAll hit hits place) (if (has_left_border hit.border hit.file.now place) then found else None)
  best_start walk of told next is were found best = at (has_left_border hit.border hit.file.now place) refl
    where
      at : (b : Bool) → has_left_border hit.border hit.file.now place ≡ b → IsBestOf hit.greatest (SpansOfAll hit hits place) (if b then found else None)
      at true border = start_best walk of told next is were border found best
      at false none = no_border none
