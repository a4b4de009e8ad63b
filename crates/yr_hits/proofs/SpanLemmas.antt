-- The spans that the walk over two programs counts are those of the hits.
use Rattle.std.proofs.Common.{◌≡◌, ℕ, zero, suc, ◌+◌, ◌-◌, ◌<◌, ◌⊎◌, inl, inr, ◌↔◌, Bool, true, false, nat_lt, List, [], ◌∷◌, length, Contains, Option, Some, refl, sym, ap, ◌∙◌, subst, arith}
use Rattle.std.specs.Prelude.{if◌then◌else◌}
use Rattle.std.proofs.lemmas.Bool.{cases_lt, lt-ltb, ltb-true}
use Rattle.yr_rows.specs.Accepts.{Accepts, AcceptsBackwards}
use Rattle.yr_moves.specs.declared.rows.ProgramRows.{ProgramRows}
use Rattle.yr_moves.specs.Programs.{moves_of, sets_of}
use Rattle.yr_walks.specs.EndWalks as ends
use Rattle.yr_walks.specs.StartWalks as starts
use Rattle.yr_walks.specs.Spans as spans
use Rattle.yr_image.specs.Views.{image_of}
use Rattle.yr_machine.specs.ImageMatches.{Program}
use Rattle.yr_hits.specs.declared.hit.Hit.{Hit}
use Rattle.yr_hits.specs.Programs.{IsProgramOf}
use Rattle.yr_hits.specs.Spans.{begin_of, IsGoodHit, StartsAt, LeadsTo, IsBestOf}
use Rattle.yr_hits.proofs.SideLemmas.{leads_by, program_is, best_as}
use Rattle.yr_hits.proofs.HitLemmas.{fields, program_there, accepts_rows, leads_up, starts_down}
use Rattle.yr_hits.proofs.StartLemmas.{program_starts}
use Rattle.yr_hits.proofs.SplitLemmas.{span_of}
use Rattle.yr_hits.specs.Sweeps.{hit_after, IsInside, IsCountBelow, AreHits, SpansOf, SpansOfAll}
use Rattle.yr_hits.specs.Walks.{IsSpanWalkOf, AreAtoms}
use Rattle.yr_hits.proofs.OrderLemmas.{is_there, is_counted}
use Rattle.yr_hits.proofs.SweepLemmas.{good_after}
use Rattle.yr_hits.proofs.PlaceLemmas.{span_in}
use Rattle.yr_hits.proofs.EndLemmas.{end_walk}
use Rattle.yr_hits.proofs.SweepStartLemmas.{start_walk}

-- ---- the walk reads both sides

abbrev pub span_walk : Hit → (before after : ProgramRows) → (end place atom : ℕ) → spans.Walk
span_walk hit before after end place atom = record { ends = end_walk hit after end; starts = start_walk hit before place; atom = atom }

module _ (hit : Hit) (good : IsGoodHit hit) (after : ProgramRows) (kind : hit.row.after_kind ≡ 2)
    (is : IsProgramOf (image_of hit.view.now) hit.row.after_place after) where
  program_leads : (j : ℕ) → (LeadsTo hit j) ↔ (Accepts (moves_of after) (sets_of after) hit.file.now hit.at j)
  program_leads j =
      let row = hit.row in
      let image = image_of hit.view.now in
      let side = program_is image hit.file.now false row row.after_kind row.after_place row.after_length kind in
      let lt = program_there image row.after_kind row.after_place row.after_length (fields hit good).after kind in
      let same = accepts_rows image hit.file.now row.after_place after hit.at j lt is in (
        λ h. same.0 (leads_by image hit.file.now false row row.after_kind row.after_place row.after_length (Program row.after_place) hit.at j side h),
        λ h. (Program row.after_place, side, same.1 h),
      )

module _ (hit : Hit) (good : IsGoodHit hit) (before after : ProgramRows) (before_kind : hit.row.before_kind ≡ 2) (after_kind : hit.row.after_kind ≡ 2)
    (is_before : IsProgramOf (image_of hit.view.now) hit.row.before_place before) (is_after : IsProgramOf (image_of hit.view.now) hit.row.after_place after) where
  -- the spans of a hit, by where its atom begins
  span_same : (end place a i j : ℕ) → IsInside hit (a + hit.row.atom_length)
      → (spans.IsSpan (span_walk hit before after end place hit.row.atom_length) a i j) ↔ (SpansOf hit (a + hit.row.atom_length) i j)
  span_same end place a i j inside =
      let e = a + hit.row.atom_length in
      let here = hit_after hit e in
      let good_here = good_after hit good e inside in
      let begin : begin_of here ≡ a = omega arith in
      let starts_by = subst (λ b. (StartsAt here i) ↔ (AcceptsBackwards (moves_of before) (sets_of before) hit.file.now i b)) begin
      (program_starts here good_here before before_kind is_before i) in
      let leads_by_rows = program_leads here good_here after after_kind is_after j in
      let span = span_of here good_here i j in (
        λ s. span.0 (starts_by.1 s.0, s.3, (leads_by_rows.1 s.1.0, s.1.2), s.2),
        λ s. let t = span.1 s in (starts_by.0 t.0, (leads_by_rows.0 t.2.0, omega (arith, (leads_up here good_here j t.2.0).0), t.2.1), t.3, t.1),
      )

  pub is_span_walk : (end place : ℕ) (walk : spans.Walk) → walk.ends ≡ end_walk hit after end → walk.starts ≡ start_walk hit before place
      → walk.atom ≡ hit.row.atom_length → IsSpanWalkOf hit walk
  is_span_walk end place walk e s a =
      let F : ends.Walk → starts.Walk → ℕ → Type 0 = λ w v n. (a i j : ℕ) → IsInside hit (a + hit.row.atom_length)
      → (spans.IsSpan (record { ends = w; starts = v; atom = n }) a i j) ↔ (SpansOf hit (a + hit.row.atom_length) i j) in
      let all : F (end_walk hit after end) (start_walk hit before place) hit.row.atom_length = span_same end place in
      let by_ends : F walk.ends (start_walk hit before place) hit.row.atom_length = subst (λ w. F w (start_walk hit before place) hit.row.atom_length) (sym e) all in
      let by_starts : F walk.ends walk.starts hit.row.atom_length = subst (λ v. F walk.ends v hit.row.atom_length) (sym s) by_ends in
      let by_atom : F walk.ends walk.starts walk.atom = subst (λ n. F walk.ends walk.starts n) (sym a) by_starts in
      record {
        greedy = ap (λ (w : ends.Walk). w.greedy) e;
        counts = by_atom;
      }

-- a walk that goes on
pub span_walk_on : (hit : Hit) (walk new : spans.Walk) (end place : ℕ) → new.ends ≡ record walk.ends { place = end } → new.starts ≡ record walk.starts { place = place }
    → new.atom ≡ walk.atom → IsSpanWalkOf hit walk → IsSpanWalkOf hit new
span_walk_on hit walk new end place e s a of =
    let F : ends.Walk → starts.Walk → ℕ → Type 0 = λ w v n. (a i j : ℕ) → IsInside hit (a + hit.row.atom_length)
    → (spans.IsSpan (record { ends = w; starts = v; atom = n }) a i j) ↔ (SpansOf hit (a + hit.row.atom_length) i j) in
    let all : F (record walk.ends { place = end }) (record walk.starts { place = place }) walk.atom = of.counts in
    let by_ends : F new.ends (record walk.starts { place = place }) walk.atom = subst (λ w. F w (record walk.starts { place = place }) walk.atom) (sym e) all in
    let by_starts : F new.ends new.starts walk.atom = subst (λ v. F new.ends v walk.atom) (sym s) by_ends in
    let by_atom : F new.ends new.starts new.atom = subst (λ n. F new.ends new.starts n) (sym a) by_starts in
    record {
      greedy = ap (λ (w : ends.Walk). w.greedy) e ∙ of.greedy;
      counts = by_atom;
    }

-- ---- one place down

-- nothing was told yet
pub none_among : (hit : Hit) (hits : List ℕ) (place : ℕ) → AreHits hit hits → length hit.file.now < place + hit.row.atom_length → AreAtoms hit hits [] place
none_among hit hits place are past = record {
  into = λ a h. let get = h.1 in cc;
  back = λ a h le. let inside = are (a + hit.row.atom_length) h in absurd (omega (arith, inside.0, le, past));
}

-- a place among one more
among_more : (place a : ℕ) (atoms : List ℕ) → spans.IsAmong (place ∷ atoms) a → (place ≡ a) ⊎ spans.IsAmong atoms a
among_more place a atoms (zero, get) = inl cc
among_more place a atoms (suc q, get) = inr (q, get)

module _ (hit : Hit) (hits : List ℕ) (place next : ℕ) (is : next ≡ place + 1) where
  pub atoms_more : (there : Bool) (atoms : List ℕ) → (there ≡ true → Contains hits (place + hit.row.atom_length))
      → (Contains hits (place + hit.row.atom_length) → there ≡ true) → AreAtoms hit hits atoms next
      → AreAtoms hit hits (if there then place ∷ atoms else atoms) place
  atoms_more true atoms into back old = record {
    into = λ a among. elim (among_more place a atoms among) [
      | inl same ↦ (subst (λ a. Contains hits (a + hit.row.atom_length)) same (into refl), omega (arith, same))
      | inr later ↦ let more = old.into a later in (more.0, omega (arith, more.1, is))
    ];
    back = λ a there le. elim (cases_lt place a) [
      | inl lt ↦ let more = old.back a there (omega (arith, lt, is)) in (suc more.0, more.1)
      | inr past ↦ let same : place ≡ a = omega (arith, le, past) in (0, ap (λ k. Some k) same)
    ];
  }
  atoms_more false atoms into back old = record {
    into = λ a among. let more = old.into a among in (more.0, omega (arith, more.1, is));
    back = λ a there le. elim (cases_lt place a) [
      | inl lt ↦ old.back a there (omega (arith, lt, is))
      | inr past ↦
          let same : a ≡ place = omega (arith, le, past) in
          let gone = back (subst (λ a. Contains hits (a + hit.row.atom_length)) same there) in cc
    ];
  }

module _ (hit : Hit) (good : IsGoodHit hit) (hits : List ℕ) (are : AreHits hit hits) (place next : ℕ) (is : next ≡ place + 1) where
  pub counted_spans : (walk : spans.Walk) (atoms : List ℕ) → IsSpanWalkOf hit walk → AreAtoms hit hits atoms place → (found : Option ℕ)
      → IsBestOf walk.ends.greedy (spans.IsCounted walk atoms place) found → IsBestOf hit.greatest (SpansOfAll hit hits place) found
  counted_spans walk atoms of atoms_are found best =
      best_as hit.greatest (spans.IsCounted walk atoms place) (SpansOfAll hit hits place) found into back
      (subst (λ g. IsBestOf g (spans.IsCounted walk atoms place) found) of.greedy best)
    where
      into : (j : ℕ) → spans.IsCounted walk atoms place j → SpansOfAll hit hits place j
      into j s =
          let there = atoms_are.into s.0 s.1 in
          (s.0 + hit.row.atom_length, there.0, (of.counts s.0 place j (are (s.0 + hit.row.atom_length) there.0)).0 s.2)

      back : (j : ℕ) → SpansOfAll hit hits place j → spans.IsCounted walk atoms place j
      back j s =
          let inside = are s.0 s.1 in
          let a = s.0 - hit.row.atom_length in
          let whole : s.0 ≡ a + hit.row.atom_length = omega (arith, inside.1) in
          let down = starts_down (hit_after hit s.0) (good_after hit good s.0 inside) place (span_in hit good hits are s.0 place j s.1 s.2).0 in
          let there : Contains hits (a + hit.row.atom_length) = subst (Contains hits) whole s.1 in
          let span = subst (λ e. SpansOf hit e place j) whole s.2 in
          (a, atoms_are.back a there (omega (arith, down)), (of.counts a place j (are (a + hit.row.atom_length) there)).1 span)

-- by the counts below the place and the next
pub atoms_here : (hit : Hit) (hits : List ℕ) (at place next count below : ℕ) → next ≡ place + 1 → at ≡ place + hit.row.atom_length → IsCountBelow hits (at + 1) count
    → IsCountBelow hits at below → (atoms : List ℕ) → AreAtoms hit hits atoms next
    → AreAtoms hit hits (if (nat_lt below count) then place ∷ atoms else atoms) place
atoms_here hit hits at place next count below down is above here atoms old =
    atoms_more hit hits place next down (nat_lt below count) atoms
    (λ t. subst (Contains hits) is (is_there hits at count below above here (ltb-true below count t)))
    (λ h. lt-ltb below count (is_counted hits at count below above here (subst (Contains hits) (sym is) h)))
    old
