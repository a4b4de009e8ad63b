-- Lists that grow by the spans of the hits of one split, from the last start down.
use Rattle.std.proofs.Common.{◌≡◌, ℕ, ◌+◌, ◌-◌, ◌<◌, ◌≤◌, inl, inr, Bool, true, false, List, length, Contains, Option, Some, None, refl, sym, subst, arith}
use Rattle.std.proofs.lemmas.Bool.{cases_lt}
use Rattle.yr_answer.specs.MatchList.{Match, IsBest}
use Rattle.yr_hits.specs.declared.hit.Hit.{Hit}
use Rattle.yr_hits.specs.Gathering.{DoesFor, Grows}
use Rattle.yr_hits.specs.Spans.{IsGoodHit, IsBestOf, IsSpanOf}
use Rattle.yr_hits.proofs.GrowLemmas.{grows_none, grows_one, grows_join, grows_as}
use Rattle.yr_hits.proofs.SplitLemmas.{span_of}
use Rattle.yr_hits.proofs.HitLemmas.{starts_down}
use Rattle.yr_hits.specs.Sweeps.{hit_after, AreHits, SpansOf, SpansOfAll, SpansFrom}
use Rattle.yr_hits.specs.Walks.{SpansAt, with_match}
use Rattle.yr_hits.proofs.SweepLemmas.{good_after}

-- what does for an end that does for another does for that
pub does_trans : (greatest : Bool) (j o x : ℕ) → DoesFor greatest j o → DoesFor greatest o x → DoesFor greatest j x
does_trans true j o x first second = omega (arith, first, second)
does_trans false j o x first second = omega (arith, first, second)

-- the best of some ends, where each is an end of another kind, and one of them does for each of that kind
pub best_by : (greatest : Bool) (P Q : ℕ → Type 0) (found : Option ℕ) → ((j : ℕ) → P j → Q j) → ((j : ℕ) → Q j → (o : ℕ) × P o × DoesFor greatest o j)
    → IsBestOf greatest P found → IsBestOf greatest Q found
best_by greatest P Q None into does none = λ j q. let one = does j q in none one.0 one.1
best_by greatest P Q (Some j) into does best = (into j best.0, λ x q. let one = does x q in does_trans greatest j one.0 x (best.1 one.0 one.1) one.2)

module _ (hit : Hit) (good : IsGoodHit hit) (hits : List ℕ) (are : AreHits hit hits) where
  -- what a span is
  pub span_in : (e i j : ℕ) → Contains hits e → SpansOf hit e i j → IsSpanOf (hit_after hit e) i j
  span_in e i j there s = (span_of (hit_after hit e) (good_after hit good e (are e there)) i j).1 s

  pub span_out : (e i j : ℕ) → Contains hits e → IsSpanOf (hit_after hit e) i j → SpansOf hit e i j
  span_out e i j there s = (span_of (hit_after hit e) (good_after hit good e (are e there)) i j).0 s

  -- spans begin where an atom can, or before
  pub span_begins : (i j : ℕ) → SpansOfAll hit hits i j → i + hit.row.atom_length ≤ length hit.file.now
  span_begins i j s =
      let inside = are s.0 s.1 in
      let down = starts_down (hit_after hit s.0) (good_after hit good s.0 inside) i (span_in s.0 i j s.1 s.2).0 in
      omega (arith, down, inside.0, inside.1)

  pub span_longer : (i j : ℕ) → SpansOfAll hit hits i j → i < j
  span_longer i j s = (span_in s.0 i j s.1 s.2).3

  pub end_behind : (start : ℕ) (found : Option ℕ) → IsBestOf hit.greatest (SpansOfAll hit hits start) found → (j : ℕ) → found ≡ Some j → start ≤ j
  end_behind start found best j is =
      let B : Option ℕ → Type 0 = λ o. IsBestOf hit.greatest (SpansOfAll hit hits start) o in
      let there : IsBest hit.greatest (SpansOfAll hit hits start) j = subst B is best in
      let longer = span_longer start j there.0 in
      omega (arith, longer)

  pub from_none : (list : List Match) (place : ℕ) → length hit.file.now < place + hit.row.atom_length → Grows (SpansFrom hit hits place) hit.greatest list list
  from_none list place past =
      grows_none hit.greatest (SpansFrom hit hits place) list (λ i j s. let within = span_begins i j s.0 in omega (arith, within, s.1, past))

  pub at_place : (place : ℕ) (found : Option ℕ) (list : List Match) → IsBestOf hit.greatest (SpansOfAll hit hits place) found
      → Grows (SpansAt hit hits place) hit.greatest list (with_match place found list)
  at_place place None list none =
      grows_none hit.greatest (SpansAt hit hits place) list (λ i j s. none j (subst (λ k. SpansOfAll hit hits k j) s.1 s.0))
  at_place place (Some end) list best =
      let longer = span_longer place end best.0 in
      let whole : place + (end - place) ≡ end = omega (arith, longer) in
      grows_one hit.greatest (SpansAt hit hits place) list place (end - place)
      (subst (SpansOfAll hit hits place) (sym whole) best.0, refl)
      (λ i j s. (s.1, subst (λ n. DoesFor hit.greatest n j) (sym whole) (best.1 j (subst (λ k. SpansOfAll hit hits k j) s.1 s.0))))

  pub from_more : (place next : ℕ) (found : Option ℕ) (a b c : List Match) → next ≡ place + 1 → Grows (SpansFrom hit hits next) hit.greatest a b
      → IsBestOf hit.greatest (SpansOfAll hit hits place) found → c ≡ with_match place found b → Grows (SpansFrom hit hits place) hit.greatest a c
  from_more place next found a b c is g best new =
      let h : Grows (SpansAt hit hits place) hit.greatest b c = subst (λ l. Grows (SpansAt hit hits place) hit.greatest b l) (sym new) (at_place place found b best) in
      grows_join hit.greatest (SpansFrom hit hits next) (SpansAt hit hits place) (SpansFrom hit hits place) a b c g h
      (λ i j s. (s.0, omega (arith, s.1, is)))
      (λ i j s. (s.0, omega (arith, s.1)))
      (λ i j s. elim (cases_lt place i) [
        | inl more ↦ inl (s.0, omega (arith, more, is))
        | inr le ↦ inr (s.0, omega (arith, le, s.1))
      ])

  pub from_all : (a b : List Match) (place : ℕ) → place ≡ 0 → Grows (SpansFrom hit hits place) hit.greatest a b → Grows (SpansOfAll hit hits) hit.greatest a b
  from_all a b place none g =
      grows_as hit.greatest (SpansFrom hit hits place) (SpansOfAll hit hits) a b g (λ i j s. s.0) (λ i j s. (s, omega (arith, none)))
