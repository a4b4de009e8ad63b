-- Lists that grow by the spans of hits of one split.
use Rattle.std.proofs.Common.{◌≡◌, ℕ, ◌+◌, ◌<◌, inl, inr, Bool, true, false, List, length, Contains, true≢false, sym, ◌∙◌, subst, arith}
use Rattle.std.specs.Prelude.{slice_index}
use Rattle.std.proofs.lemmas.Bool.{cases_lt}
use Rattle.yr_answer.specs.MatchList.{Match}
use Rattle.yr_hits.specs.declared.hit.Hit.{Hit}
use Rattle.yr_hits.specs.Gathering.{Grows}
use Rattle.yr_hits.specs.Spans.{IsGoodHit, IsSpanOf}
use Rattle.yr_hits.proofs.GrowLemmas.{grows_none, grows_join, grows_as}
use Rattle.yr_hits.proofs.SplitLemmas.{span_of}
use Rattle.yr_hits.specs.Sweeps.{hit_after, IsInside, AreHits, SpansOf, SpansOfAll, SpansOfRest, SpansOfLater}
use Rattle.yr_hits.specs.Walks.{SpansIf}
use Rattle.yr_hits.proofs.OrderLemmas.{contains_at, place_of}

module _ (hit : Hit) (good : IsGoodHit hit) where
  pub good_after : (e : ℕ) → IsInside hit e → IsGoodHit (hit_after hit e)
  good_after e inside = record {
    wellformed = good.wellformed;
    small = good.small;
    inside = inside.0;
    begins = inside.1;
    unused = good.unused;
    good = good.good;
    border_is = good.border_is;
  }

  -- by the hit itself
  pub spans_as : (a b : List Match) → Grows (IsSpanOf hit) hit.greatest a b → Grows (SpansOf hit hit.at) hit.greatest a b
  spans_as a b g =
      grows_as hit.greatest (IsSpanOf hit) (SpansOf hit hit.at) a b g (λ i j s. (span_of hit good i j).0 s) (λ i j s. (span_of hit good i j).1 s)

module _ (hit : Hit) (hits : List ℕ) where
  -- ---- hits from the last to the first

  pub rest_none : (list : List Match) (k : ℕ) → k ≡ length hits → Grows (SpansOfRest hit hits k) hit.greatest list list
  rest_none list k is = grows_none hit.greatest (SpansOfRest hit hits k) list (λ i j s. omega (arith, s.1, s.2, is))

  pub rest_more : (k : ℕ) (a b c : List Match) → k < length hits → Grows (SpansOfRest hit hits (k + 1)) hit.greatest a b
      → Grows (SpansOf hit (slice_index hits k)) hit.greatest b c → Grows (SpansOfRest hit hits k) hit.greatest a c
  rest_more k a b c lt g h =
      grows_join hit.greatest (SpansOfRest hit hits (k + 1)) (SpansOf hit (slice_index hits k)) (SpansOfRest hit hits k) a b c g h
      (λ i j s. (s.0, omega (arith, s.1), s.2, s.3))
      (λ i j s. (k, omega arith, lt, s))
      (λ i j s. elim (cases_lt k s.0) [
        | inl more ↦ inl (s.0, omega (arith, more), s.2, s.3)
        | inr le ↦
            let same : s.0 ≡ k = omega (arith, le, s.1) in
            inr (subst (λ q. SpansOf hit (slice_index hits q) i j) same s.3)
      ])

  pub rest_all : (a b : List Match) (k : ℕ) → k ≡ 0 → Grows (SpansOfRest hit hits k) hit.greatest a b → Grows (SpansOfAll hit hits) hit.greatest a b
  rest_all a b k none g =
      grows_as hit.greatest (SpansOfRest hit hits k) (SpansOfAll hit hits) a b g
      (λ i j s. (slice_index hits s.0, contains_at hits s.0 s.2, s.3))
      (λ i j s. let at = place_of hits s.0 s.1 in (at.0, omega (arith, none), at.1, subst (λ e. SpansOf hit e i j) (sym at.2) s.2))

  -- ---- hits by their places, from the last down

  pub if_there : (there : Bool) (e : ℕ) (a b : List Match) → there ≡ true → Grows (SpansOf hit e) hit.greatest a b → Grows (SpansIf there hit e) hit.greatest a b
  if_there there e a b is g = grows_as hit.greatest (SpansOf hit e) (SpansIf there hit e) a b g (λ i j s. (is, s)) (λ i j s. s.1)

  pub if_not : (there : Bool) (e : ℕ) (list : List Match) → there ≡ false → Grows (SpansIf there hit e) hit.greatest list list
  if_not there e list is = grows_none hit.greatest (SpansIf there hit e) list (λ i j s. true≢false (sym s.0 ∙ is))

  pub later_none : (list : List Match) (place : ℕ) → AreHits hit hits → length hit.file.now < place → Grows (SpansOfLater hit hits place) hit.greatest list list
  later_none list place are past =
      grows_none hit.greatest (SpansOfLater hit hits place) list (λ i j s. let inside = are s.0 s.1 in omega (arith, s.3, inside.0, past))

  pub later_more : (place next : ℕ) (there : Bool) (a b c : List Match) → next ≡ place + 1 → (there ≡ true → Contains hits place) → (Contains hits place → there ≡ true)
      → Grows (SpansOfLater hit hits next) hit.greatest a b → Grows (SpansIf there hit place) hit.greatest b c
      → Grows (SpansOfLater hit hits place) hit.greatest a c
  later_more place next there a b c is into back g h =
      grows_join hit.greatest (SpansOfLater hit hits next) (SpansIf there hit place) (SpansOfLater hit hits place) a b c g h
      (λ i j s. (s.0, s.1, s.2, omega (arith, s.3, is)))
      (λ i j s. (place, into s.0, s.1, omega arith))
      (λ i j s. elim (cases_lt place s.0) [
        | inl more ↦ inl (s.0, s.1, s.2, omega (arith, more, is))
        | inr le ↦
            let same : s.0 ≡ place = omega (arith, le, s.3) in
            inr (back (subst (Contains hits) same s.1), subst (λ e. SpansOf hit e i j) same s.2)
      ])

  pub later_all : (a b : List Match) (place : ℕ) → place ≡ 0 → Grows (SpansOfLater hit hits place) hit.greatest a b → Grows (SpansOfAll hit hits) hit.greatest a b
  later_all a b place none g =
      grows_as hit.greatest (SpansOfLater hit hits place) (SpansOfAll hit hits) a b g
      (λ i j s. (s.0, s.1, s.2))
      (λ i j s. (s.0, s.1, s.2, omega (arith, none)))
