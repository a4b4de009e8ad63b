-- The starts of a hit, and the matches that begin there.
use Rattle.std.proofs.Common.{◌≡◌, ℕ, ◌+◌, ◌-◌, ◌*◌, ◌<◌, ◌≤◌, ◌==◌, inl, inr, ◌↔◌, Bool, true, false, List, [], ◌∷◌, ◌++◌, length, Option, Some, None, true≢false, refl, sym, ap, ◌∙◌, subst, arith}
use Rattle.std.proofs.lemmas.Bool.{cases_lt}
use Rattle.std.proofs.Math.Nat.{mul-add}
use Rattle.yr_base.specs.Places.{has_left_border}
use Rattle.yr_moves.specs.declared.rows.ProgramRows.{ProgramRows}
use Rattle.yr_moves.specs.Programs.{moves_of, sets_of}
use Rattle.yr_moves.specs.Walks as engine
use Rattle.yr_rows.specs.Accepts.{AcceptsBackwards}
use Rattle.yr_answer.specs.MatchList.{Match, IsBest}
use Rattle.yr_image.specs.Image.{pool_text}
use Rattle.yr_image.specs.Views.{image_of}
use Rattle.yr_machine.specs.ImageMatches.{Nothing, Literal, Program, IsReadAs, StandsAt}
use Rattle.yr_hits.specs.declared.hit.Hit.{Hit}
use Rattle.yr_hits.specs.declared.hit.Ends.{Ends}
use Rattle.yr_hits.specs.Programs.{IsProgramOf}
use Rattle.yr_hits.specs.Gathering.{DoesFor, Grows}
use Rattle.yr_hits.specs.Spans.{begin_of, IsGoodHit, StartsAt, EndsAt, IsSpanOf, IsSpanFrom, IsOnly, IsBestOf, AreEnds}
use Rattle.yr_hits.proofs.SideLemmas.{leads_by, nothing_is, literal_is, program_is, best_as}
use Rattle.yr_hits.proofs.HitLemmas.{fields, program_there, accepts_rows_backwards, leads_up, starts_down}
use Rattle.yr_hits.proofs.GrowLemmas.{grows_none, grows_one, grows_join, grows_as}

-- the best place does for each other
pub best_does : (greatest : Bool) (P : ℕ → Type 0) (j o : ℕ) → IsBest greatest P j → P o → DoesFor greatest j o
best_does greatest P j o best p = best.1 o p

-- the spans of a hit from a place on
abbrev pub SpansFrom : Hit → ℕ → ℕ → ℕ → Type 0
SpansFrom hit place i j = IsSpanOf hit i j × (place ≤ i)

-- the walk finds the starts of the hit
pub record Finds (hit : Hit) (walk : engine.Walk) : Type 0 where
  pub same : (i : ℕ) → (StartsAt hit i) ↔ (AcceptsBackwards walk.moves walk.sets walk.file i walk.at)

module _ (hit : Hit) (good : IsGoodHit hit) where
  pub starts_within : (i : ℕ) → StartsAt hit i → (i ≤ hit.at) × (i ≤ length hit.file.now)
  starts_within i h = let down = starts_down hit good i h in (omega (arith, down), omega (arith, down, good.inside))

  -- ---- the side before the atom

  pub start_nothing : hit.row.before_kind ≡ 0 → IsOnly (StartsAt hit) (Some (begin_of hit))
  start_nothing kind =
      let row = hit.row in
      let is = nothing_is (image_of hit.view.now) hit.file.now true row row.before_kind row.before_place row.before_length kind in
      ((Nothing, is, refl), λ i h. leads_by (image_of hit.view.now) hit.file.now true row row.before_kind row.before_place row.before_length Nothing i (begin_of hit) is h)

  literal_before : hit.row.before_kind ≡ 1 → (bytes : List ℕ) → bytes ≡ pool_text (image_of hit.view.now) hit.row.before_place hit.row.before_length
      → (i : ℕ) → (StartsAt hit i) ↔ ((begin_of hit ≡ i + length bytes) × StandsAt (IsReadAs hit.row.key (hit.row.fold == 1)) hit.file.now i bytes)
  literal_before kind bytes text i =
      let row = hit.row in
      let is = literal_is (image_of hit.view.now) hit.file.now true row row.before_kind row.before_place row.before_length kind ∙ ap (λ t. Some (Literal t)) (sym text) in (
        λ h. leads_by (image_of hit.view.now) hit.file.now true row row.before_kind row.before_place row.before_length (Literal bytes) i (begin_of hit) is h,
        λ h. (Literal bytes, is, h),
      )

  pub start_literal : hit.row.before_kind ≡ 1 → (bytes : List ℕ) → bytes ≡ pool_text (image_of hit.view.now) hit.row.before_place hit.row.before_length
      → length bytes ≤ begin_of hit → StandsAt (IsReadAs hit.row.key (hit.row.fold == 1)) hit.file.now (begin_of hit - length bytes) bytes
      → IsOnly (StartsAt hit) (Some (begin_of hit - length bytes))
  start_literal kind bytes text le h = (
    (literal_before kind bytes text (begin_of hit - length bytes)).1 (omega (arith, le), h),
    λ i s. let is = ((literal_before kind bytes text i).0 s).0 in omega (arith, is),
  )

  pub no_start_room : hit.row.before_kind ≡ 1 → (bytes : List ℕ) → bytes ≡ pool_text (image_of hit.view.now) hit.row.before_place hit.row.before_length
      → begin_of hit < length bytes → (i : ℕ) → StartsAt hit i → ⊥
  no_start_room kind bytes text lt i s = let is = ((literal_before kind bytes text i).0 s).0 in omega (arith, is, lt)

  pub no_start_there : hit.row.before_kind ≡ 1 → (bytes : List ℕ) → bytes ≡ pool_text (image_of hit.view.now) hit.row.before_place hit.row.before_length
      → (StandsAt (IsReadAs hit.row.key (hit.row.fold == 1)) hit.file.now (begin_of hit - length bytes) bytes → ⊥) → (i : ℕ) → StartsAt hit i → ⊥
  no_start_there kind bytes text none i s =
      let is = (literal_before kind bytes text i).0 s in
      let at : i ≡ begin_of hit - length bytes = omega (arith, is.0) in
      none (subst (λ k. StandsAt (IsReadAs hit.row.key (hit.row.fold == 1)) hit.file.now k bytes) at is.1)

  pub program_starts : (rows : ProgramRows) → hit.row.before_kind ≡ 2 → IsProgramOf (image_of hit.view.now) hit.row.before_place rows
      → (i : ℕ) → (StartsAt hit i) ↔ (AcceptsBackwards (moves_of rows) (sets_of rows) hit.file.now i (begin_of hit))
  program_starts rows kind is i =
      let row = hit.row in
      let image = image_of hit.view.now in
      let side = program_is image hit.file.now true row row.before_kind row.before_place row.before_length kind in
      let lt = program_there image row.before_kind row.before_place row.before_length (fields hit good).before kind in
      let same = accepts_rows_backwards image hit.file.now row.before_place rows i (begin_of hit) lt is in (
        λ h. same.0 (leads_by image hit.file.now true row row.before_kind row.before_place row.before_length (Program row.before_place) i (begin_of hit) side h),
        λ h. (Program row.before_place, side, same.1 h),
      )

  -- ---- the end past a start

  pub past_near : (ends : Ends) (start : ℕ) → start < hit.at → AreEnds hit ends → IsBestOf hit.greatest (λ j. EndsAt hit j × (start < j)) ends.near
  past_near ends start lt are =
      best_as hit.greatest (EndsAt hit) (λ j. EndsAt hit j × (start < j)) ends.near
      (λ j h. let up = (leads_up hit good j h.0).0 in (h, omega (arith, up, lt))) (λ j h. h.0) are.near

  pub past_far : (ends : Ends) (start : ℕ) → StartsAt hit start → hit.at ≤ start → AreEnds hit ends → IsBestOf hit.greatest (λ j. EndsAt hit j × (start < j)) ends.far
  past_far ends start s le are =
      let down = starts_down hit good start s in
      let empty : hit.row.atom_length ≡ 0 = omega (arith, down, le, good.begins) in
      let here : start ≡ hit.at = omega (arith, down, le) in
      best_as hit.greatest (λ j. EndsAt hit j × (hit.at < j)) (λ j. EndsAt hit j × (start < j)) ends.far
      (λ j h. (h.0, omega (arith, h.1, here))) (λ j h. (h.0, omega (arith, h.1, here))) (are.far empty)

  -- ---- the match at a start

  pub no_border : (start : ℕ) (list : List Match) → has_left_border hit.border hit.file.now start ≡ false → Grows (IsSpanFrom hit start) hit.greatest list list
  no_border start list none =
      grows_none hit.greatest (IsSpanFrom hit start) list (λ i j h.
      let border : has_left_border hit.border hit.file.now start ≡ true = subst (λ k. has_left_border hit.border hit.file.now k ≡ true) h.0 h.1.1 in
      true≢false (sym border ∙ none))

  pub no_end : (start : ℕ) (list : List Match) → ((j : ℕ) → EndsAt hit j × (start < j) → ⊥) → Grows (IsSpanFrom hit start) hit.greatest list list
  no_end start list none =
      grows_none hit.greatest (IsSpanFrom hit start) list (λ i j h. none j (h.1.2, omega (arith, h.0, h.1.3)))

  pub one_match : (start end : ℕ) (list : List Match) → StartsAt hit start → has_left_border hit.border hit.file.now start ≡ true
      → IsBest hit.greatest (λ j. EndsAt hit j × (start < j)) end
      → Grows (IsSpanFrom hit start) hit.greatest list (list ++ (start, end - start) ∷ [])
  one_match start end list s border best =
      let whole : end ≡ start + (end - start) = omega (arith, best.0.1) in
      let E : ℕ → Type 0 = λ j. IsBest hit.greatest (λ j. EndsAt hit j × (start < j)) j in
      let best' : E (start + (end - start)) = subst E whole best in
      grows_one hit.greatest (IsSpanFrom hit start) list start (end - start)
      (refl, (s, border, best'.0.0, best'.0.1))
      (λ i j h. (h.0, best'.1 j (h.1.2, omega (arith, h.0, h.1.3))))

  -- ---- one start, or none

  pub no_starts : (list : List Match) → ((i : ℕ) → StartsAt hit i → ⊥) → Grows (IsSpanOf hit) hit.greatest list list
  no_starts list none = grows_none hit.greatest (IsSpanOf hit) list (λ i j h. none i h.0)

  pub only_one : (start : ℕ) (a b : List Match) → ((i : ℕ) → StartsAt hit i → i ≡ start) → Grows (IsSpanFrom hit start) hit.greatest a b → Grows (IsSpanOf hit) hit.greatest a b
  only_one start a b only g =
      grows_as hit.greatest (IsSpanFrom hit start) (IsSpanOf hit) a b g (λ i j h. h.1) (λ i j h. (only i h.0, h))

  -- without an end there is no span
  pub no_near : (ends : Ends) (list : List Match) → ends.near ≡ None → AreEnds hit ends → Grows (IsSpanOf hit) hit.greatest list list
  no_near ends list none are =
      let P : Option ℕ → Type 0 = λ o. IsBestOf hit.greatest (EndsAt hit) o in
      let no_end : (j : ℕ) → EndsAt hit j → ⊥ = subst P none are.near in
      grows_none hit.greatest (IsSpanOf hit) list (λ i j h. no_end j h.2)

  -- ---- the starts of a program, from the last to the first

  pub none_yet : (list : List Match) (place : ℕ) → place ≡ begin_of hit + 1 → Grows (SpansFrom hit place) hit.greatest list list
  none_yet list place is =
      grows_none hit.greatest (SpansFrom hit place) list (λ i j h. let down = starts_down hit good i h.0.0 in omega (arith, down, h.1, is))

  pub one_more : (walk : engine.Walk) (start : ℕ) (a b c : List Match) → Finds hit walk → IsBest true (engine.IsStart walk) start
      → Grows (SpansFrom hit walk.place) hit.greatest a b → Grows (IsSpanFrom hit start) hit.greatest b c
      → Grows (SpansFrom hit start) hit.greatest a c
  one_more walk start a b c finds best g h =
      grows_join hit.greatest (SpansFrom hit walk.place) (IsSpanFrom hit start) (SpansFrom hit start) a b c g h
      (λ i j s. (s.0, omega (arith, s.1, best.0.1)))
      (λ i j s. (s.1, omega (arith, s.0)))
      (λ i j s. elim (cases_lt i walk.place) [
        | inl lt ↦
            let up : i ≤ start = best.1 i ((finds.same i).0 s.0.0, lt) in
            inr (omega (arith, up, s.1), s.0)
        | inr le ↦ inl (s.0, le)
      ])

  pub all_done : (walk : engine.Walk) (a b : List Match) → Finds hit walk → ((i : ℕ) → engine.IsStart walk i → ⊥)
      → Grows (SpansFrom hit walk.place) hit.greatest a b → Grows (IsSpanOf hit) hit.greatest a b
  all_done walk a b finds none g =
      grows_as hit.greatest (SpansFrom hit walk.place) (IsSpanOf hit) a b g (λ i j s. s.0)
      (λ i j s. elim (cases_lt i walk.place) [
        | inl lt ↦ absurd (none i ((finds.same i).0 s.0, lt))
        | inr le ↦ (s, le)
      ])

-- ---- what the walk costs

-- so far, where `place` is left of all places
abbrev pub Paid : (moves all place before now : ℕ) → Type 0
Paid moves all place before now = now + moves * place + place ≤ before + moves * all + all

pub paid_more : (moves all old new before now after last : ℕ) → Paid moves all old before now → after ≤ now + moves * (old - new) → new < old → last ≤ after + 1
    → Paid moves all new before last
paid_more moves all old new before now after last paid cost lt one =
    let parts : (old - new) + new ≡ old = omega (arith, lt) in
    let product : moves * ((old - new) + new) ≡ moves * (old - new) + moves * new = mul-add moves (old - new) new in
    let whole : moves * ((old - new) + new) ≡ moves * old = ap (λ k. moves * k) parts in
    omega (arith, paid, cost, lt, one, product, whole)

pub paid_all : (moves all place before now : ℕ) → Paid moves all place before now → now ≤ before + (moves * all + all)
paid_all moves all place before now paid = omega (arith, paid)

-- the last look, down to place 0
pub paid_last : (moves all old new before now after : ℕ) → Paid moves all old before now → new ≤ old → after ≤ now + moves * (old - new)
    → after ≤ before + (moves * all + all)
paid_last moves all old new before now after paid le cost =
    let parts : (old - new) + new ≡ old = omega (arith, le) in
    let product : moves * ((old - new) + new) ≡ moves * (old - new) + moves * new = mul-add moves (old - new) new in
    let whole : moves * ((old - new) + new) ≡ moves * old = ap (λ k. moves * k) parts in
    omega (arith, paid, cost, product, whole)

pub paid_start : (moves all place before : ℕ) → place ≡ all → Paid moves all place before before
paid_start moves all place before is = let same : moves * place ≡ moves * all = ap (λ k. moves * k) is in omega (arith, is, same)

-- a walk that goes on finds the same starts
pub finds_keep : (hit : Hit) (walk : engine.Walk) (place : ℕ) (new : engine.Walk) → new ≡ record walk { place = place } → Finds hit walk → Finds hit new
finds_keep hit walk place new is finds =
    let F : engine.Walk → Type 0 = λ w. (i : ℕ) → (StartsAt hit i) ↔ (AcceptsBackwards w.moves w.sets w.file i w.at) in
    record { same = subst F (sym is) finds.same }

pub step_cost : (size moves old new start now after : ℕ) → size ≡ moves → new ≡ start → after ≤ now + size * (old - new) → after ≤ now + moves * (old - start)
step_cost size moves old new start now after same at cost =
    subst (λ s. after ≤ now + moves * (old - s)) at (subst (λ m. after ≤ now + m * (old - new)) same cost)
