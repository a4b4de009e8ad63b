-- Where the sides of a hit lead.
use Rattle.std.proofs.Common.{◌≡◌, ◌≢◌, ℕ, ◌+◌, ◌-◌, ◌*◌, ◌<◌, ◌≤◌, ◌==◌, inl, inr, ◌↔◌, Bool, true, false, MatchBool, IfSome, IfNone, List, length, Option, Some, None, refl, sym, ap, ◌∙◌, subst, arith}
use Rattle.std.specs.Prelude.{slice_get}
use Rattle.std.proofs.lemmas.Option.{slice_get_cases}
use Rattle.std.proofs.Math.Nat.{mul-le-mul_left}
use Rattle.yr_rows.specs.Accepts.{Accepts, AcceptsBackwards}
use Rattle.yr_base.specs.Places.{has_right_border}
use Rattle.yr_moves.specs.declared.rows.ProgramRows.{ProgramRows}
use Rattle.yr_moves.specs.Programs.{moves_of, sets_of}
use Rattle.yr_moves.specs.Walks as engine
use Rattle.yr_image.specs.Image.{Image, in_pool, pool_text}
use Rattle.yr_image.specs.Image as image_parts
use Rattle.yr_image.specs.Views.{image_of}
use Rattle.yr_machine.specs.ImageMatches.{Nothing, Literal, Program, IsReadAs, StandsAt, ProgramAccepts}
use Rattle.yr_hits.specs.declared.hit.Hit.{Hit}
use Rattle.yr_hits.specs.Programs.{IsProgramOf}
use Rattle.yr_hits.specs.Spans.{begin_of, IsGoodHit, StartsAt, LeadsTo, EndsAt, IsOnly, IsBestOf, AreEnds}
use Rattle.yr_hits.proofs.SideLemmas.{IsSide, HasGoodFields, good_fields, leads_by, nothing_is, literal_is, program_is, side_up, side_down, best_of, best_as}

pub there : {A : Type 0} → (xs : List A) (k : ℕ) → k < length xs → (x : A) × (slice_get xs k ≡ Some x)
there xs k lt =
    elim (slice_get_cases xs k).1 [
      | inl h ↦ (h.0, h.2)
      | inr h ↦ absurd (omega (arith, lt, h.0))
    ]

-- a side that is neither nothing nor a program is a literal in the pool
pub literal_there : (image : Image) (side place count : ℕ) → IsSide image side place count → side ≢ 0 → side ≢ 2
    → (side ≡ 1) × (in_pool image place count ≡ true)
literal_there image side place count (inl z) some other = absurd (some z)
literal_there image side place count (inr (inl one)) some other = one
literal_there image side place count (inr (inr two)) some other = absurd (other two.0)

pub program_there : (image : Image) (side place count : ℕ) → IsSide image side place count → side ≡ 2 → place < length image.programs
program_there image side place count (inl z) e = absurd (omega (arith, z, e))
program_there image side place count (inr (inl one)) e = absurd (omega (arith, one.0, e))
program_there image side place count (inr (inr two)) e = two.1

-- what an image's program accepts is what its rows accept
pub accepts_rows : (image : Image) (file : List ℕ) (k : ℕ) (rows : ProgramRows) (i j : ℕ) → k < length image.programs → IsProgramOf image k rows
    → (ProgramAccepts image file false k i j) ↔ (Accepts (moves_of rows) (sets_of rows) file i j)
accepts_rows image file k rows i j lt is =
    let row = there image.programs k lt in (
      λ h. subst (λ ms. Accepts ms (sets_of rows) file i j) (sym (is.moves h.0 h.1)) (subst (λ ss. Accepts (image_parts.moves_of image h.0) ss file i j) (sym is.sets) h.2),
      λ h. (row.0, row.1, subst (λ ss. Accepts (image_parts.moves_of image row.0) ss file i j) is.sets (subst (λ ms. Accepts ms (sets_of rows) file i j) (is.moves row.0 row.1) h)),
    )

pub accepts_rows_backwards : (image : Image) (file : List ℕ) (k : ℕ) (rows : ProgramRows) (i j : ℕ) → k < length image.programs → IsProgramOf image k rows
    → (ProgramAccepts image file true k i j) ↔ (AcceptsBackwards (moves_of rows) (sets_of rows) file i j)
accepts_rows_backwards image file k rows i j lt is =
    let row = there image.programs k lt in (
      λ h. subst (λ ms. AcceptsBackwards ms (sets_of rows) file i j) (sym (is.moves h.0 h.1)) (subst (λ ss. AcceptsBackwards (image_parts.moves_of image h.0) ss file i j) (sym is.sets) h.2),
      λ h. (row.0, row.1, subst (λ ss. AcceptsBackwards (image_parts.moves_of image row.0) ss file i j) is.sets (subst (λ ms. AcceptsBackwards ms (sets_of rows) file i j) (is.moves row.0 row.1) h)),
    )

module _ (hit : Hit) (good : IsGoodHit hit) where
  pub fields : HasGoodFields (image_of hit.view.now) hit.row
  fields = good_fields (image_of hit.view.now) good.unused hit.row good.good

  -- the ends lie from the atom's end on, and in the file
  pub leads_up : (j : ℕ) → LeadsTo hit j → (hit.at ≤ j) × (j ≤ length hit.file.now)
  leads_up j h = side_up (image_of hit.view.now) hit.file.now hit.row h.0 hit.at j good.inside h.2

  pub starts_down : (i : ℕ) → StartsAt hit i → i ≤ begin_of hit
  starts_down i h = side_down (image_of hit.view.now) hit.file.now hit.row h.0 i (begin_of hit) h.2

  -- ---- the side after the atom

  pub end_nothing : hit.row.after_kind ≡ 0 → IsOnly (LeadsTo hit) (Some hit.at)
  end_nothing kind =
      let row = hit.row in
      let is = nothing_is (image_of hit.view.now) hit.file.now false row row.after_kind row.after_place row.after_length kind in
      ((Nothing, is, refl), λ j h. sym (leads_by (image_of hit.view.now) hit.file.now false row row.after_kind row.after_place row.after_length Nothing hit.at j is h))

  pub end_literal : hit.row.after_kind ≡ 1 → (bytes : List ℕ) → bytes ≡ pool_text (image_of hit.view.now) hit.row.after_place hit.row.after_length
      → StandsAt (IsReadAs hit.row.key (hit.row.fold == 1)) hit.file.now hit.at bytes → IsOnly (LeadsTo hit) (Some (hit.at + length bytes))
  end_literal kind bytes text h =
      let row = hit.row in
      let is = literal_is (image_of hit.view.now) hit.file.now false row row.after_kind row.after_place row.after_length kind ∙ ap (λ t. Some (Literal t)) (sym text) in (
        (Literal bytes, is, (refl, h)),
        λ j l. (leads_by (image_of hit.view.now) hit.file.now false row row.after_kind row.after_place row.after_length (Literal bytes) hit.at j is l).0,
      )

  pub end_no_literal : hit.row.after_kind ≡ 1 → (bytes : List ℕ) → bytes ≡ pool_text (image_of hit.view.now) hit.row.after_place hit.row.after_length
      → (StandsAt (IsReadAs hit.row.key (hit.row.fold == 1)) hit.file.now hit.at bytes → ⊥) → IsOnly (LeadsTo hit) None
  end_no_literal kind bytes text h =
      let row = hit.row in
      let is = literal_is (image_of hit.view.now) hit.file.now false row row.after_kind row.after_place row.after_length kind ∙ ap (λ t. Some (Literal t)) (sym text) in
      λ j l. h (leads_by (image_of hit.view.now) hit.file.now false row row.after_kind row.after_place row.after_length (Literal bytes) hit.at j is l).1

  -- ends of the one place that a side leads to
  pub no_ends : ((j : ℕ) → EndsAt hit j → ⊥) → AreEnds hit (record { near = None; far = None })
  no_ends none = record { near = none; far = λ empty j h. none j h.0 }

  pub one_end : (end : ℕ) → IsOnly (LeadsTo hit) (Some end) → has_right_border hit.border hit.file.now end ≡ true
      → IsBestOf hit.greatest (EndsAt hit) (Some end)
  one_end end only border = ((only.0, border), does hit.greatest)
    where
      does : (greatest : Bool) (o : ℕ) → EndsAt hit o → MatchBool greatest (o ≤ end) (end ≤ o)
      does true o h = omega (arith, only.1 o h.0)
      does false o h = omega (arith, only.1 o h.0)

  pub one_far_end : (end : ℕ) → hit.at < end → IsBestOf hit.greatest (EndsAt hit) (Some end) → IsBestOf hit.greatest (λ j. EndsAt hit j × (hit.at < j)) (Some end)
  one_far_end end lt best = ((best.0, lt), λ o h. best.1 o h.0)

  -- ---- a program after the atom

  program_leads : (rows : ProgramRows) → hit.row.after_kind ≡ 2 → IsProgramOf (image_of hit.view.now) hit.row.after_place rows
      → (j : ℕ) → (LeadsTo hit j) ↔ (Accepts (moves_of rows) (sets_of rows) hit.file.now hit.at j)
  program_leads rows kind is j =
      let row = hit.row in
      let image = image_of hit.view.now in
      let side = program_is image hit.file.now false row row.after_kind row.after_place row.after_length kind in
      let lt = program_there image row.after_kind row.after_place row.after_length fields.after kind in
      let same = accepts_rows image hit.file.now row.after_place rows hit.at j lt is in (
        λ h. same.0 (leads_by image hit.file.now false row row.after_kind row.after_place row.after_length (Program row.after_place) hit.at j side h),
        λ h. (Program row.after_place, side, same.1 h),
      )

  pub program_best : (rows : ProgramRows) (least : ℕ) (found : Option ℕ) → hit.row.after_kind ≡ 2 → IsProgramOf (image_of hit.view.now) hit.row.after_place rows
      → IfSome found (engine.IsBest hit.greatest (engine.IsEnd (moves_of rows) (sets_of rows) hit.file.now hit.at least hit.border))
      → IfNone found ((j : ℕ) → engine.IsEnd (moves_of rows) (sets_of rows) hit.file.now hit.at least hit.border j → ⊥)
      → IsBestOf hit.greatest (λ j. EndsAt hit j × (least ≤ j)) found
  program_best rows least found kind is some none =
      best_of hit.greatest (engine.IsEnd (moves_of rows) (sets_of rows) hit.file.now hit.at least hit.border) (λ j. EndsAt hit j × (least ≤ j)) found
      (λ j h. ((((program_leads rows kind is j).1 h.0), h.2), h.1))
      (λ j h. ((program_leads rows kind is j).0 h.0.0, h.1, h.0.1))
      some none

  -- every end is at least the atom's end
  pub near_best : (found : Option ℕ) → IsBestOf hit.greatest (λ j. EndsAt hit j × (hit.at ≤ j)) found → IsBestOf hit.greatest (EndsAt hit) found
  near_best found best =
      best_as hit.greatest (λ j. EndsAt hit j × (hit.at ≤ j)) (EndsAt hit) found (λ j h. h.0) (λ j h. (h, (leads_up j h.0).0)) best

  pub far_best : (found : Option ℕ) → IsBestOf hit.greatest (λ j. EndsAt hit j × (hit.at + 1 ≤ j)) found
      → IsBestOf hit.greatest (λ j. EndsAt hit j × (hit.at < j)) found
  far_best found best =
      best_as hit.greatest (λ j. EndsAt hit j × (hit.at + 1 ≤ j)) (λ j. EndsAt hit j × (hit.at < j)) found
      (λ j h. (h.0, omega (arith, h.1))) (λ j h. (h.0, omega (arith, h.1))) best

  -- where there is no end, there is none past the atom's end
  pub far_none : (found : Option ℕ) → found ≡ None → IsBestOf hit.greatest (EndsAt hit) found → AreEnds hit (record { near = found; far = None })
  far_none found none best =
      let P : Option ℕ → Type 0 = λ o. IsBestOf hit.greatest (EndsAt hit) o in
      let no_end : (j : ℕ) → EndsAt hit j → ⊥ = subst P none best in
      record { near = best; far = λ empty j h. no_end j h.0 }

-- the cost of a search for an end
pub end_cost : (moves size n at before after : ℕ) → after ≤ before + size * (n + 1 - at) → size ≡ moves → after ≤ before + moves * (n + 1)
end_cost moves size n at before after le same =
    let less : n + 1 - at ≤ n + 1 = omega arith in
    let product = mul-le-mul_left size less in
    let there : size * (n + 1) ≡ moves * (n + 1) = ap (λ k. k * (n + 1)) same in
    omega (arith, le, product, there)
