-- The ends that a walk finds are those of the hits.
use Rattle.std.proofs.Common.{◌≡◌, ℕ, ◌+◌, Option, Some, None, IfSome, IfNone, sym, subst}
use Rattle.std.specs.Option.{MatchOption}
use Rattle.yr_moves.specs.declared.rows.ProgramRows.{ProgramRows}
use Rattle.yr_moves.specs.Programs.{moves_of, sets_of}
use Rattle.yr_walks.specs.EndWalks as ends
use Rattle.yr_image.specs.Views.{image_of}
use Rattle.yr_hits.specs.declared.hit.Hit.{Hit}
use Rattle.yr_hits.specs.Programs.{IsProgramOf}
use Rattle.yr_hits.specs.Spans.{IsGoodHit, AreEnds}
use Rattle.yr_hits.proofs.HitLemmas.{program_best, near_best, far_best}
use Rattle.yr_hits.specs.Sweeps.{hit_after, IsInside}
use Rattle.yr_hits.specs.Walks.{IsEndWalkOf}
use Rattle.yr_hits.proofs.SweepLemmas.{good_after}

pub if_some : (found : Option ℕ) (N : Type 0) (S : ℕ → Type 0) → MatchOption found N S → IfSome found S
if_some None N S h = tt
if_some (Some j) N S h = h

pub if_none : (found : Option ℕ) (N : Type 0) (S : ℕ → Type 0) → MatchOption found N S → IfNone found N
if_none None N S h = h
if_none (Some j) N S h = tt

-- the walk over the program after the atom
abbrev pub end_walk : Hit → ProgramRows → (place : ℕ) → ends.Walk
end_walk hit rows place =
    record { moves = moves_of rows; sets = sets_of rows; file = hit.file.now; greedy = hit.greatest; border = hit.border; place = place }

module _ (hit : Hit) (good : IsGoodHit hit) (rows : ProgramRows) (kind : hit.row.after_kind ≡ 2) (is : IsProgramOf (image_of hit.view.now) hit.row.after_place rows) where
  pub best_ends : (place at : ℕ) (near far : Option ℕ) → IsInside hit at → ends.IsBestEnd (end_walk hit rows place) at at near
      → ends.IsBestEnd (end_walk hit rows place) at (at + 1) far → AreEnds (hit_after hit at) (record { near = near; far = far })
  best_ends place at near far inside first second =
      let here = hit_after hit at in
      let good_here = good_after hit good at inside in
      record {
        near = near_best here good_here near (program_best here good_here rows at near kind is (if_some near _ _ first) (if_none near _ _ first));
        far = λ empty. far_best here good_here far (program_best here good_here rows (at + 1) far kind is (if_some far _ _ second) (if_none far _ _ second));
      }

  pub is_end_walk : (place : ℕ) (walk : ends.Walk) → walk ≡ end_walk hit rows place → IsEndWalkOf hit walk
  is_end_walk place walk same =
      let F : ends.Walk → Type 0 =
      λ w. (at : ℕ) (near far : Option ℕ) → IsInside hit at → ends.IsBestEnd w at at near → ends.IsBestEnd w at (at + 1) far
      → AreEnds (hit_after hit at) (record { near = near; far = far }) in
      record { finds = subst F (sym same) (best_ends place) }

-- a walk that goes on
pub end_walk_on : (hit : Hit) (walk : ends.Walk) (place : ℕ) (new : ends.Walk) → new ≡ record walk { place = place } → IsEndWalkOf hit walk → IsEndWalkOf hit new
end_walk_on hit walk place new is of =
    let F : ends.Walk → Type 0 =
    λ w. (at : ℕ) (near far : Option ℕ) → IsInside hit at → ends.IsBestEnd w at at near → ends.IsBestEnd w at (at + 1) far
    → AreEnds (hit_after hit at) (record { near = near; far = far }) in
    record { finds = subst F (sym is) of.finds }
