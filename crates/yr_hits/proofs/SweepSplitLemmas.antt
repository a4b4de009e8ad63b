-- Hits of a split, and the spans that they give.
use Rattle.std.proofs.Common.{◌≡◌, ℕ, ◌+◌, ◌*◌, ◌<◌, ◌≤◌, Bool, List, length, Some, ap, ◌∙◌, subst, arith}
use Rattle.std.specs.Prelude.{slice_get}
use Rattle.std.specs.Option.{option_map_or}
use Rattle.std.specs.List.Sorted.{IsPermutation}
use Rattle.std.proofs.lemmas.List.Sorted.{Contains-permutation, IsPermutation-sym}
use Rattle.std.proofs.Math.Nat.{mul_comm}
use Rattle.yr_answer.specs.MatchList.{Match}
use Rattle.yr_image.specs.declared.rows.SplitRow.{SplitRow}
use Rattle.yr_image.specs.declared.rows.StringRow.{StringRow}
use Rattle.yr_image.specs.Image.{Image}
use Rattle.yr_image.specs.Reading.{image_in}
use Rattle.yr_machine.specs.Budget.{hit_cost, output_cost}
use Rattle.yr_machine.specs.ImageMatches.{is_greatest}
use Rattle.yr_machine.specs.Wellformed.{IsWellformed}
use Rattle.yr_hits.specs.declared.hit.Hit.{Hit}
use Rattle.yr_hits.specs.Gathering.{Grows}
use Rattle.yr_hits.specs.Spans.{IsSpanOfSome}
use Rattle.yr_hits.proofs.GrowLemmas.{grows_none, grows_as}
use Rattle.yr_hits.proofs.HitLemmas.{there}
use Rattle.yr_hits.proofs.SideLemmas.{good_fields}
use Rattle.yr_hits.proofs.SplitLemmas.{split_is_good}
use Rattle.yr_hits.specs.Sweeps.{AreHits, SpansOfAll, Sweeps}

-- the row of a split, and that of its string
pub split_rows : (bytes : List ℕ) (split : ℕ) (row : SplitRow) → IsWellformed bytes → slice_get (image_in bytes).splits split ≡ Some row
    → (string : StringRow) × (slice_get (image_in bytes).strings row.string ≡ Some string)
split_rows bytes split row wellformed at =
    let good = split_is_good bytes split row wellformed at in
    there (image_in bytes).strings row.string (good_fields (image_in bytes) good.0 row good.1).string

-- no hit gives a span
pub sweeps_none : (bytes file : List ℕ) (split : ℕ) (hits : List ℕ) (list : List Match) → IsWellformed bytes → split < length (image_in bytes).splits → length hits ≡ 0
    → Sweeps (image_in bytes) file split hits list list
sweeps_none bytes file split hits list wellformed lt none =
    let row = there (image_in bytes).splits split lt in
    let string = split_rows bytes split row.0 wellformed row.1 in
    record {
      row = row.0;
      is_row = row.1;
      string = string.0;
      is_string = string.1;
      grows = grows_none (is_greatest (image_in bytes) file string.0) (IsSpanOfSome (image_in bytes) file row.0 hits) list (λ i j s. let at = s.1 in omega (arith, at.1, none));
    }

pub sweeps_by : (bytes file : List ℕ) (split : ℕ) (hits : List ℕ) (row : SplitRow) (greatest : Bool) (old new : List Match) → IsWellformed bytes
    → slice_get (image_in bytes).splits split ≡ Some row
    → ((string : StringRow) → slice_get (image_in bytes).strings row.string ≡ Some string → greatest ≡ is_greatest (image_in bytes) file string)
    → Grows (IsSpanOfSome (image_in bytes) file row hits) greatest old new → Sweeps (image_in bytes) file split hits old new
sweeps_by bytes file split hits row greatest old new wellformed at says grows =
    let string = split_rows bytes split row wellformed at in
    record {
      row = row;
      is_row = at;
      string = string.0;
      is_string = string.1;
      grows = subst (λ b. Grows (IsSpanOfSome (image_in bytes) file row hits) b old new) (says string.0 string.1) grows;
    }

-- ---- the same hits in another order

module _ (hit : Hit) (hits sorted : List ℕ) (same : IsPermutation hits sorted) where
  pub sorted_hits : AreHits hit hits → AreHits hit sorted
  sorted_hits are e h = are e (Contains-permutation sorted hits e (IsPermutation-sym hits sorted same) h)

  pub sorted_spans : (a b : List Match) → Grows (SpansOfAll hit sorted) hit.greatest a b → Grows (SpansOfAll hit hits) hit.greatest a b
  sorted_spans a b g =
      grows_as hit.greatest (SpansOfAll hit sorted) (SpansOfAll hit hits) a b g
      (λ i j s. (s.0, Contains-permutation sorted hits s.0 (IsPermutation-sym hits sorted same) s.1, s.2))
      (λ i j s. (s.0, Contains-permutation hits sorted s.0 same s.1, s.2))

-- ---- what hits cost

pub cost_of : (image : Image) (size split : ℕ) (row : SplitRow) → slice_get image.splits split ≡ Some row → output_cost image size split ≡ hit_cost image size row
cost_of image size split row at = ap (λ o. option_map_or (hit_cost image size) o 0) at

pub cost_as : (image : Image) (size split : ℕ) (row : SplitRow) (count before now : ℕ) → slice_get image.splits split ≡ Some row
    → now + count ≤ before + hit_cost image size row * count → now + count ≤ before + count * output_cost image size split
cost_as image size split row count before now at paid =
    let whole : count * output_cost image size split ≡ hit_cost image size row * count =
    ap (λ n. count * n) (cost_of image size split row at) ∙ mul_comm count (hit_cost image size row) in
    omega (arith, paid, whole)
