-- What the checks of an image say of its splits, and the spans of a hit.
use Rattle.std.proofs.Common.{◌≡◌, ℕ, zero, suc, ◌+◌, ◌<◌, ◌↔◌, Bool, true, List, [], ◌∷◌, ◌++◌, length, set, Some, option_map, refl, sym, ap, ◌∙◌, subst, arith}
use Rattle.std.specs.Prelude.{slice_get, Vec}
use Rattle.std.specs.Option.{option_map_or}
use Rattle.std.proofs.lemmas.Bool.{ltb-true}
use Rattle.std.specs.declared.alloc.Global.{Global}
use Rattle.yr_base.specs.declared.border.Border.{Border}
use Rattle.yr_base.specs.Places.{has_left_border, has_right_border}
use Rattle.yr_answer.specs.MatchList.{Match}
use Rattle.yr_image.specs.declared.fault.ImageFault.TheVariants.{Index}
use Rattle.yr_image.specs.declared.rows.SplitRow.{SplitRow}
use Rattle.yr_image.specs.declared.rows.StringRow.{StringRow}
use Rattle.yr_image.specs.Image.{Image}
use Rattle.yr_image.specs.Reading.{image_in, zeros_in}
use Rattle.yr_image.specs.Views.{image_of}
use Rattle.yr_machine.specs.Rows.{is_good_split, is_good_output}
use Rattle.yr_machine.specs.Wellformed.{IsWellformed}
use Rattle.yr_machine.specs.ImageMatches.{SideSpans, border_of, is_greatest}
use Rattle.yr_hits.specs.declared.hit.Hit.{Hit}
use Rattle.yr_hits.specs.Spans.{IsSpan, IsSpanOf, IsGoodHit, begin_of}

-- ---- what the checks say

-- the number of the fields of a split that are not used, and that its row is good
pub split_is_good : (bytes : List ℕ) (k : ℕ) (row : SplitRow) → IsWellformed bytes → slice_get (image_in bytes).splits k ≡ Some row
    → (unused : ℕ) × (is_good_split (image_in bytes) unused row ≡ true)
split_is_good bytes k row wellformed at =
    let unused = option_map_or (λ (sum : ℕ). sum) (slice_get (zeros_in bytes) k) 0 in
    let test : SplitRow → Bool = is_good_split (image_in bytes) unused in
    let passes : option_map_or test (slice_get (image_in bytes).splits k) true ≡ true = wellformed (Index 4 k) in
    (unused, subst (λ o. option_map_or test o true ≡ true) at passes)

-- an output names a split
pub output_is_split : (bytes : List ℕ) (k split : ℕ) → IsWellformed bytes → slice_get (image_in bytes).outputs k ≡ Some split
    → split < length (image_in bytes).splits
output_is_split bytes k split wellformed at =
    let test : ℕ → Bool = is_good_output (image_in bytes) in
    let passes : option_map_or test (slice_get (image_in bytes).outputs k) true ≡ true = wellformed (Index 10 k) in
    ltb-true split (length (image_in bytes).splits) (subst (λ o. option_map_or test o true ≡ true) at passes)

-- ---- the spans of a hit

one_border : (n : ℕ) (a b : Border) → border_of n ≡ Some a → border_of n ≡ Some b → a ≡ b
one_border n a b p q = cc

pub span_of : (hit : Hit) → IsGoodHit hit → (i j : ℕ) → (IsSpanOf hit i j) ↔ (IsSpan (image_of hit.view.now) hit.file.now hit.row hit.at i j)
span_of hit good i j = (
  λ h. record {
    spans = record {
      begin = begin_of hit;
      atom = omega (arith, good.begins);
      before = h.0.0;
      before_is = h.0.1;
      before_spans = h.0.2;
      after = h.2.0.0;
      after_is = h.2.0.1;
      after_spans = h.2.0.2;
    };
    longer = h.3;
    border = hit.border;
    border_is = good.border_is;
    begins = h.1;
    ends = h.2.1;
  },
  λ s.
      let begin : s.spans.begin ≡ begin_of hit = omega (arith, s.spans.atom) in
      let border : s.border ≡ hit.border = one_border hit.row.border s.border hit.border s.border_is good.border_is in
      let B : ℕ → Type 0 = λ b. SideSpans (image_of hit.view.now) hit.file.now true hit.row s.spans.before i b in (
        (s.spans.before, s.spans.before_is, subst B begin s.spans.before_spans),
        subst (λ b. has_left_border b hit.file.now i ≡ true) border s.begins,
        ((s.spans.after, s.spans.after_is, s.spans.after_spans), subst (λ b. has_right_border b hit.file.now j ≡ true) border s.ends),
        s.longer,
      ),
)
