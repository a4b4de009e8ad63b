use Rattle.std.proofs.Common.{◌≡◌, ◌∙◌, [], All, IfOk, List, map, refl, ap, sym, subst}
use Rattle.yr_answer.specs.Truths.{truths_shown}
use Rattle.yr_preserves.specs.Preserves.{HaveKindsOf, IsGivenValue, externals_in}
use Rattle.yr_image.specs.Reading.{image_in}
use Rattle.yr_machine.specs.ImageRun.{FitExternals}
use Rattle.yr_outcome.specs.Answers.{own_values}
use Rattle.yr_outcome.specs.Externals.{values_with}
use Rattle.yr_scan.specs.Scanned.{IsScan}
use Rattle.yr_values.specs.Values.{Value, shown}
use Rattle.yr_machine.specs.Verified.{bytes_of}
use Rattle.yr_scan.proofs.FitLemmas.{fit_externals, kinds_of_own}
use Rattle.yr_scan.proofs.ReportLemmas.{if_ok_same}
use Rattle.yr_scan.proofs.owning.scan_own.Goals as goal

pub scan_file-requires-clause-externals : goal.scan_file-requires-clause-externals
scan_file-requires-clause-externals c =
    let bytes = bytes_of c.adopt-image.result in
    let values : map shown c.deref.result.now ≡ values_with [] (externals_in bytes) = ap (map shown) c.deref.ensures.value ∙ c.in_ok-values.ensures.values in
    subst (λ (v : List Value). FitExternals (image_in bytes) v) (sym values) (fit_externals bytes c.adopt-image.result.wellformed [] refl)

pub returns-clause-scan : goal.returns-clause-scan
returns-clause-scan c =
    let bytes = bytes_of c.adopt-image.result in
    let values : map shown c.deref.result.now ≡ own_values (externals_in bytes) = ap (map shown) c.deref.ensures.value ∙ c.in_ok-values.ensures.values in
    subst (λ b. IfOk c.scan_file.result (λ scan. IsScan b c.args.file.now (own_values (externals_in b)) scan.matches.lists scan.matches.hits (truths_shown scan.truths.items))) c.adopt-image.ensures
    (subst (λ (v : List Value). IfOk c.scan_file.result (λ scan. IsScan bytes c.args.file.now v scan.matches.lists scan.matches.hits (truths_shown scan.truths.items))) values c.scan_file.ensures)

pub returns-clause-kinds : goal.returns-clause-kinds
returns-clause-kinds c =
    let bytes = bytes_of c.adopt-image.result in
    let values : map shown c.in_ok-values.values.items ≡ own_values (externals_in bytes) = c.in_ok-values.ensures.values in
    let given : All IsGivenValue (own_values (externals_in bytes)) = subst (λ (v : List Value). All IsGivenValue v) values c.in_ok-values.ensures.given in
    let kinds : HaveKindsOf (externals_in c.args.bytes.now) (own_values (externals_in c.args.bytes.now)) =
    subst (λ b. HaveKindsOf (externals_in b) (own_values (externals_in b))) c.adopt-image.ensures (record { given = given; kinds = kinds_of_own (externals_in bytes) }) in
    if_ok_same (HaveKindsOf (externals_in c.args.bytes.now) (own_values (externals_in c.args.bytes.now))) c.scan_file.result kinds
