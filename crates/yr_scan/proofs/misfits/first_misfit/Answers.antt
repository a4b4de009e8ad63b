use Rattle.std.proofs.Common.{◌≡◌, ◌∙◌, Some, None, subst, sym}
use Rattle.std.specs.Prelude.{slice_index_or}
use Rattle.yr_preserves.specs.Preserves.{externals_in}
use Rattle.yr_image.specs.Views.{shown_bytes}
use Rattle.yr_outcome.specs.Externals.{external_named, misfit}
use Rattle.yr_machine.specs.Verified.{bytes_of}
use Rattle.yr_words.specs.Shown.{given_shown}
use Rattle.yr_scan.specs.Misfits.{refusal_of}
use Rattle.yr_scan.proofs.FitLemmas.{head_misfit, tail_misfit, none_misfits}
use Rattle.yr_scan.proofs.misfits.first_misfit.Goals as goal

pub returns-in-Some : goal.returns-in-Some
returns-in-Some c =
    let externals = externals_in (bytes_of c.args.image.now) in
    let rest = c.loop-rest.rest.now in
    let here = subst (λ b. Some (refusal_of (slice_index_or rest 0 _).name.now c.in-Some.misfit) ≡ misfit (given_shown (slice_index_or rest 0 _)) (external_named (slice_index_or rest 0 _).name.now (externals_in b))) c.view-view.ensures.bytes c.in-Some.ensures in
    head_misfit externals rest _ c.in-Some.misfit c.in-len1-up.len_at_least here ∙ sym c.loop-rest.invariant

pub loop-rest-preserved : goal.loop-rest-preserved
loop-rest-preserved c =
    let externals = externals_in (bytes_of c.args.image.now) in
    let rest = c.loop-rest.rest.now in
    let here = subst (λ b. None ≡ misfit (given_shown (slice_index_or rest 0 _)) (external_named (slice_index_or rest 0 _).name.now (externals_in b))) c.view-view.ensures.bytes c.in-None.ensures in
    c.loop-rest.invariant ∙ tail_misfit externals rest _ c.in-len1-up.len_at_least here

pub returns : goal.returns
returns c = sym (c.loop-rest.invariant ∙ none_misfits (externals_in (bytes_of c.args.image.now)) c.loop-rest.rest.now c.in_default.len_below)
