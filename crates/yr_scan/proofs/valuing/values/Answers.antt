use Rattle.std.proofs.Common.{◌≡◌, ◌∙◌, ◌++◌, ◌∷◌, [], ◌<◌, ◌≤◌, All, List, length, map, ap, sym, subst, arith}
use Rattle.std.proofs.lemmas.List.Elements.{All-push}
use Rattle.yr_preserves.specs.Preserves.{IsGivenValue, externals_in}
use Rattle.yr_image.specs.Views.{image_of, shown_bytes}
use Rattle.yr_outcome.specs.Externals.{values_with}
use Rattle.yr_values.specs.Values.{Value, shown}
use Rattle.yr_machine.proofs.CallerLemmas.{has_sections}
use Rattle.yr_words.specs.Shown.{given_shown}
use Rattle.yr_scan.proofs.ExternalLemmas.{external_rows}
use Rattle.yr_scan.proofs.FitLemmas.{all_values, map_last, next_value}
use Rattle.yr_scan.proofs.valuing.values.Goals as goal

pub external_at-row-requires-clause-there : goal.external_at-row-requires-clause-there
external_at-row-requires-clause-there c =
    let bytes = shown_bytes c.view-view.result in
    let rows = external_rows bytes (has_sections bytes c.view-view.ensures.wellformed) in
    let end = c.rows-k-end.ensures in
    let below = c.loop-k-test.true in
    omega (arith, rows, end, below)

pub loop-k-preserved : goal.loop-k-preserved
loop-k-preserved c =
    let image = image_of c.view-view.result in
    let more : map shown c.push.new.self.items ≡ map shown c.loop-k.values.items ++ shown c.value_with.result ∷ [] =
    ap (map shown) c.in_ok-push.ensures.items ∙ map_last shown c.loop-k.values.items c.value_with.result in
    record {
      first = more ∙ next_value image (map given_shown c.args.givens.now) image.externals c.loop-k.k c.external_at-row.result (map shown c.loop-k.values.items) (shown c.value_with.result)
          c.external_at-row.ensures.row c.loop-k.invariant.first c.value_with.ensures.value;
      given = subst (λ (l : List Value). All IsGivenValue l) (sym more) (All-push IsGivenValue (map shown c.loop-k.values.items) (shown c.value_with.result) c.loop-k.invariant.given c.value_with.ensures.given);
    }

pub returns-clause-values : goal.returns-clause-values
returns-clause-values c =
    let bytes = shown_bytes c.view-view.result in
    let image = image_of c.view-view.result in
    let rows = external_rows bytes (has_sections bytes c.view-view.ensures.wellformed) in
    let end = c.rows-k-end.ensures in
    let past = c.loop-k-test.false in
    let all : length image.externals ≤ c.loop-k.k = omega (arith, rows, end, past) in
    subst (λ b. map shown c.loop-k.values.items ≡ values_with (map given_shown c.args.givens.now) (externals_in b)) c.view-view.ensures.bytes
    (all_values image (map given_shown c.args.givens.now) image.externals c.loop-k.k (map shown c.loop-k.values.items) all c.loop-k.invariant.first)
