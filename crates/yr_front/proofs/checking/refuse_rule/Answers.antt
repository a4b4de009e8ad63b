use Rattle.std.proofs.Common.{[], ◌++◌, sym, ap, subst, ◌∙◌, append-nil}
use Rattle.yr_outcome.specs.declared.status.Status.TheVariants as status
use Rattle.yr_outcome.specs.Steps.{IsRefusalOf}
use Rattle.yr_outcome.specs.Texts.{at_line, finding_text, code_name, spaced_text, place_text}
use Rattle.yr_front.proofs.TextLemmas.{finding-pieces}
use Rattle.yr_front.proofs.checking.refuse_rule.Goals as goal

pub returns : goal.returns
returns c =
    let r = c.args.refusal.now in
    let text = finding_text r.code c.args.rule.now r.named.items r.place in
    let code = c.as_slice.ensures.value ∙ c.in-Ok.ensures ∙ append-nil c.as_bytes.result.now ∙ c.as_bytes.ensures.value ∙ c.code_name.ensures in
    let named = c.as_slice-2.ensures.value ∙ c.in-Ok-spaced_text.ensures ∙ ap spaced_text c.deref.ensures.value in
    let place = c.as_slice-3.ensures.value ∙ c.in-Ok-place_text.ensures in
    subst (λ file. IsRefusalOf status.Rules (at_line file r.line text) c.refuse_at.result) c.as_bytes-2.ensures.value
    (c.refuse_at.ensures text (finding-pieces (code_name r.code) c.args.rule.now (spaced_text r.named.items) (place_text r.place) _ _ _ code named place))
