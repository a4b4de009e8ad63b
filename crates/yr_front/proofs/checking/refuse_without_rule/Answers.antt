use Rattle.std.proofs.Common.{[], None, ◌++◌, codes, sym, ap, subst, ◌∙◌, append-nil}
use Rattle.yr_outcome.specs.declared.status.Status.TheVariants as status
use Rattle.yr_outcome.specs.Front.{check_text}
use Rattle.yr_outcome.specs.Steps.{IsRefusalOf}
use Rattle.yr_outcome.specs.Texts.{at_line, line, code_name}
use Rattle.yr_checks.specs.Refusals.{refusal_of}
use Rattle.yr_front.proofs.TextLemmas.{other-code}
use Rattle.yr_front.proofs.checking.refuse_without_rule.Goals as goal

pub returns-in-UnknownModule : goal.returns-in-UnknownModule
returns-in-UnknownModule c =
    let r = c.args.refusal.now in
    let text = codes "UnknownModule " ++ r.named.items in
    subst (λ code. IsRefusalOf status.Rules (check_text c.args.file.now [] (record (refusal_of r) { code = code }) None) c.refuse_at.result) (sym c.in-UnknownModule.is)
    (subst (λ file. IsRefusalOf status.Rules (at_line file r.line text) c.refuse_at.result) c.as_bytes.ensures.value
    (c.refuse_at.ensures text (ap (λ l. codes "UnknownModule " ++ l) (sym c.as_slice.ensures.value ∙ sym (append-nil c.as_slice.result.now)))))

pub returns-in_default : goal.returns-in_default
returns-in_default c =
    let r = c.args.refusal.now in
    subst (λ text. IsRefusalOf status.Rules text c.refuse.result)
    (sym (other-code c.args.file.now [] r.check r.unit r.file r.line r.rule r.named.items r.place r.code c.in_default.not-UnknownModule))
    (c.refuse.ensures (line (code_name r.code)) (ap line (sym (c.as_bytes-in_default.ensures.value ∙ c.code_name.ensures))))
