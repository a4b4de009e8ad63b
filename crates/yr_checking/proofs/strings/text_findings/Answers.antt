use Rattle.std.proofs.Common.{◌+◌, ◌-◌, ◌^◌, length, min, sym, ap, ◌∙◌, nat_lt}
use Rattle.yr_name_tables.specs.Names.{with_sign}
use Rattle.yr_conditions.specs.Fixed.{the_readers}
use Rattle.yr_syntax.specs.Declaration.{string_of}
use Rattle.yr_checks.specs.declared.refusal.Code.TheVariants as code
use Rattle.yr_checks.specs.Given.{name_if, naming}
use Rattle.yr_checking.specs.TextSizes.{large_count, literal_weight, text_sum}
use Rattle.yr_checking.proofs.StringLemmas.{text_large, text_weight}
use Rattle.yr_checking.proofs.strings.text_findings.Goals as goal

pub returns-clause-large : goal.returns-clause-large
returns-clause-large c =
    let m = c.args.modifiers.now in let t = c.args.text.now in
    c.sized_text.ensures.large
    ∙ ap (λ n. naming code.PatternTooLarge (name_if (nat_lt 0 (text_sum large_count m (length t))) (with_sign n))) c.deref.ensures.value
    ∙ sym (text_large the_readers (string_of c.args.string.now) t c.requires.text m c.requires.modifiers)

pub returns-clause-weight : goal.returns-clause-weight
returns-clause-weight c = λ rule.
    let m = c.args.modifiers.now in let t = c.args.text.now in
    c.sized_text.ensures.weight
    ∙ ap (λ n. min (32 + length n + text_sum literal_weight m (length t)) (2 ^ 64 - 1)) c.deref.ensures.value
    ∙ ap (λ w. min w (2 ^ 64 - 1)) (sym (text_weight the_readers (string_of c.args.string.now) t c.requires.text rule m c.requires.modifiers))
