use Rattle.std.proofs.Common.{◌≡◌, ◌<◌, ◌∙◌, sym, ap, length, Some, None, arith}
use Rattle.std.specs.Prelude.{slice_get}
use Rattle.std.specs.Option.{option_and_then}
use Rattle.std.proofs.lemmas.Option.{slice_get-get_or}
use Rattle.yr_conditions.proofs.MeaningLemmas.{rule-named}
use Rattle.yr_conditions.proofs.word.earlier_rule.Goals as goal

pub returns-in-Some : goal.returns-in-Some
returns-in-Some c =
    let within : c.in-Some.place < length c.args.numbers.now = omega (arith, c.requires, c.in-Some.ensures.within) in
    sym (rule-named c.args.rules.now c.args.numbers.now c.args.word.now c.requires
    ∙ ap (option_and_then (slice_get c.args.numbers.now)) (sym c.in-Some.ensures.value)
    ∙ slice_get-get_or c.args.numbers.now c.in-Some.place 0 within)

pub returns-in-None : goal.returns-in-None
returns-in-None c =
    sym (rule-named c.args.rules.now c.args.numbers.now c.args.word.now c.requires ∙ ap (option_and_then (slice_get c.args.numbers.now)) (sym c.in-None.ensures.value))
