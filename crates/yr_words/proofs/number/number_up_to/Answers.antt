use Rattle.std.proofs.Common.{◌≡◌, true, arith, rules}
use Rattle.yr_words.specs.Values.{is_number}
use Rattle.yr_words.proofs.CutLemmas.{above-all}
use Rattle.yr_words.proofs.number.number_up_to.Goals as goal

pub returns-in_default-2-clause-number : goal.returns-in_default-2-clause-number
returns-in_default-2-clause-number c =
    let digits : is_number c.args.word.now ≡ true = search rules in
    above-all c.args.most c.args.word.now (omega (arith, c.ranges.most.fits)) digits c.in_default.ensures.value.0
