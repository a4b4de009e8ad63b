use Rattle.yr_checking.proofs.AroundLemmas.{around-by}
use Rattle.yr_checking.proofs.judging.rule_around.Goals as goal

pub returns : goal.returns
returns c =
    around-by c.args.at.now c.requires.at c.args.rules.now c.args.strings.now c.args.first_string c.deref.result.now c.deref-2.result.now c.deref.ensures.value c.deref-2.ensures.value
    c.requires.rules c.requires.strings c.requires.first
