use Rattle.std.proofs.Common.{◌∙◌}
use Rattle.yr_words.specs.Words.{has_letter_in}
use Rattle.yr_words.proofs.LentLemmas.{any-lent}
use Rattle.yr_words.proofs.parting.has_letter.Goals as goal

pub returns : goal.returns
returns c = c.some_has_letter.ensures ∙ any-lent (has_letter_in c.args.letter) c.args.flags.now
