use Rattle.std.proofs.Common.{None, ◌∙◌, arith}
use Rattle.std.proofs.lemmas.Str.Pattern.{strip_prefix_char}
use Rattle.yr_words.proofs.CutLemmas.{signed-plain}
use Rattle.yr_words.proofs.number.signed_number.Goals as goal

pub returns-in-None : goal.returns-in-None
returns-in-None c = c.from_zero.ensures ∙ signed-plain c.args.word.now (strip_prefix_char 45 c.args.word.now None c.in-None.ensures.cases (omega arith))
