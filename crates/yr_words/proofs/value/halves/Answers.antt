use Rattle.std.proofs.Common.{arith}
use Rattle.std.proofs.lemmas.Str.Pattern.{split_parts}
use Rattle.yr_words.proofs.CutLemmas.{cut-from}
use Rattle.yr_words.proofs.value.halves.Goals as goal

pub returns : goal.returns
returns c = cut-from 61 c.args.word.now c.split_once.result (split_parts 61 c.args.word.now c.split_once.result c.split_once.ensures.cases (omega arith))
