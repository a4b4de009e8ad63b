use Rattle.std.proofs.Common.{◌∙◌}
use Rattle.yr_words.specs.Words.{is_stats}
use Rattle.yr_words.proofs.LentLemmas.{any-lent}
use Rattle.yr_words.proofs.parting.asks_stats.Goals as goal

pub returns : goal.returns
returns c = c.some_asks_stats.ensures ∙ any-lent (is_stats) c.args.flags.now
