use Rattle.yr_base.proofs.WordLemmas.{word_test}
use Rattle.yr_base.proofs.laws.words_pass.Goals as goal

pub returns : goal.returns
returns c word = word_test word
