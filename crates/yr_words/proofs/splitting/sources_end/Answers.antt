use Rattle.std.proofs.Common.{arith}
use Rattle.yr_words.specs.Shown.{lent_words}
use Rattle.yr_words.proofs.LentLemmas.{lent_length, check-here}
use Rattle.yr_words.proofs.splitting.sources_end.Goals as goal

pub returns-clause-check : goal.returns-clause-check
returns-clause-check c =
    let n = lent_length c.args.places.now in
    check-here (lent_words c.args.places.now) c.words_before_givens.result (omega (arith, n, c.requires)) c.words_before_givens.ensures.before c.words_before_givens.ensures.last
