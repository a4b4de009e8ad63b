use Rattle.std.proofs.Common.{◌≡◌, sym, subst, arith}
use Rattle.std.specs.Prelude.{IfOk}
use Rattle.std.specs.Option.{option_map, option_and_then}
use Rattle.yr_words.specs.Words.{with_sources}
use Rattle.yr_words.specs.Shown.{lent_words, with_split}
use Rattle.yr_words.proofs.LentLemmas.{lent_length, split-here}
use Rattle.yr_words.proofs.splitting.split_places.Goals as goal

pub returns : goal.returns
returns c = λ command.
    let n = lent_length c.args.places.now in
    let e = split-here (lent_words c.args.places.now) c.words_before_givens-more.result (omega (arith, n, c.words_before_givens-more.ensures.within))
    c.words_before_givens-more.ensures.before c.words_before_givens-more.ensures.last in
    subst (λ s. IfOk c.split_at.result (λ o. option_map (with_split command) o ≡ option_and_then (with_sources command) s)) (sym e) (c.split_at.ensures command)
