use Rattle.std.proofs.Common.{◌≡◌, ◌++◌, map, length}
use Rattle.std.specs.Option.{option_map}
use Rattle.yr_words.specs.Words.{each_of, source_of}
use Rattle.yr_words.specs.Shown.{lent_words, source_shown}
use Rattle.yr_words.proofs.splitting.sources_of.Given as goal

abbrev pub invariant-loop-rest : goal.invariant-loop-rest
invariant-loop-rest l = option_map (λ xs. map source_shown l.sources.items ++ xs) (each_of source_of (lent_words l.rest)) ≡ each_of source_of (lent_words l.words)

abbrev pub decreases-loop-rest : goal.decreases-loop-rest
decreases-loop-rest l = length l.rest
