use Rattle.std.proofs.Common.{◌≡◌, ◌++◌, map, length}
use Rattle.std.specs.Prelude.{string_bytes}
use Rattle.yr_words.specs.Shown.{lent_words}
use Rattle.yr_words.proofs.parting.push_all.Given as goal

abbrev pub invariant-loop-rest : goal.invariant-loop-rest
invariant-loop-rest l = lent_words l.places.items ++ map string_bytes l.rest ≡ lent_words l.initial.places.items ++ map string_bytes l.words

abbrev pub decreases-loop-rest : goal.decreases-loop-rest
decreases-loop-rest l = length l.rest
