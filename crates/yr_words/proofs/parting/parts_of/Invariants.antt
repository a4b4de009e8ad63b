use Rattle.std.proofs.Common.{◌≡◌, ◌++◌, map, length}
use Rattle.std.specs.Prelude.{string_bytes}
use Rattle.yr_words.specs.Words.{flags_of, places_of}
use Rattle.yr_words.specs.Shown.{lent_words}
use Rattle.yr_words.proofs.parting.parts_of.Given as goal

abbrev pub invariant-loop-rest : goal.invariant-loop-rest
invariant-loop-rest l = record {
  flags : lent_words l.flags.items ++ flags_of (map string_bytes l.rest) ≡ flags_of (map string_bytes l.words);
  places : lent_words l.places.items ++ places_of (map string_bytes l.rest) ≡ places_of (map string_bytes l.words);
}

abbrev pub decreases-loop-rest : goal.decreases-loop-rest
decreases-loop-rest l = length l.rest
