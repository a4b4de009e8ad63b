use Rattle.std.proofs.Common.{◌≡◌, take, map}
use Rattle.yr_rules.specs.Rules as rules
use Rattle.yr_words.specs.Shown.{given_shown}
use Rattle.yr_outcome.specs.Front as front
use Rattle.yr_front.proofs.externals.externals_of.Given as goal

abbrev pub invariant-loop-given : goal.invariant-loop-given
invariant-loop-given l = map rules.external_of l.externals.items ≡ map front.external_of (map given_shown (take l.given-index l.givens))
