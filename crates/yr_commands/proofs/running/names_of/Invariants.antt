use Rattle.std.proofs.Common.{◌≡◌, take, map}
use Rattle.yr_words.specs.Shown.{given_shown}
use Rattle.yr_commands.proofs.running.names_of.Given as goal

abbrev pub invariant-loop-given : goal.invariant-loop-given
invariant-loop-given l = l.names.items ≡ map (λ g. g.name) (map given_shown (take l.given-index l.givens))
