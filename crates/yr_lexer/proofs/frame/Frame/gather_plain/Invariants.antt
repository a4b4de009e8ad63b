use Rattle.std.proofs.Common.{◌-◌, length}
use Rattle.yr_lexer.proofs.PassLemmas.{Passes}
use Rattle.yr_lexer.proofs.frame.Frame.gather_plain.Given as goal

abbrev pub invariant-tokens : goal.invariant-tokens
invariant-tokens l = Passes l.text l.fn.self l.self l.fn.tokens.items l.tokens.items

abbrev pub decreases-tokens : goal.decreases-tokens
decreases-tokens l = length l.self.tokens.items - l.self.at
