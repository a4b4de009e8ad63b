use Rattle.std.proofs.Common.{◌-◌}
use Rattle.yr_parser.proofs.ManyLemmas.{Leads}
use Rattle.yr_parser.proofs.many.many.Given as goal

abbrev pub invariant-loop-turn : goal.invariant-loop-turn
invariant-loop-turn g l = Leads (goal.O-post g l.next) (l._turn-end - l._turn) l.tokens l.found.items l._turn-end l.fn.tokens
