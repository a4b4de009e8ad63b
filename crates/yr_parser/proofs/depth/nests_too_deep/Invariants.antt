use Rattle.std.proofs.Common.{◌≡◌, ◌≤◌, length}
use Rattle.yr_parser.specs.Depth.{deep_from}
use Rattle.yr_parser.proofs.depth.nests_too_deep.Given as goal

abbrev pub invariant-terminals : goal.invariant-terminals
invariant-terminals l = record { same : deep_from 0 0 l.fn.tokens ≡ deep_from l.opened l.run l.ahead; few : l.opened ≤ 64; short : l.run ≤ 64 }

abbrev pub decreases-terminals : goal.decreases-terminals
decreases-terminals l = length l.ahead
