use Rattle.std.proofs.Common.{take}
use Rattle.yr_checking.specs.Known.{AreMet}
use Rattle.yr_checking.proofs.known.met_fronts.Given as goal

abbrev pub invariant-loop-number : goal.invariant-loop-number
invariant-loop-number l = AreMet l.fronts (take l.number l.names) l.met
