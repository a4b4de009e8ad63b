use Rattle.std.proofs.Common.{◌≡◌, ◌++◌, drop}
use Rattle.yr_checking.proofs.space.add_fronts.Given as goal

abbrev pub invariant-loop-front : goal.invariant-loop-front
invariant-loop-front l = l.all ++ drop l.front-index l.fronts ≡ l.initial.all ++ l.fronts
