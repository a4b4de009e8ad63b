use Rattle.std.proofs.Common.{drop}
use Rattle.yr_answer.specs.MatchList.{RisesFrom}
use Rattle.yr_search.proofs.settling.rises.Given as goal

abbrev pub invariant-loop-m : goal.invariant-loop-m
invariant-loop-m l = RisesFrom l.least (drop l.m-index l.list) → RisesFrom 0 l.list
