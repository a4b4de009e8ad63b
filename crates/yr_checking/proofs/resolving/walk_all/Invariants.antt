use Rattle.std.proofs.Common.{take, map}
use Rattle.yr_checking.specs.Placed.{item_at}
use Rattle.yr_checking.specs.Walked.{IsWalked, given_in}
use Rattle.yr_checking.proofs.resolving.walk_all.Given as goal

abbrev pub invariant-loop-place : goal.invariant-loop-place
invariant-loop-place l = IsWalked (given_in l.setting) (take l.place (map item_at l.setting.items.now)) l.walk
