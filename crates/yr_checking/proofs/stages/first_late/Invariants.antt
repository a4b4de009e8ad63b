use Rattle.std.proofs.Common.{◌≡◌, drop}
use Rattle.yr_name_tables.specs.Names.{first}
use Rattle.yr_checking.specs.AtHand.{given_at, placed_at}
use Rattle.yr_checking.specs.Stages.{late_fault}
use Rattle.yr_checking.proofs.stages.first_late.Given as goal

abbrev pub invariant-loop-check : goal.invariant-loop-check
invariant-loop-check l =
    first (late_fault (given_at l.examined.at.now) (placed_at l.examined.at.now)) l.checks
    ≡ first (late_fault (given_at l.examined.at.now) (placed_at l.examined.at.now)) (drop l.check-index l.checks)
