use Rattle.std.proofs.Common.{◌≡◌, drop}
use Rattle.yr_name_tables.specs.Names.{first}
use Rattle.yr_checking.specs.AtHand.{given_at, placed_at}
use Rattle.yr_checking.specs.Stages.{early_fault}
use Rattle.yr_checking.proofs.stages.first_early.Given as goal

abbrev pub invariant-loop-check : goal.invariant-loop-check
invariant-loop-check l =
    first (early_fault (given_at l.at) (placed_at l.at)) l.checks ≡ first (early_fault (given_at l.at) (placed_at l.at)) (drop l.check-index l.checks)
