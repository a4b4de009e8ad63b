use Rattle.std.proofs.Common.{◌≡◌, length, map}
use Rattle.yr_preserves.specs.Preserves.{externals_in}
use Rattle.yr_outcome.specs.Externals.{first_misfit}
use Rattle.yr_machine.specs.Verified.{bytes_of}
use Rattle.yr_words.specs.Shown.{given_shown}
use Rattle.yr_scan.proofs.misfits.first_misfit.Given as goal

abbrev pub invariant-loop-rest : goal.invariant-loop-rest
invariant-loop-rest l = first_misfit (externals_in (bytes_of l.fn.image)) (map given_shown l.fn.givens) ≡ first_misfit (externals_in (bytes_of l.fn.image)) (map given_shown l.rest)

abbrev pub decreases-loop-rest : goal.decreases-loop-rest
decreases-loop-rest l = length l.rest
