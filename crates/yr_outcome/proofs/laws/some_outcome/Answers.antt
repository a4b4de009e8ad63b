use Rattle.std.proofs.Common.{refl, sym, subst}
use Rattle.yr_outcome.specs.Outcome.{Claim, Holds, ending_of}
use Rattle.yr_outcome.specs.Examples.{nothing_found}
use Rattle.yr_outcome.proofs.laws.some_outcome.Goals as goal

pub returns-clause-near : goal.returns-clause-near
returns-clause-near c = λ setting reading words files.
    ((ending_of setting reading nothing_found files words).outcome, record { found = nothing_found; walk = refl })

pub returns-clause-free : goal.returns-clause-free
returns-clause-free c = λ setting reading words files free. (
  (ending_of setting reading nothing_found files words).outcome,
  record {
    found = nothing_found;
    walk = refl;
    holds = subst (λ (claim : Claim). Holds setting nothing_found claim) (sym free) tt;
  },
)
