use Rattle.yr_pattern.specs.Counts.{IsReadAs}
use Rattle.yr_pattern.proofs.SpanLemmas.{stands_at, stands_from}
use Rattle.yr_pattern.proofs.laws.literal_places.Goals as goal

pub returns : goal.returns
returns c = λ bytes key fold file i j.
    (λ h. (h.0, λ k b. stands_at (IsReadAs key fold) file bytes i k h.1 b), λ h. (h.0, stands_from (IsReadAs key fold) file bytes i h.1))
