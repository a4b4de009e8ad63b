use Rattle.yr_verifier.proofs.ReachLemmas.{reach_sections}
use Rattle.yr_verifier.proofs.verifying.check.Goals as goal

pub over-view-requires : goal.over-view-requires
over-view-requires c = reach_sections c.args.bytes.now c.in_ok-check_sections.ensures
