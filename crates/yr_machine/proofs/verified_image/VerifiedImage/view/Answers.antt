use Rattle.yr_machine.proofs.CallerLemmas.{has_sections}
use Rattle.yr_machine.proofs.verified_image.VerifiedImage.view.Goals as goal

pub over-requires : goal.over-requires
over-requires c = has_sections c.args.self.now.bytes.now c.args.self.now.wellformed
