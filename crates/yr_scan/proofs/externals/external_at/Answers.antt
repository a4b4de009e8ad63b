use Rattle.yr_image.specs.Views.{shown_bytes}
use Rattle.yr_scan.proofs.ExternalLemmas.{good_external}
use Rattle.yr_scan.proofs.externals.external_at.Goals as goal

pub returns-clause-good : goal.returns-clause-good
returns-clause-good c = good_external (shown_bytes c.args.view.now) c.args.k c.external.result c.requires.wellformed c.external.ensures
