use Rattle.yr_image.specs.Image.{shown}
use Rattle.yr_image.proofs.ComeBack.{length_back, sections_back}
use Rattle.yr_image.proofs.laws.encodings_have_sections.Goals as goal

pub returns-clause-length : goal.returns-clause-length
returns-clause-length c tables fits = length_back (shown tables) fits

pub returns-clause-sections : goal.returns-clause-sections
returns-clause-sections c tables fits rules strings nodes short = sections_back (shown tables) fits rules strings nodes short
