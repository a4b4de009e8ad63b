use Rattle.yr_machine.specs.Verified.{bytes_of}
use Rattle.yr_cert.proofs.BytesLemmas.{certified_bytes}
use Rattle.yr_cert.proofs.certified_image.CertifiedImage.image.Goals as goal

pub returns-clause-certified : goal.returns-clause-certified
returns-clause-certified c = certified_bytes (bytes_of c.args.self.now.image) c.args.self.now.image.wellformed c.args.self.now.keeps.shape
