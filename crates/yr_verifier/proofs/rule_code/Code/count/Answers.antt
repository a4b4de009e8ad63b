use Rattle.std.proofs.Common.{sym}
use Rattle.yr_image.specs.Views.{image_of}
use Rattle.yr_verifier.proofs.RangeLemmas.{range_length}
use Rattle.yr_verifier.proofs.rule_code.Code.count.Goals as goal

pub returns : goal.returns
returns c = let code = c.args.self.now in sym (range_length code.first code.rows (image_of code.view).code code.inside)
