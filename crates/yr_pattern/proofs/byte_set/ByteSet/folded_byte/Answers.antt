use Rattle.std.proofs.Common.{arith}
use Rattle.yr_pattern.proofs.CaseLemmas.{capitals_folded, small_folded}
use Rattle.yr_pattern.proofs.byte_set.ByteSet.folded_byte.Goals as goal

pub returns-in-8-to-11 : goal.returns-in-8-to-11
returns-in-8-to-11 c = capitals_folded c.args.self.now.bits c.args.k (omega arith) (omega arith)

pub returns-in-12-to-15 : goal.returns-in-12-to-15
returns-in-12-to-15 c = small_folded c.args.self.now.bits c.args.k (omega arith) (omega arith)
