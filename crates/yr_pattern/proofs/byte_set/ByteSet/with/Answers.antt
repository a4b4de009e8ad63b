use Rattle.std.proofs.Common.{arith}
use Rattle.std.proofs.Math.Path.{fun_ext}
use Rattle.yr_pattern.proofs.SetLemmas.{has_bit-set}
use Rattle.yr_pattern.proofs.byte_set.ByteSet.with.Goals as goal

pub returns : goal.returns
returns c = fun_ext (λ x. has_bit-set c.args.self.now.bits c.args.b x (omega arith))
