use Rattle.std.proofs.Math.Path.{fun_ext}
use Rattle.yr_pattern.proofs.SetLemmas.{has_bit-replicate}
use Rattle.yr_pattern.proofs.byte_set.ByteSet.none.Goals as goal

pub returns : goal.returns
returns c = fun_ext (λ x. has_bit-replicate 32 x)
