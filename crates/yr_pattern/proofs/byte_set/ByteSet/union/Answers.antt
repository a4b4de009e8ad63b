use Rattle.std.proofs.Common.{◌≢◌, ◌<◌, length, refl, arith, get_or-set_other, get_or-set_same, below_more, length-set}
use Rattle.yr_pattern.proofs.SetLemmas.{has_bit-union}
use Rattle.yr_pattern.proofs.byte_set.ByteSet.union.Goals as goal

pub loop-k-preserved : goal.loop-k-preserved
loop-k-preserved c =
    let i = c.loop-k.invariant in
    let lt : c.loop-k.k < length c.loop-k.bits = omega (arith, i.lengths.0, c.loop-k-test.true) in
    record {
      lengths = (simp length-set i.lengths.0, i.lengths.1, i.lengths.2);
      joined = below_more _ _
          (λ q h. let ne : q ≢ c.loop-k.k = omega arith in rw get_or-set_other (i.joined q h))
          (rw get_or-set_same refl);
    }

pub returns : goal.returns
returns c =
    let i = c.loop-k.invariant in
    has_bit-union c.loop-k.bits c.args.self.now.bits c.args.other.now.bits i.lengths.0 i.lengths.1 i.lengths.2 (λ q h. i.joined q (omega arith))
