use Rattle.std.proofs.Common.{◌≢◌, ◌<◌, length, refl, arith, rules, get_or-set_other, get_or-set_same, below_more, length-set}
use Rattle.yr_pattern.proofs.SetLemmas.{has_bit-complement}
use Rattle.yr_pattern.proofs.byte_set.ByteSet.complement.Goals as goal

pub loop-k-preserved : goal.loop-k-preserved
loop-k-preserved c =
    let i = c.loop-k.invariant in
    let lt : c.loop-k.k < length c.loop-k.bits = omega (arith, i.lengths.0, c.loop-k-test.true) in
    record {
      lengths = (simp length-set i.lengths.0, i.lengths.1);
      turned = below_more _ _
          (λ q h. let ne : q ≢ c.loop-k.k = omega arith in (rw get_or-set_other ((i.turned q h).0), (i.turned q h).1))
          (rw get_or-set_same refl, search rules);
    }

pub returns : goal.returns
returns c =
    let i = c.loop-k.invariant in
    has_bit-complement c.loop-k.bits c.args.self.now.bits i.lengths.0 i.lengths.1 (λ q h. i.turned q (omega arith))
