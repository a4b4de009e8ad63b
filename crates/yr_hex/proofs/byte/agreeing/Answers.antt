use Rattle.std.proofs.Common.{◌≢◌, ◌<◌, length, arith, get_or-set_other, get_or-set_same, below_more, length-set}
use Rattle.yr_hex.proofs.NibbleLemmas.{agreeing_from_bytes}
use Rattle.yr_hex.proofs.byte.agreeing.Goals as goal

pub loop-k-preserved : goal.loop-k-preserved
loop-k-preserved c =
    let i = c.loop-k.invariant in
    let lt : c.loop-k.k < length c.loop-k.bits = omega (arith, i.size, c.loop-k-test.true) in
    record {
      size = simp length-set i.size;
      agrees = below_more _ _
          (λ q h. let ne : q ≢ c.loop-k.k = omega arith in rw get_or-set_other (i.agrees q h))
          (rw get_or-set_same c.agreeing_byte.ensures);
    }

pub returns : goal.returns
returns c = agreeing_from_bytes c.loop-k.bits c.args.high c.args.low c.loop-k.invariant.size (λ q h. c.loop-k.invariant.agrees q (omega arith))
