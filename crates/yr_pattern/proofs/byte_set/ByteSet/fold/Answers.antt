use Rattle.std.proofs.Common.{◌≢◌, ◌<◌, length, arith, get_or-set_other, get_or-set_same, below_more, length-set}
use Rattle.yr_pattern.specs.Set.{bytes_of, in_either_case}
use Rattle.yr_pattern.proofs.ClassLemmas.{has_bit-from_bytes}
use Rattle.yr_pattern.proofs.CaseLemmas.{nothing_past}
use Rattle.yr_pattern.proofs.byte_set.ByteSet.fold.Goals as goal

pub loop-k-preserved : goal.loop-k-preserved
loop-k-preserved c =
    let i = c.loop-k.invariant in
    let lt : c.loop-k.k < length c.loop-k.bits = omega (arith, i.lengths.0, c.loop-k-test.true) in
    record {
      lengths = (simp length-set i.lengths.0, i.lengths.1);
      folded = below_more _ _
          (λ q h. let ne : q ≢ c.loop-k.k = omega arith in rw get_or-set_other (i.folded q h))
          (rw get_or-set_same c.folded_byte.ensures);
    }

pub returns : goal.returns
returns c =
    let i = c.loop-k.invariant in
    has_bit-from_bytes c.loop-k.bits (in_either_case (bytes_of c.args.self.now)) i.lengths.0 (λ q h. i.folded q (omega arith)) (nothing_past c.args.self.now.bits i.lengths.1)
