use Rattle.std.proofs.Common.{refl, arith}
use Rattle.yr_pattern.proofs.laws.xor_row.Goals as goal

pub returns : goal.returns
returns c = record {
  longer = omega arith;
  spans = (refl, (omega arith, refl, (omega arith, refl, (omega arith, refl, (omega arith, refl, tt)))));
  begins = refl;
  ends = refl;
}
