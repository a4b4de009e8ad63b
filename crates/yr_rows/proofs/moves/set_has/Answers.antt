use Rattle.std.proofs.Common.{arith, rules, ◌/◌}
use Rattle.std.proofs.lemmas.Nat.Bits.{shr_and_one}
use Rattle.yr_rows.proofs.RowLemmas.{set_inside, set_byte}
use Rattle.yr_rows.proofs.moves.set_has.Goals as goal

pub bounds-sets-set : goal.bounds-sets-set
bounds-sets-set c = omega (arith, set_inside c.args.sets.now c.args.set c.requires, c.ranges.byte.fits)

pub returns : goal.returns
returns c = λ bits at. let byte = set_byte c.args.sets.now c.args.set bits (c.args.byte / 8) c.requires at (omega (arith, c.ranges.byte.fits)) in rw (byte, shr_and_one) (search rules)
