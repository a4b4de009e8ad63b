use Rattle.std.proofs.Common.{◌≡◌, ℕ, suc, ◌-◌, ◌<◌, ap, arith}
use Rattle.yr_parser.specs.declared.level.Entry.TheVariants as entry
use Rattle.yr_parser.specs.Reading.{cond_at}
use Rattle.yr_parser.proofs.reading.+condition_at.Goals as goal

deeper : {X : Type 0} (f : ℕ → X) (n : ℕ) → 0 < n → f n ≡ f (suc (n - 1))
deeper f n some = let e : n ≡ suc (n - 1) = omega arith in ap f e

pub returns-then-depth-eq0 : goal.returns-then-depth-eq0
unfolding cond_at
returns-then-depth-eq0 t c = let none : c.args.depth ≡ 0 = omega arith in ap (λ n. cond_at n c.args.entry c.args.tokens.now) none

pub returns-in-Or : goal.returns-in-Or
unfolding cond_at
returns-in-Or t c = rw (c.in-Or.is, deeper (λ n. cond_at n entry.Or c.args.tokens.now) c.args.depth (omega arith)) c.or.ensures

pub returns-in-Bits : goal.returns-in-Bits
unfolding cond_at
returns-in-Bits t c = rw (c.in-Bits.is, deeper (λ n. cond_at n entry.Bits c.args.tokens.now) c.args.depth (omega arith)) c.bits.ensures
