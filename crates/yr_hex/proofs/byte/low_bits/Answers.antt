use Rattle.std.proofs.Common.{ℕ, ◌+◌, ◌*◌, ◌%◌, Option, ◌∙◌, ap, sym}
use Rattle.yr_hex.specs.Meaning.{agrees}
use Rattle.yr_hex.proofs.NibbleLemmas.{any_digit, this_digit}
use Rattle.yr_hex.proofs.byte.low_bits.Goals as goal

pub returns-in-None : goal.returns-in-None
returns-in-None c i h = let at : ℕ = 8 * (c.args.k % 2) + i in any_digit at i h ∙ ap (λ (d : Option ℕ). agrees d at) (sym c.in-None.is)

pub returns-in-Some : goal.returns-in-Some
returns-in-Some c i h =
    let at : ℕ = 8 * (c.args.k % 2) + i in
    this_digit c.in-Some.digit c.args.k i c.if-digit-k.true h ∙ ap (λ (d : Option ℕ). agrees d at) (sym c.in-Some.is)
