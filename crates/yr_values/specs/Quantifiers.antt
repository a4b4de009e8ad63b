-- When as many members or turns hold as a quantifier asks.
use Rattle.std.specs.Prelude.{ℕ, zero, suc, ◌*◌, ◌==◌, nat_le, pos, negsuc, ◌*ℤ◌, int_le, Bool, true}
use Rattle.yr_values.specs.declared.quantifier.Quantifier.{Quantifier}
use Rattle.yr_values.specs.declared.quantifier.Quantifier.TheVariants as quantifier

-- of `total` members or turns `found` hold, and the quantifier asks no more.
-- A number asks for that many; 0 asks for none at all, and a negative number for nothing. A percentage is exact.
abbrev pub meets : Quantifier → (found total : ℕ) → Bool
meets quantifier.All found total = found == total
meets quantifier.Any found total = nat_le 1 found
meets quantifier.Nil found total = found == 0
meets (quantifier.Number (pos zero)) found total = found == 0
meets (quantifier.Number (pos (suc n))) found total = nat_le (suc n) found
meets (quantifier.Number (negsuc n)) found total = true
meets (quantifier.Percent n) found total = int_le (n *ℤ pos total) (pos (found * 100))
