-- Quotients by -1, and products with powers of two.
use Rattle.std.proofs.Common.{◌≡◌, ℕ, zero, suc, ◌/◌, ◌^◌, ◌<◌, refl, sym, ap, ◌∙◌, arith}
use Rattle.std.specs.Prelude.{ℤ, pos, negsuc, neg_ℤ, ◌*ℤ◌, int_div, FitsSigned}
use Rattle.std.specs.Int.{w64, int_wrap, int_shl, cast_signed, cast_unsigned}
use Rattle.std.proofs.lemmas.Int.{wrapping_mul-bits, int_wrap-mul_right}
use Rattle.std.proofs.Math.Facts.{to_z-of_z}
use Rattle.std.proofs.Math.Nat.{mod-eq_of_lt}
use Rattle.yr_values.specs.Numbers.{in_64_bits}

-- by -1 the quotient is the negated number
pub by_minus_one : (x : ℤ) → int_div x (negsuc 0) ≡ neg_ℤ x
by_minus_one (pos zero) = refl
by_minus_one (pos (suc n)) = let e : suc n / 1 ≡ suc n = omega arith in ap (λ m. neg_ℤ (pos m)) e
by_minus_one (negsuc n) = let e : suc n / 1 ≡ suc n = omega arith in ap pos e

-- the bits of a number below 2^64 are what it is brought back to
pub signed-is : (n : ℕ) → n < 2 ^ 64 → cast_signed w64 n ≡ in_64_bits (pos n)
unfolding int_wrap
signed-is n h = ap (cast_signed w64) (sym (mod-eq_of_lt h))

-- a shift to the left is a product
pub int_shl-is : (x : ℤ) (k : ℕ) → FitsSigned w64 x → 2 ^ k < 2 ^ 64 → cast_unsigned w64 x < 2 ^ 64 → int_shl w64 x k ≡ in_64_bits (x *ℤ pos (2 ^ k))
int_shl-is x k f h b =
    wrapping_mul-bits w64 (cast_unsigned w64 x) (2 ^ k) b h
    ∙ ap (λ z. in_64_bits (z *ℤ cast_signed w64 (2 ^ k))) (to_z-of_z f)
    ∙ ap (λ z. in_64_bits (x *ℤ z)) (signed-is (2 ^ k) h)
    ∙ int_wrap-mul_right w64 x (pos (2 ^ k))

-- the bits of a number of 64 signed bits
pub of_z-small : (x : ℤ) → FitsSigned w64 x → cast_unsigned w64 x < 2 ^ 64
of_z-small (pos n) f = let h = f.sfits in omega arith
of_z-small (negsuc n) f = omega arith
