-- Sets that are built byte by byte.
use Rattle.std.proofs.Common.{◌≡◌, ℕ, zero, suc, ◌+◌, ◌*◌, ◌/◌, ◌%◌, ◌<◌, ◌≤◌, inl, inr, List, length, get_or, sym, ap, ◌∙◌, arith}
use Rattle.std.specs.Prelude.{Bool, false}
use Rattle.std.proofs.Math.Path.{fun_ext}
use Rattle.std.proofs.lemmas.Bool.{cases_lt}
use Rattle.yr_pattern.specs.Set.{has_bit, HasBits}
use Rattle.yr_pattern.proofs.SetLemmas.{has_bit-past}

-- all 32 bytes have the bits of a class that has bytes alone
pub has_bit-from_bytes : (bits : List ℕ) (class : ℕ → Bool) → length bits ≡ 32 → ((q : ℕ) → q < 32 → HasBits class q (get_or bits q 0))
    → ((x : ℕ) → 256 ≤ x → class x ≡ false) → has_bit bits ≡ class
has_bit-from_bytes bits class n each none = fun_ext (λ x. elim (cases_lt x 256) [ inl h ↦ within x h | inr h ↦ past x h ])
  where
    within : (x : ℕ) → x < 256 → has_bit bits x ≡ class x
    within x h = each (x / 8) (omega arith) (x % 8) (omega arith) ∙ let e : 8 * (x / 8) + x % 8 ≡ x = omega arith in ap class e

    past : (x : ℕ) → 256 ≤ x → has_bit bits x ≡ class x
    past x h = has_bit-past bits x (omega arith) ∙ sym (none x h)

-- what holds of 0 to 7 holds below 8
pub eight : (P : ℕ → Type 0) → P 0 → P 1 → P 2 → P 3 → P 4 → P 5 → P 6 → P 7 → (i : ℕ) → i < 8 → P i
eight P a b c d e f g h zero l = a
eight P a b c d e f g h (suc zero) l = b
eight P a b c d e f g h (suc (suc zero)) l = c
eight P a b c d e f g h (suc (suc (suc zero))) l = d
eight P a b c d e f g h (suc (suc (suc (suc zero)))) l = e
eight P a b c d e f g h (suc (suc (suc (suc (suc zero))))) l = f
eight P a b c d e f g h (suc (suc (suc (suc (suc (suc zero)))))) l = g
eight P a b c d e f g h (suc (suc (suc (suc (suc (suc (suc zero))))))) l = h
eight P a b c d e f g h (suc (suc (suc (suc (suc (suc (suc (suc i)))))))) l = absurd (omega arith)
