-- The bytes whose halves agree with their digits, by bits.
use Rattle.std.proofs.Common.{◌≡◌, ℕ, ◌+◌, ◌*◌, ◌/◌, ◌%◌, ◌^◌, ◌<◌, inl, inr, List, length, get_or, Option, Some, None, refl, sym, ap, ◌∙◌, arith}
use Rattle.std.specs.Prelude.{true, ◌&&◌, ◌==◌}
use Rattle.std.specs.Int.{bit_at}
use Rattle.std.proofs.lemmas.Bool.{cases_eq, eq-eqb, ne_eqb, lt-ltb, le-ltb}
use Rattle.std.proofs.lemmas.Nat.Bits.{bit_at-pow_same, bit_at-pow_other, bit_at-zero}
use Rattle.yr_pattern.specs.Set.{has_bit, HasBits}
use Rattle.yr_pattern.proofs.ClassLemmas.{has_bit-from_bytes, eight}
use Rattle.yr_hex.specs.Meaning.{agrees, halves_agree, agreeing}

-- any low digit
pub any_digit : (n i : ℕ) → i < 8 → (bit_at 255 i == 1) ≡ agrees None n
any_digit n i h = eight (λ i. (bit_at 255 i == 1) ≡ true) refl refl refl refl refl refl refl refl i h

-- a power of two below 256 has one bit
one_bit : (k i : ℕ) → k < 8 → (bit_at (1 * 2 ^ k % 256) i == 1) ≡ (i == k)
one_bit k i h =
    ap (λ n. bit_at n i == 1) (eight (λ k. 1 * 2 ^ k % 256 ≡ 2 ^ k) refl refl refl refl refl refl refl refl k h)
    ∙ elim (cases_eq i k) [
      | inl e ↦ ap (λ n. bit_at (2 ^ k) n == 1) e ∙ ap (λ b. b == 1) (bit_at-pow_same k) ∙ sym (eq-eqb i k e)
      | inr n ↦ ap (λ b. b == 1) (bit_at-pow_other k i n) ∙ sym (ne_eqb i k n)
    ]

pub this_digit : (d k i : ℕ) → d / 8 ≡ k % 2 → i < 8 → (bit_at (1 * 2 ^ (d % 8) % 256) i == 1) ≡ agrees (Some d) (8 * (k % 2) + i)
this_digit d k i e h =
    let rest : d % 8 < 8 = omega arith in
    one_bit (d % 8) i rest
    ∙ elim (cases_eq i (d % 8)) [
      | inl same ↦ let whole : 8 * (k % 2) + i ≡ d = omega arith in eq-eqb i (d % 8) same ∙ sym (eq-eqb (8 * (k % 2) + i) d whole)
      | inr other ↦ ne_eqb i (d % 8) other ∙ sym (ne_eqb (8 * (k % 2) + i) d (λ whole. other (omega arith)))
    ]

pub no_digit : (d k i : ℕ) → (d / 8 ≡ k % 2 → ⊥) → i < 8 → (bit_at 0 i == 1) ≡ agrees (Some d) (8 * (k % 2) + i)
no_digit d k i n h = ap (λ b. b == 1) (bit_at-zero i) ∙ sym (ne_eqb (8 * (k % 2) + i) d (λ e. n (omega arith)))

-- the halves of a byte by its place
pub halves : (high low : Option ℕ) (k i : ℕ) → i < 8 → halves_agree high low (8 * k + i) ≡ (agrees high (k / 2) && agrees low (8 * (k % 2) + i))
halves high low k i h =
    let up : (8 * k + i) / 16 ≡ k / 2 = omega arith in
    let down : (8 * k + i) % 16 ≡ 8 * (k % 2) + i = omega arith in
    ap (λ n. agrees high n && agrees low ((8 * k + i) % 16)) up ∙ ap (λ n. agrees high (k / 2) && agrees low n) down

pub agreeing_from_bytes : (bits : List ℕ) (high low : Option ℕ) → length bits ≡ 32 → ((q : ℕ) → q < 32 → HasBits (halves_agree high low) q (get_or bits q 0))
    → has_bit bits ≡ agreeing high low
agreeing_from_bytes bits high low n each =
    has_bit-from_bytes bits (agreeing high low) n
    (λ q h i l. each q h i l ∙ let small : 8 * q + i < 256 = omega arith in sym (ap (λ t. t && halves_agree high low (8 * q + i)) (lt-ltb (8 * q + i) 256 small)))
    (λ x h. ap (λ t. t && halves_agree high low x) (le-ltb x 256 h))
