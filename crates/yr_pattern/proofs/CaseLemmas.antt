-- The bytes of a set in either case.
use Rattle.std.proofs.Common.{◌≡◌, ℕ, zero, suc, ◌+◌, ◌-◌, ◌*◌, ◌/◌, ◌%◌, ◌<◌, ◌≤◌, min, List, [], ◌∷◌, length, get_or, refl, sym, ap, ◌∙◌, arith}
use Rattle.std.specs.Prelude.{Bool, true, false, ◌||◌, ◌&&◌, ◌==◌, bit_or, if◌then◌else◌}
use lib.Bits.{bit_and}
use Rattle.std.specs.Int.{bit_at}
use Rattle.std.proofs.lemmas.Bool.Decides.{nat_tests}
use Rattle.std.proofs.lemmas.Nat.Bits.{bit_at_and, bit_at-lt}
use Rattle.yr_base.specs.Bytes.{lowered, is_upper, is_lower}
use Rattle.yr_pattern.specs.Set.{has_bit, HasBits, in_either_case, raised}
use Rattle.yr_pattern.proofs.SetLemmas.{has_bit-or, has_bit-past}
use Rattle.yr_pattern.proofs.ClassLemmas.{eight}

-- both of two bits are 1
min_is_one : (a b : ℕ) → a < 2 → b < 2 → (min a b == 1) ≡ (a == 1 && b == 1)
min_is_one zero zero p q = refl
min_is_one zero (suc zero) p q = refl
min_is_one (suc zero) zero p q = refl
min_is_one (suc zero) (suc zero) p q = refl
min_is_one (suc (suc a)) b p q = absurd (omega arith)
min_is_one a (suc (suc b)) p q = absurd (omega arith)

has_bit-and : (m n i : ℕ) → (bit_at (bit_and m n) i == 1) ≡ (bit_at m i == 1 && bit_at n i == 1)
has_bit-and m n i = ap (λ b. b == 1) (bit_at_and m n i) ∙ min_is_one (bit_at m i) (bit_at n i) (bit_at-lt m i) (bit_at-lt n i)

abbrev capitals : List ℕ
capitals = 0xfe ∷ 0xff ∷ 0xff ∷ 0x07 ∷ []

capital : (k i : ℕ) → k < 4 → i < 8 → (bit_at (get_or capitals k 0) i == 1) ≡ is_upper (64 + (8 * k + i))
capital zero i l h = eight (λ i. (bit_at 254 i == 1) ≡ is_upper (64 + i)) refl refl refl refl refl refl refl refl i h ∙ let e : 64 + i ≡ 64 + (8 * 0 + i) = omega arith in ap is_upper e
capital (suc zero) i l h = eight (λ i. (bit_at 255 i == 1) ≡ is_upper (72 + i)) refl refl refl refl refl refl refl refl i h ∙ let e : 72 + i ≡ 64 + (8 * 1 + i) = omega arith in ap is_upper e
capital (suc (suc zero)) i l h = eight (λ i. (bit_at 255 i == 1) ≡ is_upper (80 + i)) refl refl refl refl refl refl refl refl i h ∙ let e : 80 + i ≡ 64 + (8 * 2 + i) = omega arith in ap is_upper e
capital (suc (suc (suc zero))) i l h = eight (λ i. (bit_at 7 i == 1) ≡ is_upper (88 + i)) refl refl refl refl refl refl refl refl i h ∙ let e : 88 + i ≡ 64 + (8 * 3 + i) = omega arith in ap is_upper e
capital (suc (suc (suc (suc k)))) i l h = absurd (omega arith)

-- one bit of a byte of the set
bit : (bits : List ℕ) (k i : ℕ) → i < 8 → (bit_at (get_or bits k 0) i == 1) ≡ has_bit bits (8 * k + i)
bit bits k i h =
    let q : k ≡ (8 * k + i) / 8 = omega arith in
    let r : i ≡ (8 * k + i) % 8 = omega arith in
    ap (λ n. bit_at (get_or bits n 0) i == 1) q ∙ ap (λ n. bit_at (get_or bits ((8 * k + i) / 8) 0) n == 1) r

no_capital : (x : ℕ) → 91 ≤ x → lowered x ≡ x
no_capital x h = grind (arith, nat_tests)

no_small : (x : ℕ) → x < 97 → raised x ≡ x
no_small x h = grind (arith, nat_tests)

same_letter : (x : ℕ) → 96 ≤ x → is_upper (x - 32) ≡ is_lower x
same_letter x h = grind (arith, nat_tests)

either_case : (a b : Bool) → (a || (b && true)) ≡ (b || a)
either_case true true = refl
either_case true false = refl
either_case false true = refl
either_case false false = refl

one_case : (a b : Bool) → (a || (b && false)) ≡ (a || a)
one_case true b = refl
one_case false true = refl
one_case false false = refl

swapped : (a b : Bool) → (a || b) ≡ (b || a)
swapped true true = refl
swapped true false = refl
swapped false true = refl
swapped false false = refl

-- a byte among the capital letters or beside them, and one among the small letters or beside them
at_capital : (has : ℕ → Bool) (x : ℕ) (b : Bool) → is_upper x ≡ b → x < 96 → (has x || (has (x + 32) && b)) ≡ in_either_case has x
at_capital has x true e h = either_case (has x) (has (x + 32)) ∙ ap (λ t. has (x + 32) || has t) (sym (no_small x (omega arith))) ∙ ap (λ t. has (if t then x + 32 else x) || has (raised x)) (sym e)
at_capital has x false e h = one_case (has x) (has (x + 32)) ∙ ap (λ t. has x || has t) (sym (no_small x (omega arith))) ∙ ap (λ t. has (if t then x + 32 else x) || has (raised x)) (sym e)

at_small : (has : ℕ → Bool) (x : ℕ) (b : Bool) → is_lower x ≡ b → 96 ≤ x → (has x || (has (x - 32) && b)) ≡ in_either_case has x
at_small has x true e h =
    either_case (has x) (has (x - 32)) ∙ swapped (has (x - 32)) (has x) ∙ ap (λ t. has t || has (x - 32)) (sym (no_capital x (omega arith)))
    ∙ ap (λ t. has (lowered x) || has (if t then x - 32 else x)) (sym e)
at_small has x false e h =
    one_case (has x) (has (x - 32)) ∙ ap (λ t. has t || has x) (sym (no_capital x (omega arith))) ∙ ap (λ t. has (lowered x) || has (if t then x - 32 else x)) (sym e)

module _ (bits : List ℕ) (k : ℕ) where
  -- byte k, with the letters that byte m has too
  joined : (m mask i : ℕ) → i < 8 → (bit_at (bit_or (get_or bits k 0) (bit_and (get_or bits m 0) mask)) i == 1) ≡ (has_bit bits (8 * k + i) || (has_bit bits (8 * m + i) && (bit_at mask i == 1)))
  joined m mask i h =
      has_bit-or (get_or bits k 0) (bit_and (get_or bits m 0) mask) i
      ∙ ap (λ t. t || (bit_at (bit_and (get_or bits m 0) mask) i == 1)) (bit bits k i h)
      ∙ ap (λ t. has_bit bits (8 * k + i) || t) (has_bit-and (get_or bits m 0) mask i ∙ ap (λ t. t && (bit_at mask i == 1)) (bit bits m i h))

  pub capitals_folded : 8 ≤ k → k < 12 → HasBits (in_either_case (has_bit bits)) k (bit_or (get_or bits k 0) (bit_and (get_or bits (k + 4) 0) (get_or capitals (k - 8) 0)))
  capitals_folded low high i h =
      let x : ℕ = 8 * k + i in
      let other : 8 * (k + 4) + i ≡ x + 32 = omega arith in
      let letter : 64 + (8 * (k - 8) + i) ≡ x = omega arith in
      joined (k + 4) (get_or capitals (k - 8) 0) i h
      ∙ ap (λ n. has_bit bits x || (has_bit bits n && (bit_at (get_or capitals (k - 8) 0) i == 1))) other
      ∙ ap (λ t. has_bit bits x || (has_bit bits (x + 32) && t)) (capital (k - 8) i (omega arith) h ∙ ap is_upper letter)
      ∙ at_capital (has_bit bits) x (is_upper x) refl (omega arith)

  pub small_folded : 12 ≤ k → k < 16 → HasBits (in_either_case (has_bit bits)) k (bit_or (get_or bits k 0) (bit_and (get_or bits (k - 4) 0) (get_or capitals (k - 12) 0)))
  small_folded low high i h =
      let x : ℕ = 8 * k + i in
      let other : 8 * (k - 4) + i ≡ x - 32 = omega arith in
      let letter : 64 + (8 * (k - 12) + i) ≡ x - 32 = omega arith in
      joined (k - 4) (get_or capitals (k - 12) 0) i h
      ∙ ap (λ n. has_bit bits x || (has_bit bits n && (bit_at (get_or capitals (k - 12) 0) i == 1))) other
      ∙ ap (λ t. has_bit bits x || (has_bit bits (x - 32) && t)) (capital (k - 12) i (omega arith) h ∙ ap is_upper letter ∙ same_letter x (omega arith))
      ∙ at_small (has_bit bits) x (is_lower x) refl (omega arith)

-- past the last byte there is none in either case
pub nothing_past : (bits : List ℕ) → length bits ≡ 32 → (x : ℕ) → 256 ≤ x → in_either_case (has_bit bits) x ≡ false
nothing_past bits n x h =
    let none : has_bit bits x ≡ false = has_bit-past bits x (omega arith) in
    let big : lowered x ≡ x = no_capital x (omega arith) in
    let same : raised x ≡ x = grind (arith, nat_tests) in
    ap (λ y. has_bit bits y || has_bit bits (raised x)) big ∙ ap (λ t. t || has_bit bits (raised x)) none ∙ ap (has_bit bits) same ∙ none
