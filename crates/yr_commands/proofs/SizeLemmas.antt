-- The file of a workload is no longer than a target may be.
use Rattle.std.proofs.Common.{◌≡◌, ℕ, zero, suc, ◌+◌, ◌*◌, ◌%◌, ◌≤◌, ◌<◌, Bool, true, false, cond, eqb, List, [], ◌∷◌, ◌++◌, length, map, refl, sym, ap, subst, ◌∙◌, arith, length-append}
use Rattle.std.specs.Prelude.{bit_xor}
use Rattle.std.specs.List.{flat_map, range_with_len}
use Rattle.base64.specs.Rfc4648.{encode, encode_symbols}
use Rattle.base64.specs.Alphabets.{standard}
use Rattle.base64.specs.Alphabet.{alphabet_symbols, alphabet_padding}
use Rattle.yr_workload.specs.Workload.{word, in_turn, wide_capital, key, piece_of, piece, workload_of}
use Rattle.yr_workload.proofs.DrawLemmas.{flat_map_next}

-- what a piece and its last byte take, and the sum of the pieces before it but for three, by their turns
abbrev sizes : ℕ → ℕ
sizes = in_turn 9 17 9 13

abbrev offsets : ℕ → ℕ
offsets = in_turn 3 0 5 2

turn-length : (b c d : Bool) (x y z w : List ℕ) → length (cond b x (cond c y (cond d z w))) ≡ cond b (length x) (cond c (length y) (cond d (length z) (length w)))
turn-length true c d x y z w = refl
turn-length false true d x y z w = refl
turn-length false false true x y z w = refl
turn-length false false false x y z w = refl

turn-more : (b c d : Bool) → cond b 8 (cond c 16 (cond d 8 12)) + 1 ≡ cond b 9 (cond c 17 (cond d 9 13))
turn-more true c d = refl
turn-more false true d = refl
turn-more false false true = refl
turn-more false false false = refl

encoded-length : (t : List ℕ) (pad : ℕ) (a b c d e f g h : ℕ) → length (encode t pad true (a ∷ b ∷ c ∷ d ∷ e ∷ f ∷ g ∷ h ∷ [])) ≡ 12
unfolding encode_symbols
encoded-length t pad a b c d e f g h = refl

module _ (number p : ℕ) where
  abbrev w : List ℕ
  w = word number (p % 16)

  piece-length : length (piece number p) ≡ sizes p
  piece-length =
      length-append (piece_of number p w) (0 ∷ [])
      ∙ ap (λ n. n + 1)
      (turn-length (eqb (p % 4) 0) (eqb (p % 4) 1) (eqb (p % 4) 2) w (flat_map wide_capital w) (map (λ b. bit_xor b (key number p)) w)
      (encode (alphabet_symbols standard) (alphabet_padding standard) true w)
      ∙ ap (λ n. cond (eqb (p % 4) 0) 8 (cond (eqb (p % 4) 1) 16 (cond (eqb (p % 4) 2) 8 n))) (encoded-length (alphabet_symbols standard) (alphabet_padding standard) _ _ _ _ _ _ _ _))
      ∙ turn-more (eqb (p % 4) 0) (eqb (p % 4) 1) (eqb (p % 4) 2)

-- twelve bytes a piece, but for the turn
step : (r s p : ℕ) → r < 4 → s + 3 ≡ 12 * p + cond (eqb r 0) 3 (cond (eqb r 1) 0 (cond (eqb r 2) 5 2))
    → (q : ℕ) → q ≡ (r + 1) % 4 → s + cond (eqb r 0) 9 (cond (eqb r 1) 17 (cond (eqb r 2) 9 13)) + 3 ≡ 12 * (p + 1) + cond (eqb q 0) 3 (cond (eqb q 1) 0 (cond (eqb q 2) 5 2))
step zero s p small h q e = rw e (omega (arith, h))
step (suc zero) s p small h q e = rw e (omega (arith, h))
step (suc (suc zero)) s p small h q e = rw e (omega (arith, h))
step (suc (suc (suc zero))) s p small h q e = rw e (omega (arith, h))
step (suc (suc (suc (suc r)))) s p small h q e = absurd (omega (arith, small))

pieces : (number n : ℕ) → length (flat_map (piece number) (range_with_len 0 n)) + 3 ≡ 12 * n + offsets n
pieces number zero = refl
pieces number (suc n) =
    let more : suc n ≡ n + 1 = omega arith in
    let turn : (n + 1) % 4 ≡ (n % 4 + 1) % 4 = omega arith in
    let small : n % 4 < 4 = omega arith in
    subst (λ k. length (flat_map (piece number) (range_with_len 0 k)) + 3 ≡ 12 * k + offsets k) (sym more) (
    ap (λ l. length l + 3) (flat_map_next (piece number) n)
    ∙ ap (λ k. k + 3) (length-append (flat_map (piece number) (range_with_len 0 n)) (piece number n)
    ∙ ap (λ k. length (flat_map (piece number) (range_with_len 0 n)) + k) (piece-length number n))
    ∙ step (n % 4) (length (flat_map (piece number) (range_with_len 0 n))) n small (pieces number n) ((n + 1) % 4) turn)

offset-small : (b c d : Bool) → cond b 3 (cond c 0 (cond d 5 2)) ≤ 5
offset-small true c d = omega arith
offset-small false true d = omega arith
offset-small false false true = omega arith
offset-small false false false = omega arith

pub file-fits : (number size : ℕ) → size ≤ 16777216 → length (workload_of number size).file ≤ 268435456
file-fits number size small =
    omega (arith, small, pieces number size, offset-small (eqb (size % 4) 0) (eqb (size % 4) 1) (eqb (size % 4) 2))
