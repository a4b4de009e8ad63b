-- Numbers of words.
use Rattle.std.proofs.Common.{◌≡◌, ℕ, zero, suc, ◌+◌, ◌-◌, ◌*◌, ◌/◌, ◌%◌, ◌<◌, List, [], ◌∷◌, length, take, get_or, refl, ap, ◌∙◌, arith}
use Rattle.yr_automaton.specs.Keys.{AllBytes, key, key_after}
use Rattle.yr_automaton.proofs.SuffixLemmas.{onto}

pub parent_is : (q b : ℕ) → b < 256 → (q * 256 + b + 1 - 1) / 256 ≡ q
parent_is q b lt = omega arith

pub byte_is : (q b : ℕ) → b < 256 → (q * 256 + b + 1 - 1) % 256 ≡ b
byte_is q b lt = omega arith

pub whole_is : (k : ℕ) → 0 < k → (k - 1) / 256 * 256 + (k - 1) % 256 + 1 ≡ k
whole_is k pos = omega arith

pub same_digits : (q b p c : ℕ) → b < 256 → c < 256 → q * 256 + b + 1 ≡ p * 256 + c + 1 → (q ≡ p) × (b ≡ c)
same_digits q b p c lt less e = (omega arith, omega arith)

pub key_injective : (r s : List ℕ) → AllBytes r → AllBytes s → key r ≡ key s → r ≡ s
key_injective [] [] p q e = refl
key_injective [] (c ∷ s) p q e = absurd (omega (arith, e))
key_injective (b ∷ r) [] p q e = absurd (omega (arith, e))
key_injective (b ∷ r) (c ∷ s) p q e =
    let d = same_digits (key r) b (key s) c p.0 q.0 e in
    ap (λ x. x ∷ r) d.1 ∙ ap (λ x. c ∷ x) (key_injective r s p.1 q.1 d.0)

pub bytes_take : (i : ℕ) (r : List ℕ) → AllBytes r → AllBytes (take i r)
bytes_take zero r p = tt
bytes_take (suc i) [] p = tt
bytes_take (suc i) (b ∷ r) p = (p.0, bytes_take i r p.1)

pub key_onto : (r w : List ℕ) → key (onto r w) ≡ key_after (key r) w
key_onto r [] = refl
key_onto r (b ∷ w) = key_onto (b ∷ r) w

pub bytes_onto : (r w : List ℕ) → AllBytes r → AllBytes w → AllBytes (onto r w)
bytes_onto r [] p q = p
bytes_onto r (b ∷ w) p q = bytes_onto (b ∷ r) w (q.0, p) q.1

pub bytes_from : (w : List ℕ) → ((k : ℕ) → k < length w → get_or w k 0 < 256) → AllBytes w
bytes_from [] h = tt
bytes_from (b ∷ w) h = (h 0 (omega arith), bytes_from w (λ k lt. h (suc k) (omega (arith, lt))))
