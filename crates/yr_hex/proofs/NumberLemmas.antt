-- Numbers: what is read is what the grammar has, where each number goes through `cap` at each digit.
use Rattle.std.proofs.Common.{◌≡◌, ℕ, ◌+◌, ◌-◌, ◌*◌, ◌<◌, ◌≤◌, true, false, [], ◌∷◌, length, Some, refl, sym, ap, subst, ◌∙◌, arith}
use Rattle.std.specs.Prelude.{nat_le}
use Rattle.std.proofs.lemmas.Bool.{leb-true, and_parts, ne_eqb}
use Rattle.yr_base.specs.Bytes.{is_digit}
use Rattle.yr_hex.specs.Gaps.{Text}
use Rattle.yr_hex.specs.Grammar.{begins_digit, Digits, end, digit, Number, number}
use Rattle.yr_hex.specs.Reading.{cut, past_digits, read_number, sees}
use Rattle.yr_hex.proofs.Basics.{bool_cases}
use Rattle.yr_hex.proofs.StepLemmas.{if_true, if_false}
use Rattle.yr_hex.proofs.OutcomeLemmas.{guarded, some_is}

digits-found : (t : Text) (n : ℕ) → (v : ℕ) × (rest : Text) × Digits n t v rest
digits-found [] n = (n, [], end refl)
digits-found (b ∷ t) n = bool_cases ((v : ℕ) × (rest : Text) × Digits n (b ∷ t) v rest) (is_digit b)
    (λ h. let d = digits-found t (10 * n + (b - 48)) in (d.0, d.1, digit h d.2))
    (λ h. (n, b ∷ t, end h))

pub digit-small : (b : ℕ) → is_digit b ≡ true → (48 ≤ b) × (b ≤ 57)
digit-small b h =
    let p = and_parts (nat_le 48 b) (nat_le b 57) h in (leb-true 48 b p.0, leb-true b 57 p.1)

digit-value : (b : ℕ) → is_digit b ≡ true → b - 48 ≤ 9
digit-value b h = let s = digit-small b h in let q : b ≤ 57 = s.1 in omega arith

module _ (cap : ℕ → ℕ) (step : (n d : ℕ) → cap (10 * cap n + d) ≡ cap (10 * n + d)) (small : (n : ℕ) → n ≤ 9 → cap n ≡ n) where
  no_digits : (n : ℕ) (t : Text) → begins_digit t ≡ false → ◌≡◌ {A = ℕ × Text} (past_digits cap n t) (n, t)
  unfolding past_digits
  no_digits n [] h = refl
  no_digits n (b ∷ t) h = if_false (is_digit b) _ _ h

  digits-read : {n v : ℕ} {t rest : Text} → Digits n t v rest → ◌≡◌ {A = ℕ × Text} (past_digits cap (cap n) t) (cap v, rest)
  unfolding past_digits
  digits-read (end {n = n} {t = t} h) = no_digits (cap n) t h
  digits-read (digit {n = n} {b = b} {t = t} h d) =
      if_true (is_digit b) _ _ h ∙ ap (λ (m : ℕ). past_digits cap m t) (step n (b - 48)) ∙ digits-read d

  pub number-read : {v : ℕ} {t rest : Text} → Number t v rest → read_number cap t ≡ Some (cap v, rest)
  unfolding read_number
  number-read (number {b = b} {t = t} h d) =
      if_true (is_digit b) _ _ h ∙ ap (λ (m : ℕ). Some (past_digits cap m t)) (sym (small (b - 48) (digit-value b h))) ∙ ap (λ (x : ℕ × Text). Some x) (digits-read d)

  -- what a number in front is
  abbrev pub NumberFound : Text → ℕ × Text → Type 0
  NumberFound t x = (v : ℕ) × Number t v x.1 × (x.0 ≡ cap v)

  number-is : (t rest : Text) (v : ℕ) (x : ℕ × Text) → Number t v rest → read_number cap t ≡ Some x → NumberFound t x
  number-is t rest v x d e =
      let s : ◌≡◌ {A = ℕ × Text} (cap v, rest) x = some_is (cap v, rest) x (sym (number-read d) ∙ e) in
      (v, subst (λ (y : ℕ × Text). Number t v y.1) s d, sym (ap (λ (y : ℕ × Text). y.0) s))

  pub number-found : (t : Text) (x : ℕ × Text) → read_number cap t ≡ Some x → NumberFound t x
  unfolding read_number
  number-found [] x e = absurd cc
  number-found (b ∷ t) x e =
      let h = guarded (is_digit b) (Some (past_digits cap (b - 48) t)) x e in
      let d = digits-found t (b - 48) in
      number-is (b ∷ t) d.1 d.0 x (number h.0 d.2) e

pub number-begins : {v : ℕ} {t rest : Text} → Number t v rest → (sees 45 t ≡ false) × (sees 93 t ≡ false)
unfolding sees
number-begins (number {b = b} h d) =
    let s = digit-small b h in let p : 48 ≤ b = s.0 in let q : b ≤ 57 = s.1 in
    (ne_eqb b 45 (λ e. omega arith), ne_eqb b 93 (λ e. omega arith))

Digits-shorter : {n v : ℕ} {t rest : Text} → Digits n t v rest → length rest ≤ length t
Digits-shorter (end h) = omega arith
Digits-shorter (digit h d) = let s = Digits-shorter d in omega arith

pub Number-shorter : {v : ℕ} {t rest : Text} → Number t v rest → length rest < length t
Number-shorter (number h d) = let s = Digits-shorter d in omega arith

-- ---- what the code cuts numbers with

pub cut-step : (n d : ℕ) → cut (10 * cut n + d) ≡ cut (10 * n + d)
cut-step n d = omega arith

pub cut-small : (n : ℕ) → n ≤ 9 → cut n ≡ n
cut-small n h = omega arith
