-- Words that are cut at a byte, and words that are numbers.
use Rattle.std.proofs.Common.{◌≡◌, ◌≢◌, ℕ, suc, ◌<◌, ◌≤◌, ◌==◌, ◌^◌, ◌&&◌, nat_le, Bool, true, false, [], ◌∷◌, ◌++◌, length, get_or, Option, Some, None, refl, sym, ap, subst, ◌∙◌, true≢false, arith}
use Rattle.std.specs.Prelude.{MatchOption, ◌-◌, pos}
use Rattle.std.specs.Borrow.{Bor}
use Rattle.std.specs.List.{list_all}
use Rattle.std.specs.Option.{option_map}
use Rattle.std.specs.Str.Parse.{AllDigits, IsNumeral, digits_value, without_leading_plus}
use Rattle.std.proofs.lemmas.Bool.{leb-true}
use Rattle.std.proofs.lemmas.Bool.Decides.{Decides-eqb}
use Rattle.std.proofs.lemmas.Str.{digit_value_digit}
use Rattle.yr_base.specs.Bytes.{is_digit}
use Rattle.yr_words.specs.Values.{Word, Halves, with_front, cut_at, is_number, number_up_to, signed_number}

same-byte : (b : ℕ) → (b == b) ≡ true
same-byte b = (Decides-eqb b b).1 refl

other-byte : (a b : ℕ) → a ≢ b → (a == b) ≡ false
other-byte a b h = by (a == b) refl
  where
    by : (t : Bool) → (a == b) ≡ t → (a == b) ≡ false
    by true e = absurd (h ((Decides-eqb a b).0 e))
    by false e = e

Lacks : ℕ → Word → Type 0
Lacks mark w = (i : ℕ) → i < length w → get_or w i 0 ≢ mark

cut-there : (mark : ℕ) (front back : Word) → ((i : ℕ) → i < length front → get_or front i 0 ≢ mark) → cut_at mark (front ++ mark ∷ back) ≡ Some (record { front = front; back = back })
cut-there mark [] back h = rw (same-byte mark) refl
cut-there mark (b ∷ bs) back h =
    rw (other-byte b mark (h 0 (omega arith)))
    (ap (option_map (with_front b)) (cut-there mark bs back (λ i l. h (suc i) (omega (arith, l)))))

cut-nowhere : (mark : ℕ) (w : Word) → ((i : ℕ) → i < length w → get_or w i 0 ≢ mark) → cut_at mark w ≡ None
cut-nowhere mark [] h = refl
cut-nowhere mark (b ∷ bs) h =
    rw (other-byte b mark (h 0 (omega arith))) (ap (option_map (with_front b)) (cut-nowhere mark bs (λ i l. h (suc i) (omega (arith, l)))))

-- what a cut of a text at a byte gives
pub cut-from : (mark : ℕ) (w : Word) (r : Option (Bor Word × Bor Word))
    → MatchOption r ((i : ℕ) → i < length w → get_or w i 0 ≢ mark) (λ x. (w ≡ x.0.now ++ (mark ∷ x.1.now)) × ((i : ℕ) → i < length x.0.now → get_or x.0.now i 0 ≢ mark))
    → option_map {T = Bor Word × Bor Word} {U = Halves} (λ p. record { front = p.0.now; back = p.1.now }) r ≡ cut_at mark w
cut-from mark w None h = sym (cut-nowhere mark w h)
cut-from mark w (Some x) h = sym (ap (cut_at mark) h.0 ∙ cut-there mark x.0.now x.1.now h.1)

-- ---- numbers

and_parts : (a b : Bool) → (a && b) ≡ true → (a ≡ true) × (b ≡ true)
and_parts true b h = (refl, h)
and_parts false b h = absurd (true≢false (sym h))

digit-range : (b : ℕ) → is_digit b ≡ true → (48 ≤ b) × (b ≤ 57)
digit-range b h = let p = and_parts (nat_le 48 b) (nat_le b 57) h in (leb-true 48 b p.0, leb-true b 57 p.1)

all-digits : (w : Word) → list_all is_digit w ≡ true → AllDigits 10 w
all-digits [] h = tt
all-digits (b ∷ bs) h =
    let p = and_parts (is_digit b) (list_all is_digit bs) h in
    let e = digit_value_digit b (digit-range b p.0) in
    (omega (arith, e, (digit-range b p.0).1), all-digits bs p.1)

no-plus : (w : Word) → is_number w ≡ true → without_leading_plus w ≡ w
no-plus [] h = refl
no-plus (b ∷ bs) h =
    let p = and_parts (is_digit b) (list_all is_digit bs) h in
    rw (other-byte b 43 (λ e. omega (arith, e, (digit-range b p.0).0))) refl

numeral : (w : Word) → is_number w ≡ true → IsNumeral 10 w
numeral [] h = absurd (true≢false (sym h))
numeral (b ∷ bs) h = (omega arith, all-digits (b ∷ bs) h)

-- a word of digits that does not parse is above every bound of 64 bits
pub above-all : (most : ℕ) (w : Word) → most < 2 ^ 64 → is_number w ≡ true
    → (IsNumeral 10 (without_leading_plus w) × (digits_value 10 (without_leading_plus w) < 2 ^ 64) → ⊥) → None ≡ number_up_to most w
above-all most w b h n = by (nat_le (digits_value 10 w) most) refl
  where
    by : (t : Bool) → nat_le (digits_value 10 w) most ≡ t → None ≡ number_up_to most w
    by true e =
        let low : digits_value 10 w < 2 ^ 64 = omega (arith, b, leb-true (digits_value 10 w) most e) in
        absurd (n (subst (λ (u : Word). IsNumeral 10 u × (digits_value 10 u < 2 ^ 64)) (sym (no-plus w h)) (numeral w h, low)))
    by false e = rw (h, e) refl

-- a word that does not begin with `-`
pub signed-plain : (w : Word) → ((rest : Word) → w ≢ 45 ∷ rest) → option_map pos (number_up_to (2 ^ 63 - 1) w) ≡ signed_number w
signed-plain [] h = refl
signed-plain (b ∷ bs) h = by (b == 45) refl
  where
    by : (t : Bool) → (b == 45) ≡ t → option_map pos (number_up_to (2 ^ 63 - 1) (b ∷ bs)) ≡ signed_number (b ∷ bs)
    by true e = absurd (h bs (ap (λ n. n ∷ bs) ((Decides-eqb b 45).0 e)))
    by false e = rw e refl
