-- The test of depth, token by token.
use Rattle.std.proofs.Common.{◌≡◌, ℕ, zero, suc, ◌-◌, ◌<◌, ◌≤◌, Bool, true, false, if◌then◌else◌, [], ◌∷◌, length, Option, Some, None, refl, sym, ap, ◌∙◌, arith}
use Rattle.std.specs.Prelude.{nat_le, ◌&&◌}
use Rattle.std.proofs.lemmas.Bool.{leb-true}
use Rattle.yr_parser.specs.Terminals.{Terminal, Terminals}
use Rattle.yr_parser.specs.Input.{first, tail}
use Rattle.yr_parser.specs.Depth.{is_brace, closed_after, opened_after, run_after, deep_from}

pub closed : (n : ℕ) → closed_after n ≡ n - 1
closed zero = refl
closed (suc n) = omega arith

-- the test of the terminals from a first one on
at-first : (k : Terminals) (t : Terminal) → first k ≡ Some t → k ≡ t ∷ tail k
at-first [] t e = cc
at-first (u ∷ k) t e = let same : u ≡ t = cc in ap (λ x. x ∷ k) same

abbrev fits : ℕ → ℕ → Bool
fits o r = nat_le o 64 && nat_le r 64

deep-at : (o r : ℕ) (k : Terminals) (t : Terminal) → first k ≡ Some t → deep_from o r k
    ≡ (if fits (opened_after o t) (run_after r t) then (if is_brace t then false else deep_from (opened_after o t) (run_after r t) (tail k)) else true)
unfolding deep_from
deep-at o r k t e = ap (deep_from o r) (at-first k t e)

pub deep-unfit : (o r : ℕ) (k : Terminals) (t : Terminal) → first k ≡ Some t → fits (opened_after o t) (run_after r t) ≡ false → deep_from o r k ≡ true
deep-unfit o r k t e f = deep-at o r k t e ∙ rw f refl

pub deep-brace : (o r : ℕ) (k : Terminals) (t : Terminal) → first k ≡ Some t → fits (opened_after o t) (run_after r t) ≡ true → is_brace t ≡ true → deep_from o r k ≡ false
deep-brace o r k t e f b = deep-at o r k t e ∙ rw (f, b) refl

pub deep-on : (o r : ℕ) (k : Terminals) (t : Terminal) → first k ≡ Some t → fits (opened_after o t) (run_after r t) ≡ true → is_brace t ≡ false
    → deep_from o r k ≡ deep_from (opened_after o t) (run_after r t) (tail k)
deep-on o r k t e f b = deep-at o r k t e ∙ rw (f, b) refl

pub deep-end : (o r : ℕ) (k : Terminals) → first k ≡ None → deep_from o r k ≡ false
unfolding deep_from
deep-end o r [] e = refl
deep-end o r (t ∷ k) e = absurd cc

pub shorter-tail : (k : Terminals) (t : Terminal) → first k ≡ Some t → length (tail k) < length k
shorter-tail k t e = let same = ap length (at-first k t e) in omega arith

both : (a b : Bool) → a && b ≡ true → (a ≡ true) × (b ≡ true)
both true true e = (refl, refl)
both true false e = absurd cc
both false b e = absurd cc

pub fits-within : (o r : ℕ) → fits o r ≡ true → (o ≤ 64) × (r ≤ 64)
fits-within o r e = let b = both (nat_le o 64) (nat_le r 64) e in (leb-true o 64 b.0, leb-true r 64 b.1)

-- ---- one turn of the test

fits-at : (o r o' r' : ℕ) (t : Terminal) (b c : Bool) → o' ≡ opened_after o t → r' ≡ run_after r t → b ≡ fits o' r' → b ≡ c → fits (opened_after o t) (run_after r t) ≡ c
fits-at o r o' r' t b c p q e h = ap (λ n. fits n (run_after r t)) (sym p) ∙ ap (λ n. fits o' n) (sym q) ∙ sym e ∙ h

pub turn-unfit : (o r o' r' : ℕ) (k : Terminals) (t : Terminal) (x b : Bool) → x ≡ deep_from o r k → ◌≡◌ {A = Option Terminal} (Some t) (first k) → o' ≡ opened_after o t → r' ≡ run_after r t
    → b ≡ fits o' r' → b ≡ false → true ≡ x
turn-unfit o r o' r' k t x b s e p q f h = sym (s ∙ deep-unfit o r k t (sym e) (fits-at o r o' r' t b false p q f h))

pub turn-brace : (o r o' r' : ℕ) (k : Terminals) (t : Terminal) (x b c : Bool) → x ≡ deep_from o r k → ◌≡◌ {A = Option Terminal} (Some t) (first k) → o' ≡ opened_after o t → r' ≡ run_after r t
    → b ≡ fits o' r' → b ≡ true → c ≡ is_brace t → c ≡ true → false ≡ x
turn-brace o r o' r' k t x b c s e p q f h g i = sym (s ∙ deep-brace o r k t (sym e) (fits-at o r o' r' t b true p q f h) (sym g ∙ i))

pub turn-on : (o r o' r' : ℕ) (k : Terminals) (t : Terminal) (x b c : Bool) → x ≡ deep_from o r k → ◌≡◌ {A = Option Terminal} (Some t) (first k) → o' ≡ opened_after o t → r' ≡ run_after r t
    → b ≡ fits o' r' → b ≡ true → c ≡ is_brace t → c ≡ false → x ≡ deep_from o' r' (tail k)
turn-on o r o' r' k t x b c s e p q f h g i =
    s ∙ deep-on o r k t (sym e) (fits-at o r o' r' t b true p q f h) (sym g ∙ i) ∙ ap (λ n. deep_from n (run_after r t) (tail k)) (sym p) ∙ ap (λ n. deep_from o' n (tail k)) (sym q)

pub turn-within : (o r : ℕ) (b : Bool) → b ≡ fits o r → b ≡ true → (o ≤ 64) × (r ≤ 64)
turn-within o r b e h = fits-within o r (sym e ∙ h)
