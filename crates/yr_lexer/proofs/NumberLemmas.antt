-- Numbers, which the code caps at 2 ^ 63.
use Rattle.std.proofs.Common.{◌≡◌, ◌≢◌, ℕ, ◌+◌, ◌*◌, ◌<◌, ◌≤◌, ◌^◌, Bool, true, false, [], ◌∷◌, ◌++◌, length, Option, Some, None, if◌then◌else◌, refl, sym, ap, subst, ◌∙◌, ◌⊎◌, inl, inr, arith, length-append, append-nil}
use Rattle.std.specs.Prelude.{min, nat_lt, ◌==◌, All}
use Rattle.std.proofs.Math.Nat.{mul-le-mul_left, mul-le-mul_right}
use Rattle.std.proofs.lemmas.Bool.{ltb-true, lt-ltb, eqb-true, eqb-false, ne_eqb, cases_lt}
use Rattle.std.proofs.lemmas.List.Elements.{All-nil, All-cons, All-head, All-tail}
use Rattle.yr_lexer.specs.Gaps.{Text}
use Rattle.yr_lexer.specs.Texts.{digit_of}
use Rattle.yr_lexer.specs.Numbers.{number_after, number_of, AreDigits, IsNumber, decimal, kilobytes, megabytes, hexadecimal, octal}
use Rattle.yr_lexer.specs.Reading.{past_digits, base_after, base_of, is_one, scale_of, scaled, if_nothing, value_of, value_from, number_in}
use Rattle.yr_lexer.proofs.Basics.{by_test}

abbrev IsDigit : ℕ → ℕ → Type 0
IsDigit base d = digit_of d < base

-- ---- digits without the cap

unfoldable pub all_digits : ℕ → ℕ → Text → ℕ × Text
all_digits base n [] = (n, [])
all_digits base n (b ∷ t) = if nat_lt (digit_of b) base then all_digits base (base * n + digit_of b) t else (n, b ∷ t)

abbrev pub capped : ℕ × Text → ℕ × Text
capped x = (min x.0 (2 ^ 63), x.1)

cap-below : (base n d : ℕ) → n < 2 ^ 63 → min (base * min n (2 ^ 63) + d) (2 ^ 63) ≡ min (base * n + d) (2 ^ 63)
cap-below base n d h = let e : min n (2 ^ 63) ≡ n = omega arith in ap (λ (x : ℕ). min (base * x + d) (2 ^ 63)) e

cap-above : (base n d : ℕ) → 1 ≤ base → 2 ^ 63 ≤ n → min (base * min n (2 ^ 63) + d) (2 ^ 63) ≡ min (base * n + d) (2 ^ 63)
cap-above base n d p h =
    let e : min n (2 ^ 63) ≡ 2 ^ 63 = omega arith in
    let f : 1 * 2 ^ 63 ≤ base * 2 ^ 63 = mul-le-mul_right (2 ^ 63) p in
    let g : base * 2 ^ 63 ≤ base * n = mul-le-mul_left base h in
    let k : min (base * 2 ^ 63 + d) (2 ^ 63) ≡ 2 ^ 63 = omega arith in
    let l : min (base * n + d) (2 ^ 63) ≡ 2 ^ 63 = omega arith in
    ap (λ (x : ℕ). min (base * x + d) (2 ^ 63)) e ∙ k ∙ sym l

cap-step : (base n d : ℕ) → 1 ≤ base → min (base * min n (2 ^ 63) + d) (2 ^ 63) ≡ min (base * n + d) (2 ^ 63)
cap-step base n d p = go (cases_lt n (2 ^ 63))
  where
    go : ((n < 2 ^ 63) ⊎ (2 ^ 63 ≤ n)) → min (base * min n (2 ^ 63) + d) (2 ^ 63) ≡ min (base * n + d) (2 ^ 63)
    go (inl h) = cap-below base n d h
    go (inr h) = cap-above base n d p h

digits-step : (base b : ℕ) (t : Text) (n : ℕ) → 1 ≤ base → (x : Bool) → nat_lt (digit_of b) base ≡ x
    → past_digits base (min (base * n + digit_of b) (2 ^ 63)) t ≡ capped (all_digits base (base * n + digit_of b) t)
    → past_digits base (min n (2 ^ 63)) (b ∷ t) ≡ capped (all_digits base n (b ∷ t))
unfolding past_digits all_digits
digits-step base b t n p true e ih = rw e (ap (λ (i : ℕ). past_digits base i t) (cap-step base n (digit_of b) p) ∙ ih)
digits-step base b t n p false e ih = rw e refl

pub digits-capped : (base : ℕ) (t : Text) (n : ℕ) → 1 ≤ base → past_digits base (min n (2 ^ 63)) t ≡ capped (all_digits base n t)
unfolding past_digits all_digits
digits-capped base [] n p = refl
digits-capped base (b ∷ t) n p = digits-step base b t n p (nat_lt (digit_of b) base) refl (digits-capped base t (base * n + digit_of b) p)

-- ---- digits and what follows them

abbrev HasDigits : ℕ → ℕ → Text → ℕ × Text → Type 0
HasDigits base n t x = (ds : Text) × (t ≡ ds ++ x.1) × All (IsDigit base) ds × (x.0 ≡ number_after base n ds)

pub digits-split : (base : ℕ) (t : Text) (n : ℕ) → HasDigits base n t (all_digits base n t)
unfolding all_digits
digits-split base [] n = ([], refl, All-nil (IsDigit base), refl)
digits-split base (b ∷ t) n = by_test (nat_lt (digit_of b) base) (all_digits base (base * n + digit_of b) t) (n, b ∷ t) (HasDigits base n (b ∷ t))
    (λ e. let r = digits-split base t (base * n + digit_of b) in
    (b ∷ r.0, ap (λ (x : Text). b ∷ x) r.1, All-cons (IsDigit base) b r.0 (ltb-true (digit_of b) base e) r.2, r.3))
    (λ e. ([], refl, All-nil (IsDigit base), refl))

-- no digit stands in front
abbrev pub NoDigit : ℕ → Text → Type 0
NoDigit base [] = Unit {0}
NoDigit base (b ∷ t) = nat_lt (digit_of b) base ≡ false

digits-end : (base : ℕ) (t : Text) (n : ℕ) → NoDigit base t → ◌≡◌ {A = ℕ × Text} (all_digits base n t) (n, t)
unfolding all_digits
digits-end base [] n h = refl
digits-end base (b ∷ t) n h = rw h refl

pub digits-read : (base : ℕ) (ds rest : Text) (n : ℕ) → All (IsDigit base) ds → NoDigit base rest
    → ◌≡◌ {A = ℕ × Text} (all_digits base n (ds ++ rest)) (number_after base n ds, rest)
unfolding all_digits
digits-read base [] rest n a h = digits-end base rest n h
digits-read base (d ∷ ds) rest n a h =
    rw (lt-ltb (digit_of d) base (All-head (IsDigit base) d ds a)) (digits-read base ds rest (base * n + digit_of d) (All-tail (IsDigit base) d ds a) h)

-- ---- the value without the cap

abbrev exact_scaled : ℕ → Option ℕ → Option ℕ
exact_scaled n None = None
exact_scaled n (Some scale) = Some (n * scale)

abbrev exact_of : ℕ → ℕ → Text → Option ℕ
exact_of base n behind = if base == 10 then exact_scaled n (scale_of behind) else if_nothing n behind

abbrev exact_from : ℕ → Text → ℕ × Text → Option ℕ
exact_from base digits x = if length x.1 == length digits then None else exact_of base x.0 x.1

abbrev exact_in : Text → Option ℕ
exact_in run = exact_from (base_of run).0 (base_of run).1 (all_digits (base_of run).0 0 (base_of run).1)

abbrev cap : Option ℕ → Option ℕ
cap None = None
cap (Some v) = Some (min v (2 ^ 63))

-- what may stand behind decimal digits
pub data Scales : Text → ℕ → Type 0 where
  ones : Scales [] 1
  thousands : Scales (75 ∷ 66 ∷ []) 1024
  millions : Scales (77 ∷ 66 ∷ []) 1048576

abbrev IsScale : Text → Option ℕ → Type 0
IsScale t None = Unit {0}
IsScale t (Some k) = Scales t k

one-is : (b : ℕ) (t : Text) → is_one b t ≡ true → t ≡ b ∷ []
one-is b [] e = absurd cc
one-is b (c ∷ []) e = ap (λ (x : ℕ). x ∷ []) (sym (eqb-true b c e))
one-is b (c ∷ d ∷ t) e = absurd cc

scale-found : (t : Text) → IsScale t (scale_of t)
scale-found [] = ones
scale-found (b ∷ t) =
    by_test (is_one 66 t) (if b == 75 then Some 1024 else if b == 77 then Some 1048576 else None) None (IsScale (b ∷ t))
    (λ o. by_test (b == 75) (Some 1024) (if b == 77 then Some 1048576 else None) (IsScale (b ∷ t))
    (λ e. subst (λ (x : Text). Scales x 1024) (ap (λ (x : ℕ). x ∷ 66 ∷ []) (sym (eqb-true b 75 e)) ∙ ap (λ (x : Text). b ∷ x) (sym (one-is 66 t o))) thousands)
    (λ _. by_test (b == 77) (Some 1048576) None (IsScale (b ∷ t))
    (λ e. subst (λ (x : Text). Scales x 1048576) (ap (λ (x : ℕ). x ∷ 66 ∷ []) (sym (eqb-true b 77 e)) ∙ ap (λ (x : Text). b ∷ x) (sym (one-is 66 t o))) millions)
    (λ _. tt)))
    (λ _. tt)

scale-some : (t : Text) (k : ℕ) → scale_of t ≡ Some k → Scales t k
scale-some t k e = subst (IsScale t) e (scale-found t)

scale-positive : {t : Text} {k : ℕ} → Scales t k → 1 ≤ k
scale-positive ones = omega arith
scale-positive thousands = omega arith
scale-positive millions = omega arith

cap-scale : (n k : ℕ) → 1 ≤ k → min (min n (2 ^ 63) * k) (2 ^ 63) ≡ min (n * k) (2 ^ 63)
cap-scale n k p = go (cases_lt n (2 ^ 63))
  where
    go : ((n < 2 ^ 63) ⊎ (2 ^ 63 ≤ n)) → min (min n (2 ^ 63) * k) (2 ^ 63) ≡ min (n * k) (2 ^ 63)
    go (inl h) = let e : min n (2 ^ 63) ≡ n = omega arith in ap (λ (x : ℕ). min (x * k) (2 ^ 63)) e
    go (inr h) =
        let e : min n (2 ^ 63) ≡ 2 ^ 63 = omega arith in
        let f : 2 ^ 63 * 1 ≤ 2 ^ 63 * k = mul-le-mul_left (2 ^ 63) p in
        let g : 2 ^ 63 * k ≤ n * k = mul-le-mul_right k h in
        let a : min (2 ^ 63 * k) (2 ^ 63) ≡ 2 ^ 63 = omega arith in
        let b : min (n * k) (2 ^ 63) ≡ 2 ^ 63 = omega arith in
        ap (λ (x : ℕ). min (x * k) (2 ^ 63)) e ∙ a ∙ sym b

scaled-capped : (n : ℕ) (t : Text) (o : Option ℕ) → scale_of t ≡ o → scaled (min n (2 ^ 63)) o ≡ cap (exact_scaled n o)
scaled-capped n t None e = refl
scaled-capped n t (Some k) e = ap (λ (x : ℕ). Some x) (cap-scale n k (scale-positive (scale-some t k e)))

nothing-capped : (n : ℕ) (t : Text) → if_nothing (min n (2 ^ 63)) t ≡ cap (if_nothing n t)
nothing-capped n [] = refl
nothing-capped n (b ∷ t) = refl

value-capped : (base n : ℕ) (t : Text) (y : Bool) → (base == 10) ≡ y → value_of base (min n (2 ^ 63)) t ≡ cap (exact_of base n t)
value-capped base n t true e = rw e (scaled-capped n t (scale_of t) refl)
value-capped base n t false e = rw e (nothing-capped n t)

from-capped : (base : ℕ) (digits : Text) (x : ℕ × Text) (y : Bool) → (length x.1 == length digits) ≡ y → value_from base digits (capped x) ≡ cap (exact_from base digits x)
from-capped base digits x true e = rw e refl
from-capped base digits x false e = rw e (value-capped base x.0 x.1 (base == 10) refl)

base-positive : (run : Text) → 1 ≤ (base_of run).0
base-positive [] = omega arith
base-positive (b ∷ t) = by_test (b == 48) (base_after (b ∷ t) t) (10, b ∷ t) (λ (x : ℕ × Text). 1 ≤ x.0) (λ _. after t) (λ _. omega arith)
  where
    after : (t : Text) → 1 ≤ (base_after (b ∷ t) t).0
    after [] = omega arith
    after (c ∷ u) = by_test (c == 120) (16, u) (if c == 111 then (8, u) else (10, b ∷ c ∷ u)) (λ (x : ℕ × Text). 1 ≤ x.0) (λ _. omega arith)
        (λ _. by_test (c == 111) (8, u) (10, b ∷ c ∷ u) (λ (x : ℕ × Text). 1 ≤ x.0) (λ _. omega arith) (λ _. omega arith))

pub number-capped : (run : Text) → number_in run ≡ cap (exact_in run)
number-capped run =
    let base = (base_of run).0 in
    let digits = (base_of run).1 in
    ap (λ (x : ℕ × Text). value_from base digits x) (digits-capped base digits 0 (base-positive run))
    ∙ from-capped base digits (all_digits base 0 digits) (length (all_digits base 0 digits).1 == length digits) refl

-- ---- what is read is a number

from-parts : (base : ℕ) (digits : Text) (x : ℕ × Text) (v : ℕ) → exact_from base digits x ≡ Some v
    → (length x.1 ≢ length digits) × (exact_of base x.0 x.1 ≡ Some v)
from-parts base digits x v = by_test (length x.1 == length digits) None (exact_of base x.0 x.1) (λ o. o ≡ Some v → (length x.1 ≢ length digits) × (exact_of base x.0 x.1 ≡ Some v))
    (λ _ e. absurd cc) (λ n e. (eqb-false (length x.1) (length digits) n, e))

not_empty : (ds t rest : Text) → t ≡ ds ++ rest → length rest ≢ length t → ds ≢ []
not_empty [] t rest e n same = n (ap (λ (x : Text). length x) (sym e))
not_empty (b ∷ ds) t rest e n same = absurd cc

scaled-parts : (n v : ℕ) (o : Option ℕ) → exact_scaled n o ≡ Some v → (k : ℕ) × (o ≡ Some k) × (v ≡ n * k)
scaled-parts n v None e = absurd cc
scaled-parts n v (Some k) e = (k, refl, cc)

nothing-parts : (n v : ℕ) (t : Text) → if_nothing n t ≡ Some v → (t ≡ []) × (v ≡ n)
nothing-parts n v [] e = (refl, cc)
nothing-parts n v (b ∷ t) e = absurd cc

number-is : (run other : Text) (v w : ℕ) → run ≡ other → v ≡ w → IsNumber other w → IsNumber run v
number-is run other v w e f n = subst (λ (x : ℕ). IsNumber run x) (sym f) (subst (λ (x : Text). IsNumber x w) (sym e) n)

scales-sound : {behind : Text} {k : ℕ} → Scales behind k → (ds run : Text) (v : ℕ) → run ≡ ds ++ behind → AreDigits 10 ds → v ≡ number_of 10 ds * k → IsNumber run v
scales-sound ones ds run v e a f = let g : v ≡ number_of 10 ds = omega arith in number-is run ds v (number_of 10 ds) (e ∙ append-nil ds) g (decimal a)
scales-sound thousands ds run v e a f = let g : v ≡ 1024 * number_of 10 ds = omega arith in number-is run _ v _ e g (kilobytes a)
scales-sound millions ds run v e a f = let g : v ≡ 1048576 * number_of 10 ds = omega arith in number-is run _ v _ e g (megabytes a)

decimal-sound : (run : Text) (v : ℕ) → exact_from 10 run (all_digits 10 0 run) ≡ Some v → IsNumber run v
decimal-sound run v e =
    let x = all_digits 10 0 run in
    let p = from-parts 10 run x v e in
    let s = digits-split 10 run 0 in
    let k = scaled-parts x.0 v (scale_of x.1) p.1 in
    scales-sound (scale-some x.1 k.0 k.1) s.0 run v s.1 (record { some = not_empty s.0 run x.1 s.1 p.0; digits = s.2 }) (k.2 ∙ ap (λ (y : ℕ). y * k.0) s.3)

based-sound : (base : ℕ) (digits : Text) (v : ℕ) → (base == 10) ≡ false → exact_from base digits (all_digits base 0 digits) ≡ Some v
    → AreDigits base digits × (v ≡ number_of base digits)
based-sound base digits v other e =
    let x = all_digits base 0 digits in
    let p = from-parts base digits x v e in
    let s = digits-split base digits 0 in
    let q : if_nothing x.0 x.1 ≡ Some v = rw other at p.1 in
    let n = nothing-parts x.0 v x.1 q in
    let same : digits ≡ s.0 = s.1 ∙ ap (λ (y : Text). s.0 ++ y) n.0 ∙ append-nil s.0 in (
      subst (AreDigits base) (sym same) (record { some = not_empty s.0 digits x.1 s.1 p.0; digits = s.2 }),
      n.1 ∙ s.3 ∙ ap (number_of base) (sym same),
    )

-- the three ways in which a number is written
data Based : Text → ℕ → Text → Type 0 where
  plain : {run : Text} → Based run 10 run
  hexa : {ds : Text} → Based (48 ∷ 120 ∷ ds) 16 ds
  octa : {ds : Text} → Based (48 ∷ 111 ∷ ds) 8 ds

abbrev IsBase : Text → ℕ × Text → Type 0
IsBase run x = Based run x.0 x.1

after-found : (t : Text) → IsBase (48 ∷ t) (base_after (48 ∷ t) t)
after-found [] = plain
after-found (c ∷ u) = by_test (c == 120) (16, u) (if c == 111 then (8, u) else (10, 48 ∷ c ∷ u)) (IsBase (48 ∷ c ∷ u))
    (λ e. subst (λ (x : ℕ). Based (48 ∷ x ∷ u) 16 u) (sym (eqb-true c 120 e)) hexa)
    (λ _. by_test (c == 111) (8, u) (10, 48 ∷ c ∷ u) (IsBase (48 ∷ c ∷ u))
    (λ e. subst (λ (x : ℕ). Based (48 ∷ x ∷ u) 8 u) (sym (eqb-true c 111 e)) octa) (λ _. plain))

based-found : (run : Text) → IsBase run (base_of run)
based-found [] = plain
based-found (b ∷ t) = by_test (b == 48) (base_after (b ∷ t) t) (10, b ∷ t) (IsBase (b ∷ t))
    (λ e. subst (λ (x : ℕ). IsBase (x ∷ t) (base_after (x ∷ t) t)) (sym (eqb-true b 48 e)) (after-found t)) (λ _. plain)

sound-by : {run digits : Text} {base : ℕ} → Based run base digits → (v : ℕ) → exact_from base digits (all_digits base 0 digits) ≡ Some v → IsNumber run v
sound-by (plain {run = run}) v e = decimal-sound run v e
sound-by (hexa {ds = ds}) v e = let p = based-sound 16 ds v refl e in number-is _ _ v _ refl p.1 (hexadecimal p.0)
sound-by (octa {ds = ds}) v e = let p = based-sound 8 ds v refl e in number-is _ _ v _ refl p.1 (octal p.0)

pub exact-sound : (run : Text) (v : ℕ) → exact_in run ≡ Some v → IsNumber run v
exact-sound run v e = sound-by (based-found run) v e

-- ---- a number is read

digit-not : (c x : ℕ) → digit_of c < 10 → (digit_of x < 10 → ⊥) → (c == x) ≡ false
digit-not c x h n = ne_eqb c x (λ e. n (subst (λ (y : ℕ). digit_of y < 10) e h))

no_x : digit_of 120 < 10 → ⊥
no_x h = absurd (omega arith)

no_o : digit_of 111 < 10 → ⊥
no_o h = absurd (omega arith)

abbrev IsPlain : Text → Type 0
IsPlain [] = Unit {0}
IsPlain (c ∷ u) = ((c == 120) ≡ false) × ((c == 111) ≡ false)

after-plain : (whole t : Text) → IsPlain t → ◌≡◌ {A = ℕ × Text} (base_after whole t) (10, whole)
after-plain whole [] h = refl
after-plain whole (c ∷ u) h = rw (h.0, h.1) refl

plain-base : (b : ℕ) (t : Text) → IsPlain t → ◌≡◌ {A = ℕ × Text} (base_of (b ∷ t)) (10, b ∷ t)
plain-base b t h = by_test (b == 48) (base_after (b ∷ t) t) (10, b ∷ t) (λ (x : ℕ × Text). x ≡ (10, b ∷ t)) (λ _. after-plain (b ∷ t) t h) (λ _. refl)

decimal-base : (ds behind : Text) → AreDigits 10 ds → IsPlain behind → ◌≡◌ {A = ℕ × Text} (base_of (ds ++ behind)) (10, ds ++ behind)
decimal-base [] behind a h = absurd (a.some refl)
decimal-base (b ∷ []) behind a h = plain-base b behind h
decimal-base (b ∷ c ∷ ds) behind a h =
    let d = All-head (IsDigit 10) c ds (All-tail (IsDigit 10) b (c ∷ ds) a.digits) in
    plain-base b (c ∷ (ds ++ behind)) (digit-not c 120 d no_x, digit-not c 111 d no_o)

longer : (ds behind : Text) → ds ≢ [] → (length behind == length (ds ++ behind)) ≡ false
longer [] behind n = absurd (n refl)
longer (b ∷ ds) behind n = ne_eqb (length behind) (length (b ∷ (ds ++ behind))) (λ e. let l = length-append ds behind in absurd (omega arith))

split-read : (base : ℕ) (ds behind : Text) → AreDigits base ds → NoDigit base behind
    → exact_from base (ds ++ behind) (all_digits base 0 (ds ++ behind)) ≡ exact_of base (number_of base ds) behind
split-read base ds behind a h =
    ap (λ (x : ℕ × Text). exact_from base (ds ++ behind) x) (digits-read base ds behind 0 a.digits h)
    ∙ rw (longer ds behind a.some) refl

exact-decimal : (ds behind : Text) → AreDigits 10 ds → NoDigit 10 behind → IsPlain behind → exact_in (ds ++ behind) ≡ exact_of 10 (number_of 10 ds) behind
exact-decimal ds behind a h p =
    ap (λ (x : ℕ × Text). exact_from x.0 x.1 (all_digits x.0 0 x.1)) (decimal-base ds behind a p) ∙ split-read 10 ds behind a h

exact-based : (base : ℕ) (ds : Text) → AreDigits base ds → (base == 10) ≡ false → exact_from base ds (all_digits base 0 ds) ≡ Some (number_of base ds)
exact-based base ds a other =
    let e = append-nil ds in
    subst (λ (x : Text). exact_from base x (all_digits base 0 x) ≡ Some (number_of base ds)) e (split-read base ds [] a tt ∙ rw other refl)

pub exact-read : {run : Text} {v : ℕ} → IsNumber run v → exact_in run ≡ Some v
exact-read (decimal {ds = ds} a) =
    let one : number_of 10 ds * 1 ≡ number_of 10 ds = omega arith in
    subst (λ (x : Text). exact_in x ≡ Some (number_of 10 ds)) (append-nil ds) (exact-decimal ds [] a tt tt ∙ ap (λ (x : ℕ). Some x) one)
exact-read (kilobytes {ds = ds} a) =
    let same : number_of 10 ds * 1024 ≡ 1024 * number_of 10 ds = omega arith in
    exact-decimal ds (75 ∷ 66 ∷ []) a refl (refl, refl) ∙ ap (λ (x : ℕ). Some x) same
exact-read (megabytes {ds = ds} a) =
    let same : number_of 10 ds * 1048576 ≡ 1048576 * number_of 10 ds = omega arith in
    exact-decimal ds (77 ∷ 66 ∷ []) a refl (refl, refl) ∙ ap (λ (x : ℕ). Some x) same
exact-read (hexadecimal {ds = ds} a) = exact-based 16 ds a refl
exact-read (octal {ds = ds} a) = exact-based 8 ds a refl

-- ---- the words that the lexer uses

pub number-one : (run : Text) (v w : ℕ) → IsNumber run v → IsNumber run w → v ≡ w
number-one run v w m n = let e = exact-read m in let f = exact-read n in cc

cap-some : (o : Option ℕ) (n : ℕ) → cap o ≡ Some n → (v : ℕ) × (o ≡ Some v) × (n ≡ min v (2 ^ 63))
cap-some None n e = absurd cc
cap-some (Some v) n e = (v, refl, cc)

pub number-some : (run : Text) (n : ℕ) → number_in run ≡ Some n → (v : ℕ) × IsNumber run v × (n ≡ min v (2 ^ 63))
number-some run n e = let p = cap-some (exact_in run) n (sym (number-capped run) ∙ e) in (p.0, exact-sound run p.0 p.1, p.2)

pub number-none : (run : Text) → number_in run ≡ None → (v : ℕ) → ¬ IsNumber run v
number-none run e v n =
    let f = number-capped run in
    let g = ap cap (exact-read n) in
    cc
