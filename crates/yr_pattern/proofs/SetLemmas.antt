-- The bits of a set, and what a change of them does to its bytes.
use Rattle.std.proofs.Common.{◌≡◌, ℕ, zero, suc, ◌+◌, ◌-◌, ◌*◌, ◌/◌, ◌%◌, ◌^◌, ◌<◌, ◌≤◌, inl, inr, max, List, length, get_or, refl, sym, ap, ◌∙◌, arith, get_or-set_other, get_or-set_same, w8}
use Rattle.std.specs.Prelude.{Bool, true, false, not, ◌||◌, ◌&&◌, ◌==◌, nat_lt, if◌then◌else◌, bit_or, set, replicate, slice_index}
use Rattle.std.specs.Int.{bit_at, bit_not}
use Rattle.std.proofs.Math.Path.{fun_ext}
use Rattle.std.proofs.Math.Bool.{or-true, and-true}
use Rattle.std.proofs.lemmas.Bool.{cases_eq, cases_lt, eq-eqb, ne_eqb, lt-ltb, le-ltb}
use Rattle.std.proofs.lemmas.Bool.Decides.{nat_tests}
use Rattle.std.proofs.lemmas.List.{get_or_past}
use Rattle.std.proofs.lemmas.Nat.Bits.{bit_at_or, bit_at-lt, bit_at-zero, bit_at_not, bit_at_set_same, bit_at_set_other}
use Rattle.yr_pattern.specs.Set.{has_bit, only, either, all_but}

-- one of two bits is 1
max_is_one : (a b : ℕ) → a < 2 → b < 2 → (max a b == 1) ≡ (a == 1 || b == 1)
max_is_one zero zero p q = refl
max_is_one zero (suc zero) p q = refl
max_is_one (suc zero) zero p q = refl
max_is_one (suc zero) (suc zero) p q = refl
max_is_one (suc (suc a)) b p q = absurd (omega arith)
max_is_one a (suc (suc b)) p q = absurd (omega arith)

-- the other bit
less_is_one : (a : ℕ) → a < 2 → (1 - a == 1) ≡ not (a == 1)
less_is_one zero p = refl
less_is_one (suc zero) p = refl
less_is_one (suc (suc a)) p = absurd (omega arith)

or-false : (b : Bool) → (b || false) ≡ b
or-false true = refl
or-false false = refl

-- past the end there is no byte
pub has_bit-past : (bits : List ℕ) (x : ℕ) → length bits ≤ x / 8 → has_bit bits x ≡ false
has_bit-past bits x h = ap (λ n. bit_at n (x % 8) == 1) (get_or_past bits (x / 8) 0 h) ∙ ap (λ n. n == 1) (bit_at-zero (x % 8))

pub has_bit-or : (m n i : ℕ) → (bit_at (bit_or m n) i == 1) ≡ (bit_at m i == 1 || bit_at n i == 1)
has_bit-or m n i = ap (λ b. b == 1) (bit_at_or m n i) ∙ max_is_one (bit_at m i) (bit_at n i) (bit_at-lt m i) (bit_at-lt n i)

pub has_bit-not : (n i : ℕ) → n < 256 → i < 8 → (bit_at (bit_not w8 n) i == 1) ≡ not (bit_at n i == 1)
has_bit-not n i h k = ap (λ b. b == 1) (bit_at_not w8 n i h k) ∙ less_is_one (bit_at n i) (bit_at-lt n i)

-- a byte is its quotient and its remainder
same_byte : (x b : ℕ) → x / 8 ≡ b / 8 → x % 8 ≡ b % 8 → x ≡ b
same_byte x b p q = omega arith

pub has_bit-set : (bits : List ℕ) (b x : ℕ) → b / 8 < length bits →
    has_bit (set bits (b / 8) (bit_or (get_or bits (b / 8) 0) (1 * 2 ^ (b % 8) % 256))) x ≡ either (has_bit bits) (only b) x
has_bit-set bits b x h =
    elim (cases_eq (x / 8) (b / 8)) [
      | inl p ↦ elim (cases_eq (x % 8) (b % 8)) [ inl q ↦ here p q | inr q ↦ beside p q ]
      | inr p ↦ elsewhere p
    ]
  where
    new : ℕ
    new = bit_or (get_or bits (b / 8) 0) (1 * 2 ^ (b % 8) % 256)

    within : b % 8 < 8
    within = omega arith

    here : x / 8 ≡ b / 8 → x % 8 ≡ b % 8 → has_bit (set bits (b / 8) new) x ≡ either (has_bit bits) (only b) x
    here p q =
        ap (λ k. bit_at (get_or (set bits (b / 8) new) k 0) (x % 8) == 1) p
        ∙ ap (λ n. bit_at n (x % 8) == 1) (get_or-set_same bits (b / 8) new 0 h)
        ∙ ap (λ k. bit_at new k == 1) q
        ∙ ap (λ n. n == 1) (bit_at_set_same w8 (get_or bits (b / 8) 0) (b % 8) within)
        ∙ sym (ap (λ t. has_bit bits x || t) (eq-eqb x b (same_byte x b p q)) ∙ or-true (has_bit bits x))

    apart : (x ≡ b → ⊥) → has_bit bits x ≡ either (has_bit bits) (only b) x
    apart n = sym (ap (λ t. has_bit bits x || t) (ne_eqb x b n) ∙ or-false (has_bit bits x))

    beside : x / 8 ≡ b / 8 → (x % 8 ≡ b % 8 → ⊥) → has_bit (set bits (b / 8) new) x ≡ either (has_bit bits) (only b) x
    beside p q =
        ap (λ k. bit_at (get_or (set bits (b / 8) new) k 0) (x % 8) == 1) p
        ∙ ap (λ n. bit_at n (x % 8) == 1) (get_or-set_same bits (b / 8) new 0 h)
        ∙ ap (λ n. n == 1) (bit_at_set_other w8 (get_or bits (b / 8) 0) (b % 8) within (x % 8) q)
        ∙ ap (λ k. bit_at (get_or bits k 0) (x % 8) == 1) (sym p)
        ∙ apart (λ e. q (ap (λ n. n % 8) e))

    elsewhere : (x / 8 ≡ b / 8 → ⊥) → has_bit (set bits (b / 8) new) x ≡ either (has_bit bits) (only b) x
    elsewhere p =
        ap (λ n. bit_at n (x % 8) == 1) (get_or-set_other bits (b / 8) (x / 8) new 0 p)
        ∙ apart (λ e. p (ap (λ n. n / 8) e))

zero_at : (n i : ℕ) → slice_index (replicate n 0) i ≡ 0
zero_at zero i = refl
zero_at (suc n) zero = refl
zero_at (suc n) (suc i) = zero_at n i

pub has_bit-replicate : (n x : ℕ) → has_bit (replicate n 0) x ≡ false
has_bit-replicate n x = ap (λ k. bit_at k (x % 8) == 1) (zero_at n (x / 8)) ∙ ap (λ k. k == 1) (bit_at-zero (x % 8))

-- all 32 bytes joined
pub has_bit-union : (new left right : List ℕ) → length new ≡ 32 → length left ≡ 32 → length right ≡ 32 →
    ((q : ℕ) → q < 32 → get_or new q 0 ≡ bit_or (get_or left q 0) (get_or right q 0)) → has_bit new ≡ either (has_bit left) (has_bit right)
has_bit-union new left right n l r all = fun_ext (λ x. elim (cases_lt (x / 8) 32) [ inl h ↦ within x h | inr h ↦ past x h ])
  where
    within : (x : ℕ) → x / 8 < 32 → has_bit new x ≡ either (has_bit left) (has_bit right) x
    within x h = ap (λ n. bit_at n (x % 8) == 1) (all (x / 8) h) ∙ has_bit-or (get_or left (x / 8) 0) (get_or right (x / 8) 0) (x % 8)

    past : (x : ℕ) → 32 ≤ x / 8 → has_bit new x ≡ either (has_bit left) (has_bit right) x
    past x h =
        has_bit-past new x (omega arith)
        ∙ sym (ap (λ t. t || has_bit right x) (has_bit-past left x (omega arith)) ∙ has_bit-past right x (omega arith))

-- all 32 bytes turned
pub has_bit-complement : (new old : List ℕ) → length new ≡ 32 → length old ≡ 32 →
    ((q : ℕ) → q < 32 → (get_or new q 0 ≡ bit_not w8 (get_or old q 0)) × (get_or old q 0 < 256)) → has_bit new ≡ all_but (has_bit old)
has_bit-complement new old n o all = fun_ext (λ x. elim (cases_lt x 256) [ inl h ↦ within x h | inr h ↦ past x h ])
  where
    within : (x : ℕ) → x < 256 → has_bit new x ≡ all_but (has_bit old) x
    within x h = let q = all (x / 8) (omega arith) in
        ap (λ n. bit_at n (x % 8) == 1) q.0 ∙ has_bit-not (get_or old (x / 8) 0) (x % 8) q.1 (omega arith)
        ∙ sym (ap (λ t. t && not (has_bit old x)) (lt-ltb x 256 h))

    past : (x : ℕ) → 256 ≤ x → has_bit new x ≡ all_but (has_bit old) x
    past x h = has_bit-past new x (omega arith) ∙ sym (ap (λ t. t && not (has_bit old x)) (le-ltb x 256 h))

and-false : (b : Bool) → (b && false) ≡ false
and-false true = refl
and-false false = refl

joined : (w : Bool) (old : ℕ → Bool) (b x : ℕ) → (if w then either old (only b) else old) x ≡ (old x || (w && (x == b)))
joined true old b x = refl
joined false old b x = sym (or-false (old x))

still_below : (x b : ℕ) → (x ≡ b → ⊥) → nat_lt x b ≡ nat_lt x (b + 1)
still_below x b n = grind (arith, nat_tests)

-- the class so far, below b, and one step on
pub fold_more : (old new whole : ℕ → Bool) (b : ℕ) → ((x : ℕ) → old x ≡ (nat_lt x b && whole x))
    → new ≡ (if whole b then either old (only b) else old) → (x : ℕ) → new x ≡ (nat_lt x (b + 1) && whole x)
fold_more old new whole b so_far step x =
    ap (λ f. f x) step ∙ joined (whole b) old b x ∙ ap (λ t. t || (whole b && (x == b))) (so_far x) ∙ elim (cases_eq x b) [ inl e ↦ here e | inr n ↦ beside n ]
  where
    here : x ≡ b → ((nat_lt x b && whole x) || (whole b && (x == b))) ≡ (nat_lt x (b + 1) && whole x)
    here e =
        ap (λ t. (t && whole x) || (whole b && (x == b))) (le-ltb x b (omega arith)) ∙ ap (λ t. whole b && t) (eq-eqb x b e)
        ∙ and-true (whole b) ∙ ap whole (sym e) ∙ sym (ap (λ t. t && whole x) (lt-ltb x (b + 1) (omega arith)))

    beside : (x ≡ b → ⊥) → ((nat_lt x b && whole x) || (whole b && (x == b))) ≡ (nat_lt x (b + 1) && whole x)
    beside n =
        ap (λ t. (nat_lt x b && whole x) || (whole b && t)) (ne_eqb x b n) ∙ ap (λ t. (nat_lt x b && whole x) || t) (and-false (whole b))
        ∙ or-false (nat_lt x b && whole x) ∙ ap (λ t. t && whole x) (still_below x b n)
