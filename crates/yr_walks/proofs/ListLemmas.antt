-- Elements of lists by their places.
use Rattle.std.proofs.Common.{◌≡◌, ℕ, zero, suc, ◌+◌, ◌<◌, ◌≤◌, ◌⊎◌, inl, inr, List, [], ◌∷◌, ◌++◌, length, take, Some, refl, ap, arith}
use Rattle.std.specs.Prelude.{slice_get, slice_set}

pub get_front : {X : Type 0} → (xs ys : List X) (q : ℕ) → q < length xs → slice_get (xs ++ ys) q ≡ slice_get xs q
get_front [] ys q h = absurd (omega arith)
get_front (x ∷ xs) ys zero h = refl
get_front (x ∷ xs) ys (suc q) h = get_front xs ys q (omega arith)

pub get_back : {X : Type 0} → (xs ys : List X) (q : ℕ) (x : X) → length xs ≤ q → slice_get (xs ++ ys) q ≡ Some x → (p : ℕ) × (q ≡ length xs + p) × (slice_get ys p ≡ Some x)
get_back [] ys q x h e = (q, omega arith, e)
get_back (y ∷ xs) ys zero x h e = absurd (omega arith)
get_back (y ∷ xs) ys (suc q) x h e = let r = get_back xs ys q x (omega arith) e in (r.0, omega (arith, r.1), r.2)

pub get_within : {X : Type 0} → (xs : List X) (q : ℕ) (x : X) → slice_get xs q ≡ Some x → q < length xs
get_within [] q x e = cc
get_within (y ∷ xs) zero x e = omega arith
get_within (y ∷ xs) (suc q) x e = let r = get_within xs q x e in omega (arith, r)

pub get_taken : {X : Type 0} → (n : ℕ) (xs : List X) (q : ℕ) (x : X) → slice_get (take n xs) q ≡ Some x → (q < n) × (slice_get xs q ≡ Some x)
get_taken zero xs q x e = cc
get_taken (suc n) [] q x e = cc
get_taken (suc n) (y ∷ xs) zero x e = (omega arith, e)
get_taken (suc n) (y ∷ xs) (suc q) x e = let r = get_taken n xs q x e in (omega (arith, r.0), r.1)

pub taken_get : {X : Type 0} → (n : ℕ) (xs : List X) (q : ℕ) (x : X) → q < n → slice_get xs q ≡ Some x → slice_get (take n xs) q ≡ Some x
taken_get zero xs q x lt e = absurd (omega arith)
taken_get (suc n) [] q x lt e = cc
taken_get (suc n) (y ∷ xs) zero x lt e = e
taken_get (suc n) (y ∷ xs) (suc q) x lt e = taken_get n xs q x (omega arith) e

pub set_same : {X : Type 0} → (xs : List X) (i : ℕ) (y : X) → i < length xs → slice_get (slice_set xs i y) i ≡ Some y
set_same [] i y lt = absurd (omega arith)
set_same (x ∷ xs) zero y lt = refl
set_same (x ∷ xs) (suc i) y lt = set_same xs i y (omega arith)

pub set_other : {X : Type 0} → (xs : List X) (i j : ℕ) (y : X) → (i ≡ j → ⊥) → slice_get (slice_set xs i y) j ≡ slice_get xs j
set_other [] i j y n = refl
set_other (x ∷ xs) zero zero y n = absurd (n refl)
set_other (x ∷ xs) zero (suc j) y n = refl
set_other (x ∷ xs) (suc i) zero y n = refl
set_other (x ∷ xs) (suc i) (suc j) y n = set_other xs i j y (λ e. n (ap suc e))

pub same_or_not : (i j : ℕ) → (i ≡ j) ⊎ (i ≡ j → ⊥)
same_or_not zero zero = inl refl
same_or_not zero (suc j) = inr (λ e. omega (arith, e))
same_or_not (suc i) zero = inr (λ e. omega (arith, e))
same_or_not (suc i) (suc j) = elim (same_or_not i j) [ inl e ↦ inl (ap suc e) | inr n ↦ inr (λ e. n (omega (arith, e))) ]

pub below_or_last : (q k : ℕ) → q < k + 1 → (q < k) ⊎ (q ≡ k)
below_or_last q k lt = grind arith
