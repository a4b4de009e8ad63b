-- Numbers that stand in a list: how long the list must be, and how long it can be.
use Rattle.std.proofs.Common.{◌≡◌, ℕ, zero, suc, ◌+◌, ◌<◌, ◌≤◌, ◌==◌, ⊎_elim, Bool, true, false, if◌then◌else◌, List, [], ◌∷◌, length, All, refl, sym, ap, ◌∙◌, true≢false, arith}
use Rattle.std.proofs.lemmas.Bool.{cases_lt}
use Rattle.std.proofs.lemmas.Bool.Decides.{Decides-eqb}
use Rattle.std.proofs.lemmas.List.Elements.{All-head, All-tail}
use Rattle.yr_rows.specs.Words.{times}

-- how often numbers below n stand in the list
abbrev tally : ℕ → List ℕ → ℕ
tally zero xs = 0
tally (suc n) xs = times n xs + tally n xs

-- a number counts once at most
abbrev one_if : Bool → ℕ
one_if b = if b then 1 else 0

abbrev counted : ℕ → ℕ → ℕ
counted zero x = 0
counted (suc n) x = one_if (x == n) + counted n x

tally_none : (n : ℕ) → tally n [] ≡ 0
tally_none zero = refl
tally_none (suc n) = let rest = tally_none n in omega (arith, rest)

tally_first : (n x : ℕ) (xs : List ℕ) → tally n (x ∷ xs) ≡ counted n x + tally n xs
tally_first zero x xs = refl
tally_first (suc n) x xs = let rest = tally_first n x xs in omega (arith, rest)

same_number : (x n : ℕ) → (x == n) ≡ true → x ≡ n
same_number x n h = (Decides-eqb x n).0 h

counted_above : (n x : ℕ) → n ≤ x → counted n x ≡ 0
counted_above zero x h = refl
counted_above (suc n) x h = at (x == n) refl (counted_above n x (omega (arith, h)))
  where
    at : (b : Bool) → (x == n) ≡ b → counted n x ≡ 0 → one_if (x == n) + counted n x ≡ 0
    at true e rest = let s = same_number x n e in absurd (omega (arith, s, h))
    at false e rest = let z : one_if (x == n) ≡ 0 = ap one_if e in omega (arith, z, rest)

counted_one : (n x : ℕ) → (counted n x ≤ 1) × (x < n → counted n x ≡ 1)
counted_one zero x = (omega arith, λ h. absurd (omega (arith, h)))
counted_one (suc n) x = at (x == n) refl (counted_one n x)
  where
    below : (x == n) ≡ false → x < suc n → x < n
    below f h = ⊎_elim (λ b. b) (λ b. absurd (true≢false (sym ((Decides-eqb x n).1 (omega (arith, b, h))) ∙ f))) (cases_lt x n)

    at : (b : Bool) → (x == n) ≡ b → (counted n x ≤ 1) × (x < n → counted n x ≡ 1) → (one_if (x == n) + counted n x ≤ 1) × (x < suc n → one_if (x == n) + counted n x ≡ 1)
    at true e rest =
        let s = same_number x n e in
        let z : one_if (x == n) ≡ 1 = ap one_if e in
        let r = counted_above n x (omega (arith, s)) in (omega (arith, z, r), λ h. omega (arith, z, r))
    at false e rest =
        let z : one_if (x == n) ≡ 0 = ap one_if e in
        (let r = rest.0 in omega (arith, z, r), λ h. let r : counted n x ≡ 1 = rest.1 (below e h) in omega (arith, z, r))

tally_short : (n : ℕ) (xs : List ℕ) → tally n xs ≤ length xs
tally_short n [] = let e = tally_none n in omega (arith, e)
tally_short n (x ∷ xs) =
    let e = tally_first n x xs in
    let one = (counted_one n x).0 in
    let rest = tally_short n xs in omega (arith, e, one, rest)

tally_whole : (n : ℕ) (xs : List ℕ) → All (λ x. x < n) xs → tally n xs ≡ length xs
tally_whole n [] below = tally_none n
tally_whole n (x ∷ xs) below =
    let e = tally_first n x xs in
    let one = (counted_one n x).1 (All-head (λ y. y < n) x xs below) in
    let rest = tally_whole n xs (All-tail (λ y. y < n) x xs below) in omega (arith, e, one, rest)

tally_least : (xs : List ℕ) (m : ℕ) → ((i : ℕ) → i < m → 0 < times i xs) → m ≤ tally m xs
tally_least xs zero g = omega arith
tally_least xs (suc m) g =
    let here = g m (omega arith) in
    let rest = tally_least xs m (λ i b. g i (omega (arith, b))) in omega (arith, here, rest)

tally_few : (xs : List ℕ) (m : ℕ) → ((i : ℕ) → i < m → times i xs ≤ 1) → tally m xs ≤ m
tally_few xs zero g = omega arith
tally_few xs (suc m) g =
    let here = g m (omega arith) in
    let rest = tally_few xs m (λ i b. g i (omega (arith, b))) in omega (arith, here, rest)

-- each number below n stands there, so the list is not shorter
pub each_there : (xs : List ℕ) (n : ℕ) → ((i : ℕ) → i < n → 0 < times i xs) → n ≤ length xs
each_there xs n h = let short = tally_short n xs in let most = tally_least xs n h in omega (arith, short, most)

-- only numbers below n stand there, each at most once, so the list is not longer
pub each_once : (xs : List ℕ) (n : ℕ) → All (λ x. x < n) xs → ((i : ℕ) → i < n → times i xs ≤ 1) → length xs ≤ n
each_once xs n below h = let whole = tally_whole n xs below in let most = tally_few xs n h in omega (arith, whole, most)
