-- Counts in lists whose offsets rise.
use Rattle.std.proofs.Common.{◌≡◌, ℕ, zero, suc, ◌+◌, ◌<◌, ◌≤◌, Bool, true, false, cond, ◌&&◌, ◌||◌, ℤ, pos, int_lt, int_le, List, [], ◌∷◌, length, get_or, filter, nat_lt, refl, ap, ◌∙◌, arith}
use Rattle.std.specs.List.{list_any, AllWithin}
use Rattle.std.specs.List.Sorted.{IsPartitionedBy}
use Rattle.std.proofs.lemmas.Int.{ints}
use Rattle.std.proofs.lemmas.Bool.Decides.{nat_tests}
use Rattle.yr_answer.specs.MatchList.{Match, RisesFrom}
use Rattle.yr_answer.specs.Lookups.{is_at, is_within}

-- every offset is at least that from which a list rises
rises_at : (least : ℕ) (xs : List Match) (k : ℕ) (d : Match) → RisesFrom least xs → k < length xs → least ≤ (get_or xs k d).0
rises_at least [] k d r h = absurd (omega (arith, h))
rises_at least (m ∷ ms) zero d r h = r.0
rises_at least (m ∷ ms) (suc k) d r h =
    let up : m.0 + 1 ≤ (get_or ms k d).0 = rises_at (m.0 + 1) ms k d r.1 (omega (arith, h)) in omega (arith, r.0, up)

pub never_falls : (least : ℕ) (xs : List Match) (i j : ℕ) (d : Match) → RisesFrom least xs → i ≤ j → j < length xs
    → (get_or xs i d).0 ≤ (get_or xs j d).0
never_falls least [] i j d r b h = absurd (omega (arith, h))
never_falls least (m ∷ ms) zero zero d r b h = omega arith
never_falls least (m ∷ ms) zero (suc j) d r b h =
    let up : m.0 + 1 ≤ (get_or ms j d).0 = rises_at (m.0 + 1) ms j d r.1 (omega (arith, h)) in omega (arith, up)
never_falls least (m ∷ ms) (suc i) zero d r b h = absurd (omega (arith, b))
never_falls least (m ∷ ms) (suc i) (suc j) d r b h = never_falls (m.0 + 1) ms i j d r.1 (omega (arith, b)) (omega (arith, h))

lt_before : (a b : ℕ) (x : ℤ) → a ≤ b → int_lt (pos b) x ≡ true → int_lt (pos a) x ≡ true
lt_before a b x h e = grind (arith, ints)

le_before : (a b : ℕ) (x : ℤ) → a ≤ b → int_le (pos b) x ≡ true → int_le (pos a) x ≡ true
le_before a b x h e = grind (arith, ints)

pub partitioned_before : (x : ℤ) (xs : List Match) → RisesFrom 0 xs → IsPartitionedBy (λ m. int_lt (pos m.0) x) xs
partitioned_before x xs r i j d b h e = lt_before (get_or xs i d).0 (get_or xs j d).0 x (never_falls 0 xs i j d r b h) e

pub partitioned_up_to : (x : ℤ) (xs : List Match) → RisesFrom 0 xs → IsPartitionedBy (λ m. int_le (pos m.0) x) xs
partitioned_up_to x xs r i j d b h e = le_before (get_or xs i d).0 (get_or xs j d).0 x (never_falls 0 xs i j d r b h) e

-- how many pass a test, one element at a time
count_cons : (p : Match → Bool) (m : Match) (ms : List Match) → length (filter p (m ∷ ms)) ≡ cond (p m) 1 0 + length (filter p ms)
count_cons p m ms =
    elim (p m) as (λ b. length (cond b (m ∷ filter p ms) (filter p ms)) ≡ cond b 1 0 + length (filter p ms)) [ true ↦ omega arith | false ↦ omega arith ]

-- where the first i pass and no other does, i pass
pub count_at : (p : Match → Bool) (xs : List Match) (i : ℕ) → i ≤ length xs → AllWithin (λ m. p m ≡ true) xs 0 i
    → AllWithin (λ m. p m ≡ false) xs i (length xs) → i ≡ length (filter p xs)
count_at p [] zero b front back = refl
count_at p [] (suc i) b front back = absurd (omega (arith, b))
count_at p (m ∷ ms) zero b front back =
    let no : p m ≡ false = back 0 m (omega arith) (omega arith) in
    let rest : 0 ≡ length (filter p ms) =
    count_at p ms 0 (omega arith) (λ k d l h. absurd (omega (arith, h))) (λ k d l h. back (suc k) d (omega arith) (omega (arith, h))) in
    let here : ◌≡◌ {A = ℕ} (cond (p m) 1 0) 0 = ap (λ (b : Bool). cond {A = ℕ} b 1 0) no in
    omega (arith, count_cons p m ms, rest, here)
count_at p (m ∷ ms) (suc i) b front back =
    let yes : p m ≡ true = front 0 m (omega arith) (omega arith) in
    let rest : i ≡ length (filter p ms) =
    count_at p ms i (omega (arith, b)) (λ k d l h. front (suc k) d (omega arith) (omega (arith, h)))
    (λ k d l h. back (suc k) d (omega (arith, l)) (omega (arith, h))) in
    let here : ◌≡◌ {A = ℕ} (cond (p m) 1 0) 1 = ap (λ (b : Bool). cond {A = ℕ} b 1 0) yes in
    omega (arith, count_cons p m ms, rest, here)

within_step : (low high x : ℤ) → int_lt high low ≡ false
    → cond (int_lt x low) 1 0 + cond (int_le low x && int_le x high) 1 0 ≡ cond (int_le x high) 1 0
within_step low high x h = grind (arith, ints)

-- those before a range and those within it are those up to its end
pub count_parts : (low high : ℤ) (xs : List Match) → int_lt high low ≡ false
    → length (filter (λ m. int_lt (pos m.0) low) xs) + length (filter (is_within low high) xs)
    ≡ length (filter (λ m. int_le (pos m.0) high) xs)
count_parts low high [] h = refl
count_parts low high (m ∷ ms) h =
    let a = count_cons (λ m. int_lt (pos m.0) low) m ms in
    let b = count_cons (is_within low high) m ms in
    let c = count_cons (λ m. int_le (pos m.0) high) m ms in
    let one = within_step low high (pos m.0) h in
    let rest = count_parts low high ms h in
    omega (arith, a, b, c, one, rest)

within_none : (low high x : ℤ) → int_lt high low ≡ true → ◌≡◌ {A = ℕ} (cond (int_le low x && int_le x high) 1 0) 0
within_none low high x h = grind (arith, ints)

-- none is within a range whose ends are turned round
pub count_turned : (low high : ℤ) (xs : List Match) → int_lt high low ≡ true → 0 ≡ length (filter (is_within low high) xs)
count_turned low high [] h = refl
count_turned low high (m ∷ ms) h =
    let b = count_cons (is_within low high) m ms in
    let one = within_none low high (pos m.0) h in
    let rest = count_turned low high ms h in
    omega (arith, b, one, rest)

at_is_within : (e : ℤ) (m : Match) → is_at e m ≡ is_within e e m
at_is_within e m = grind (arith, ints)

not_below_itself : (e : ℤ) → int_lt e e ≡ false
not_below_itself e = grind (arith, ints)

some_counts : (n : ℕ) → nat_lt 0 (suc n) ≡ true
some_counts n = grind (arith, nat_tests)

-- one passes exactly where some are counted
any_counts : (p q : Match → Bool) (xs : List Match) → ((m : Match) → p m ≡ q m) → nat_lt 0 (length (filter q xs)) ≡ list_any p xs
any_counts p q [] same = refl
any_counts p q (m ∷ ms) same =
    rw (same m) (elim (q m) as (λ b. nat_lt 0 (length (cond b (m ∷ filter q ms) (filter q ms))) ≡ (b || list_any p ms))
    [ true ↦ some_counts (length (filter q ms)) | false ↦ any_counts p q ms same ])

less_by : (a b n : ℕ) → a + n ≡ b → nat_lt a b ≡ nat_lt 0 n
less_by a b n e = grind (arith, nat_tests)

pub begins_where : (e : ℤ) (xs : List Match)
    → nat_lt (length (filter (λ m. int_lt (pos m.0) e) xs)) (length (filter (λ m. int_le (pos m.0) e) xs)) ≡ list_any (is_at e) xs
begins_where e xs =
    less_by _ _ (length (filter (is_within e e) xs)) (count_parts e e xs (not_below_itself e))
    ∙ any_counts (is_at e) (is_within e e) xs (at_is_within e)
