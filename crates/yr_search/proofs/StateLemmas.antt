-- What is gathered while hits come: its lists, and what the hits that are left for later may cost.
use Rattle.std.proofs.Common.{◌≡◌, ◌≢◌, ℕ, zero, suc, ◌+◌, ◌-◌, ◌*◌, ◌<◌, ◌≤◌, ◌⊎◌, inl, inr, List, [], ◌∷◌, ◌++◌, length, map, set, All, Some, option_map, refl, sym, ap, ◌∙◌, subst, arith, length-append}
use Rattle.std.specs.Prelude.{slice_get, Vec}
use Rattle.std.specs.Option.{option_map_or}
use Rattle.std.specs.declared.alloc.Global.{Global}
use Rattle.std.proofs.lemmas.Option.{slice_get-map, slice_get_within, get_or_from_slice_get}
use Rattle.yr_image.specs.Image.{Image}
use Rattle.yr_machine.specs.Budget.{hit_cost, output_cost}
use Rattle.yr_hits.proofs.HitLemmas.{there}
use Rattle.yr_search.specs.State.{hits_in, owed_by}

-- ---- lists in which one is replaced

-- an element of a list in which one was replaced
pub set_cases : {X : Type 0} (xs : List X) (k : ℕ) (v : X) (j : ℕ) (y : X) → slice_get (set xs k v) j ≡ Some y
    → ((j ≡ k) × (v ≡ y)) ⊎ ((j ≢ k) × (slice_get xs j ≡ Some y))
set_cases [] k v j y e = cc
set_cases (x ∷ xs) zero v zero y e = inl (refl, cc)
set_cases (x ∷ xs) zero v (suc j) y e = inr (omega arith, e)
set_cases (x ∷ xs) (suc k) v zero y e = inr (omega arith, e)
set_cases (x ∷ xs) (suc k) v (suc j) y e = elim (set_cases xs k v j y e) [
  | inl h ↦ inl (ap suc h.0, h.1)
  | inr h ↦ inr (omega (arith, h.0), h.1)
]

pub set_length : {X : Type 0} (xs : List X) (k : ℕ) (v : X) → length (set xs k v) ≡ length xs
set_length [] k v = refl
set_length (x ∷ xs) zero v = refl
set_length (x ∷ xs) (suc k) v = ap suc (set_length xs k v)

-- an element that is replaced by itself
pub set_same : {X : Type 0} (xs : List X) (k : ℕ) (v : X) → slice_get xs k ≡ Some v → set xs k v ≡ xs
set_same [] k v e = cc
set_same (x ∷ xs) zero v e = let same : x ≡ v = cc in ap (λ y. y ∷ xs) (sym same)
set_same (x ∷ xs) (suc k) v e = ap (λ l. x ∷ l) (set_same xs k v e)

-- ---- hits in vectors

pub hits_set : (xs : List (Vec ℕ Global)) (k : ℕ) (v : Vec ℕ Global) → hits_in (set xs k v) ≡ set (hits_in xs) k v.items
hits_set [] k v = refl
hits_set (x ∷ xs) zero v = refl
hits_set (x ∷ xs) (suc k) v = ap (λ l. x.items ∷ l) (hits_set xs k v)

pub hits_get : (xs : List (Vec ℕ Global)) (k : ℕ) (v : Vec ℕ Global) → slice_get xs k ≡ Some v → slice_get (hits_in xs) k ≡ Some v.items
hits_get xs k v at = slice_get-map (λ w. w.items) xs k ∙ ap (option_map (λ w. w.items)) at

pub hits_length : (xs : List (Vec ℕ Global)) → length (hits_in xs) ≡ length xs
hits_length [] = refl
hits_length (x ∷ xs) = ap suc (hits_length xs)

pub hits_more : (xs : List (Vec ℕ Global)) (v : Vec ℕ Global) → hits_in (xs ++ v ∷ []) ≡ hits_in xs ++ v.items ∷ []
hits_more [] v = refl
hits_more (x ∷ xs) v = ap (λ l. x.items ∷ l) (hits_more xs v)

-- an element before the last, and the last
pub get_before : {X : Type 0} (xs : List X) (x : X) (k : ℕ) (y : X) → slice_get xs k ≡ Some y → slice_get (xs ++ x ∷ []) k ≡ Some y
get_before [] x k y e = cc
get_before (z ∷ zs) x zero y e = e
get_before (z ∷ zs) x (suc k) y e = get_before zs x k y e

pub get_last : {X : Type 0} (xs : List X) (x : X) → slice_get (xs ++ x ∷ []) (length xs) ≡ Some x
get_last [] x = refl
get_last (z ∷ zs) x = get_last zs x

-- ---- vectors with nothing in them

vector_of : {A : Type 0} (vs : List (Vec A Global)) (k : ℕ) (list : List A) → slice_get (map (λ (v : Vec A Global). v.items) vs) k ≡ Some list
    → (w : Vec A Global) × (slice_get vs k ≡ Some w) × (w.items ≡ list)
vector_of [] k list e = cc
vector_of (v ∷ vs) zero list e = (v, refl, cc)
vector_of (v ∷ vs) (suc k) list e = vector_of vs k list e

pub all_empty : {A : Type 0} (vs : List (Vec A Global)) → All (λ (v : Vec A Global). v.items ≡ []) vs → (k : ℕ) (list : List A)
    → slice_get (map (λ (v : Vec A Global). v.items) vs) k ≡ Some list → list ≡ []
all_empty {A} vs none k list at =
    let w = vector_of vs k list at in
    let here : w.0.items ≡ [] = subst (λ (v : Vec A Global). v.items ≡ []) (get_or_from_slice_get vs k w.0 w.0 w.1) (none k w.0 (slice_get_within vs k w.0 w.1)) in
    sym w.2 ∙ here

-- ---- what hits may cost

times_more : (a x : ℕ) → (a + 1) * x ≡ a * x + x
times_more a x = omega arith

pub owed_more : (f : ℕ → ℕ) (first : ℕ) (later : List (List ℕ)) (k e : ℕ) (hits : List ℕ) → slice_get later k ≡ Some hits
    → owed_by f first (set later k (hits ++ e ∷ [])) ≡ owed_by f first later + f (first + k)
owed_more f first [] k e hits at = cc
owed_more f first (h ∷ later) zero e hits at =
    let same : h ≡ hits = cc in
    let long : length (hits ++ e ∷ []) ≡ length h + 1 = omega (arith, length-append hits (e ∷ []), ap length same) in
    let product : length (hits ++ e ∷ []) * f first ≡ length h * f first + f first = ap (λ n. n * f first) long ∙ times_more (length h) (f first) in
    let here : first + 0 ≡ first = omega arith in
    let cost : f (first + 0) ≡ f first = ap f here in
    omega (arith, product, cost)
owed_more f first (h ∷ later) (suc k) e hits at =
    let rest = owed_more f (first + 1) later k e hits at in
    let here : first + suc k ≡ first + 1 + k = omega arith in
    let cost : f (first + suc k) ≡ f (first + 1 + k) = ap f here in
    omega (arith, rest, cost)

pub owed_last : (f : ℕ → ℕ) (first : ℕ) (later : List (List ℕ)) (hits : List ℕ) (split : ℕ) → split ≡ first + length later
    → owed_by f first (later ++ hits ∷ []) ≡ owed_by f first later + length hits * f split
owed_last f first [] hits split is =
    let here : split ≡ first = omega (arith, is) in
    let cost : length hits * f split ≡ length hits * f first = ap (λ k. length hits * f k) here in
    omega (arith, cost)
owed_last f first (h ∷ later) hits split is =
    let rest = owed_last f (first + 1) later hits split (omega (arith, is)) in
    omega (arith, rest)

pub owed_none : (f : ℕ → ℕ) (first : ℕ) (later : List (List ℕ)) → ((k : ℕ) (hits : List ℕ) → slice_get later k ≡ Some hits → hits ≡ [])
    → owed_by f first later ≡ 0
owed_none f first [] none = refl
owed_none f first (h ∷ later) none =
    let here : length h * f first ≡ 0 = ap (λ l. length l * f first) (none 0 h refl) ∙ nothing (f first) in
    let rest = owed_none f (first + 1) later (λ k hits at. none (suc k) hits at) in
    omega (arith, here, rest)
  where
    nothing : (n : ℕ) → 0 * n ≡ 0
    nothing n = omega arith

-- what the last split's hits cost is no longer owed
pub paid_last : (all rest hits start now next : ℕ) → all ≡ rest + hits → now + all ≤ start → next ≤ now + hits → next + rest ≤ start
paid_last all rest hits start now next is paid cost = omega (arith, is, paid, cost)

-- a hit costs something
pub cost_some : (image : Image) (n split : ℕ) → split < length image.splits → 1 ≤ output_cost image n split
cost_some image n split lt =
    let row = there image.splits split lt in
    let is = ap (λ o. option_map_or (hit_cost image n) o 0) row.1 in
    omega (arith, is)

-- what many hits cost beside a step for each
pub cost_left : (hits cost old new : ℕ) → old ≤ new → new + hits ≤ old + hits * cost → new ≤ old + hits * (cost - 1)
cost_left hits zero old new up le = let none : hits * 0 ≡ 0 = omega arith in omega (arith, le, none)
cost_left hits (suc cost) old new up le =
    let more : hits * suc cost ≡ hits * cost + hits = omega arith in
    let same : suc cost - 1 ≡ cost = omega arith in
    let product = ap (λ n. hits * n) same in
    omega (arith, le, more, product)
