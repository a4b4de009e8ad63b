-- One more number at the end of a list.
use Rattle.std.proofs.Common.{◌≡◌, ℕ, zero, suc, Some, ◌+◌, ◌-◌, ◌<◌, ◌≤◌, ◌⊎◌, inl, inr, List, [], ◌∷◌, ◌++◌, length, length-append, get_or, map, take, drop, get_or-take, get_or-drop, refl, ap, ◌∙◌, subst, arith, Contains}
use Rattle.std.proofs.lemmas.List.{get_or_append_left, get_or_default}
use Rattle.std.proofs.Math.Seq.{get_or-append_seam}
use Rattle.std.specs.Prelude.{slice_get}
use Rattle.std.proofs.lemmas.Option.{slice_get-get_or}
use Rattle.yr_automaton.specs.Keys.{Rises}
use Rattle.yr_rows.specs.Nodes.{Each}

pub order3 : (i j : ℕ) → (i < j) ⊎ ((i ≡ j) ⊎ (j < i))
order3 i j = grind arith

pub below_or_at : (k n : ℕ) → k < n + 1 → (k < n) ⊎ (k ≡ n)
below_or_at k n lt = grind arith

pub has_at : (xs : List ℕ) (k x : ℕ) → k < length xs → get_or xs k 0 ≡ x → Contains xs x
has_at xs k x lt e = (k, lt, get_or_default xs k x 0 lt ∙ e)

pub at_has : (xs : List ℕ) (x : ℕ) → Contains xs x → (k : ℕ) × (k < length xs) × (get_or xs k 0 ≡ x)
at_has xs x c = (c.0, c.1, get_or_default xs c.0 0 x c.1 ∙ c.2)

pub length_push : (xs : List ℕ) (x : ℕ) → length (xs ++ x ∷ []) ≡ length xs + 1
length_push xs x = length-append xs (x ∷ [])

pub old_at : (xs : List ℕ) (x k : ℕ) → k < length xs → get_or (xs ++ x ∷ []) k 0 ≡ get_or xs k 0
old_at xs x k lt = get_or_append_left xs (x ∷ []) 0 k lt

pub new_at : (xs : List ℕ) (x k : ℕ) → k ≡ length xs → get_or (xs ++ x ∷ []) k 0 ≡ x
new_at xs x k e = ap (λ i. get_or (xs ++ x ∷ []) i 0) e ∙ get_or-append_seam xs x [] 0

pub rises_le : (xs : List ℕ) → Rises xs → (i j : ℕ) → i ≤ j → j < length xs → get_or xs i 0 ≤ get_or xs j 0
rises_le xs rise i j le lt = elim (order3 i j) [
  | inl less ↦ omega (arith, rise i j less lt)
  | inr o ↦ elim o [ inl same ↦ omega (arith, ap (λ k. get_or xs k 0) same) | inr more ↦ absurd (omega (arith, le, more)) ]
]

pub rises_push : (xs : List ℕ) (x : ℕ) → Rises xs → 0 < length xs → get_or xs (length xs - 1) 0 < x → Rises (xs ++ x ∷ [])
rises_push xs x rise some top i j less lt = elim (below_or_at j (length xs) (omega (arith, lt, length_push xs x))) [
  | inl old ↦ omega (arith, old_at xs x i (omega (arith, old, less)), old_at xs x j old, rise i j less old)
  | inr new ↦ omega (arith, old_at xs x i (omega (arith, new, less)), new_at xs x j new, top, rises_le xs rise i (length xs - 1) (omega (arith, new, less)) (omega (arith, some)))
]

pub rises_place : (xs : List ℕ) → Rises xs → (i j : ℕ) → i < length xs → j < length xs → get_or xs i 0 ≡ get_or xs j 0 → i ≡ j
rises_place xs rise i j li lj e = elim (order3 i j) [
  | inl less ↦ absurd (omega (arith, rise i j less lj, e))
  | inr o ↦ elim o [ inl same ↦ same | inr more ↦ absurd (omega (arith, rise j i more li, e)) ]
]

pub each_push : {X : Type 0} (P : ℕ → X → Type 0) (xs : List X) (x : X) (n : ℕ) → n ≡ length xs → Each P xs → P n x → Each P (xs ++ x ∷ [])
each_push P [] x n e each here zero v at = let s : x ≡ v = cc at in subst (P 0) s (subst (λ i. P i x) e here)
each_push P [] x n e each here (suc k) v at = absurd (cc at)
each_push P (y ∷ xs) x n e each here zero v at = each zero v at
each_push P (y ∷ xs) x n e each here (suc k) v at =
    each_push (λ i w. P (suc i) w) xs x (length xs) refl (λ i w a. each (suc i) w a) (subst (λ i. P i x) e here) k v at

pub each_none : {X : Type 0} (P : ℕ → X → Type 0) → Each P []
each_none P k v at = absurd (cc at)

pub get_some : {X : Type 0} (xs : List X) (k : ℕ) (d : X) → k < length xs → slice_get xs k ≡ Some (get_or xs k d)
get_some xs k d lt = slice_get-get_or xs k d lt

pub some_inside : {X : Type 0} (xs : List X) (k : ℕ) (v : X) → slice_get xs k ≡ Some v → k < length xs
some_inside [] k v e = absurd (cc e)
some_inside (x ∷ xs) zero v e = omega arith
some_inside (x ∷ xs) (suc k) v e = omega (arith, some_inside xs k v e)

pub get_or_some : {X : Type 0} (xs : List X) (k : ℕ) (d v : X) → slice_get xs k ≡ Some v → get_or xs k d ≡ v
get_or_some [] k d v e = absurd (cc e)
get_or_some (x ∷ xs) zero d v e = cc e
get_or_some (x ∷ xs) (suc k) d v e = get_or_some xs k d v e

pub segment_at : {X : Type 0} (c f : ℕ) (xs : List X) (k : ℕ) (d : X) → k < c → get_or (take c (drop f xs)) k d ≡ get_or xs (f + k) d
segment_at c f xs k d lt = get_or-take c (drop f xs) k d lt ∙ get_or-drop f xs k d

pub length_mapped : {X Y : Type 0} (f : X → Y) (xs : List X) → length (map f xs) ≡ length xs
length_mapped f [] = refl
length_mapped f (x ∷ xs) = ap suc (length_mapped f xs)

pub map_some : {X Y : Type 0} (f : X → Y) (xs : List X) (i : ℕ) (x : X) → slice_get xs i ≡ Some x → slice_get (map f xs) i ≡ Some (f x)
map_some f [] i x e = absurd (cc e)
map_some f (y ∷ xs) zero x e = let same : y ≡ x = cc e in ap (λ z. Some (f z)) same
map_some f (y ∷ xs) (suc i) x e = map_some f xs i x e

pub some_of_map : {X Y : Type 0} (f : X → Y) (xs : List X) (i : ℕ) (y : Y) → slice_get (map f xs) i ≡ Some y → (x : X) × (slice_get xs i ≡ Some x) × (f x ≡ y)
some_of_map f [] i y e = absurd (cc e)
some_of_map f (x ∷ xs) zero y e = (x, refl, cc e)
some_of_map f (x ∷ xs) (suc i) y e = some_of_map f xs i y e

pub some_at : {X : Type 0} (xs : List X) (i : ℕ) → i < length xs → (x : X) × (slice_get xs i ≡ Some x)
some_at [] i lt = absurd (omega (arith, lt))
some_at (x ∷ xs) zero lt = (x, refl)
some_at (x ∷ xs) (suc i) lt = some_at xs i (omega (arith, lt))
