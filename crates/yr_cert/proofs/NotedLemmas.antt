-- What is noted of the numbers of a list, one number after another.
use Rattle.std.proofs.Common.{◌≡◌, ◌≢◌, ℕ, zero, suc, ◌+◌, ◌≤◌, inl, inr, List, [], ◌∷◌, ◌++◌, length, replicate, take, take_all, Some, refl, sym, ap, ◌∙◌, subst, arith}
use Rattle.std.specs.Prelude.{slice_get, slice_set}
use Rattle.std.proofs.lemmas.Bool.Decides.{nat_tests}
use Rattle.yr_rows.specs.Words.{times}
use Rattle.yr_automaton.proofs.SuffixLemmas.{times-append}
use Rattle.yr_automaton.proofs.ListLemmas.{order3}
use Rattle.yr_cert.specs.Tries.{AreNoted}

take_next : {A : Type 0} → (xs : List A) (n : ℕ) (x : A) → slice_get xs n ≡ Some x → take (n + 1) xs ≡ take n xs ++ (x ∷ [])
take_next [] zero x e = cc
take_next [] (suc n) x e = cc
take_next (y ∷ xs) zero x e = let same : y ≡ x = cc in ap (λ z. z ∷ []) same
take_next (y ∷ xs) (suc n) x e =
    let one : suc n + 1 ≡ suc (n + 1) = omega arith in
    ap (λ k. take k (y ∷ xs)) one ∙ ap (λ zs. y ∷ zs) (take_next xs n x e)

times_next : (m t k : ℕ) (xs : List ℕ) → slice_get xs k ≡ Some t → times m (take (k + 1) xs) ≡ times m (take k xs) + times m (t ∷ [])
times_next m t k xs at = ap (times m) (take_next xs k t at) ∙ times-append m (take k xs) (t ∷ [])

once_itself : (m t : ℕ) → m ≡ t → times m (t ∷ []) ≡ 1
once_itself m t e = grind (arith, nat_tests, e)

never_another : (m t : ℕ) → m ≢ t → times m (t ∷ []) ≡ 0
never_another m t other = grind (arith, nat_tests, other)

set_here : {X : Type 0} (notes : List X) (t : ℕ) (old new note : X) → slice_get notes t ≡ Some old → slice_get (slice_set notes t new) t ≡ Some note → new ≡ note
set_here [] t old new note at e = absurd (cc at)
set_here (y ∷ notes) zero old new note at e = cc e
set_here (y ∷ notes) (suc t) old new note at e = set_here notes t old new note at e

set_there : {X : Type 0} (notes : List X) (t m : ℕ) (new note : X) → m ≢ t → slice_get (slice_set notes t new) m ≡ Some note → slice_get notes m ≡ Some note
set_there [] t m new note other e = e
set_there (y ∷ notes) zero zero new note other e = absurd (other refl)
set_there (y ∷ notes) zero (suc m) new note other e = e
set_there (y ∷ notes) (suc t) zero new note other e = e
set_there (y ∷ notes) (suc t) (suc m) new note other e = set_there notes t m new note (λ s. other (ap suc s)) e

-- one number more is noted
pub noted_next : {X : Type 0} (Says : ℕ → ℕ → X → Type 0) (xs : List ℕ) (k t : ℕ) (notes : List X) (old new : X) → AreNoted Says xs k notes
    → slice_get xs k ≡ Some t → slice_get notes t ≡ Some old → ((c : ℕ) → Says t c old → Says t (c + 1) new) → AreNoted Says xs (k + 1) (slice_set notes t new)
noted_next {X} Says xs k t notes old new noted at is more m note here = elim (order3 m t) [
  | inl less ↦ other (λ s. omega (arith, less, s))
  | inr o ↦ elim o [
    | inl same ↦
        let said : Says t (times t (take k xs) + 1) new = more (times t (take k xs)) (noted t old is) in
        let is_new : new ≡ note = set_here notes t old new note is (subst (λ i. slice_get (slice_set notes t new) i ≡ Some note) same here) in
        let count : times m (take (k + 1) xs) ≡ times t (take k xs) + 1 = omega (arith, times_next m t k xs at, once_itself m t same, ap (λ i. times i (take k xs)) same) in
        subst (λ i. Says i (times m (take (k + 1) xs)) note) (sym same) (subst (λ c. Says t c note) (sym count) (subst (λ x. Says t (times t (take k xs) + 1) x) is_new said))
    | inr more_than ↦ other (λ s. omega (arith, more_than, s))
  ]
] where
  other : m ≢ t → Says m (times m (take (k + 1) xs)) note
  other distinct =
      let count : times m (take (k + 1) xs) ≡ times m (take k xs) = omega (arith, times_next m t k xs at, never_another m t distinct) in
      subst (λ c. Says m c note) (sym count) (noted m note (set_there notes t m new note distinct here))

-- what stands everywhere in a list of copies
pub copies : {X : Type 0} (n m : ℕ) (x y : X) → slice_get (replicate n x) m ≡ Some y → x ≡ y
copies zero m x y e = absurd (cc e)
copies (suc n) zero x y e = cc e
copies (suc n) (suc m) x y e = copies n m x y e

-- before the first number nothing has been seen
pub noted_none : {X : Type 0} (Says : ℕ → ℕ → X → Type 0) (xs : List ℕ) (n : ℕ) (x : X) → ((m : ℕ) → Says m 0 x) → AreNoted Says xs 0 (replicate n x)
noted_none Says xs n x says m note at = subst (λ y. Says m 0 y) (copies n m x note at) (says m)

-- all numbers have been seen
pub noted_all : {X : Type 0} (Says : ℕ → ℕ → X → Type 0) (xs : List ℕ) (k : ℕ) (notes : List X) → AreNoted Says xs k notes → length xs ≤ k → (m : ℕ) (note : X) → slice_get notes m ≡ Some note → Says m (times m xs) note
noted_all Says xs k notes noted le m note at = subst (λ c. Says m c note) (ap (times m) (take_all k xs le)) (noted m note at)
