-- Members that stand in list rows, and how many of them hold.
use Rattle.std.proofs.Common.{◌≡◌, ℕ, zero, suc, ◌+◌, ◌<◌, ◌≤◌, Bool, true, false, cond, List, [], ◌∷◌, ◌++◌, length, map, take, drop, get_or, Option, Some, None, refl, sym, ap, ◌∙◌, subst, arith, eqb, length-append, if◌then◌else◌}
use Rattle.std.specs.Prelude.{nat_le, nat_lt, ◌&&◌, ◌||◌, ◌==◌, slice_get, filter}
use Rattle.std.specs.List.{list_all}
use Rattle.std.proofs.lemmas.Bool.Decides.{nat_tests}
use Rattle.std.proofs.lemmas.Option.{slice_get_within, get_or_from_slice_get}
use Rattle.std.proofs.lemmas.List.{take_more, map-append}
use Rattle.std.proofs.lemmas.List.Elements.{filter-append}
use Rattle.yr_machine.specs.Named.{all_below}
use Rattle.yr_answer.specs.Turns.{found_in}
use Rattle.yr_vm.specs.Members.{members_in, are_there}

both-true : (a b : Bool) → (a && b) ≡ true → (a ≡ true) × (b ≡ true)
both-true true b e = (refl, e)
both-true false b e = cc

other-true : (a b : Bool) → (a || b) ≡ true → a ≡ false → b ≡ true
other-true true b e f = cc
other-true false b e f = e

some-rows : (rows : ℕ) → 0 < rows → (rows == 0) ≡ false
some-rows rows lt = grind (arith, nat_tests)

fits-at : (a b : ℕ) → nat_le a b ≡ true → a ≤ b
fits-at a b e = grind (arith, nat_tests)

less-at : (a b : ℕ) → nat_lt a b ≡ true → a < b
less-at a b e = grind (arith, nat_tests)

take-get : {A : Type 0} → (xs : List A) (rows k : ℕ) → k < rows → slice_get (take rows xs) k ≡ slice_get xs k
take-get xs zero k lt = absurd (omega arith)
take-get [] (suc rows) k lt = refl
take-get (x ∷ xs) (suc rows) zero lt = refl
take-get (x ∷ xs) (suc rows) (suc k) lt = take-get xs rows k (omega (arith, lt))

drop-get : {A : Type 0} → (xs : List A) (first k : ℕ) → slice_get (drop first xs) k ≡ slice_get xs (first + k)
drop-get {A = A} xs zero k = let same : zero + k ≡ k = omega arith in drop-none xs ∙ ap (slice_get xs) (sym same)
  where
    drop-none : (ys : List A) → slice_get (drop zero ys) k ≡ slice_get ys k
    drop-none [] = refl
    drop-none (y ∷ ys) = refl
drop-get [] (suc first) k = refl
drop-get (x ∷ xs) (suc first) k =
    let one : suc first + k ≡ suc (first + k) = omega arith in drop-get xs first k ∙ ap (slice_get (x ∷ xs)) (sym one)

pub window-get : {A : Type 0} → (xs : List A) (first rows k : ℕ) → k < rows → slice_get (take rows (drop first xs)) k ≡ slice_get xs (first + k)
window-get xs first rows k lt = take-get (drop first xs) rows k lt ∙ drop-get xs first k

all-get : {A : Type 0} → (p : A → Bool) (xs : List A) (k : ℕ) (x : A) → list_all p xs ≡ true → slice_get xs k ≡ Some x → p x ≡ true
all-get p [] k x a e = cc
all-get p (y ∷ xs) zero x a e = let same : y ≡ x = cc in ap p (sym same) ∙ (both-true (p y) (list_all p xs) a).0
all-get p (y ∷ xs) (suc k) x a e = all-get p xs k x (both-true (p y) (list_all p xs) a).1 e

module _ (lists : List ℕ) (first rows bound : ℕ) where
  parts : are_there lists first rows bound ≡ true → 0 < rows → (first + rows ≤ length lists) × (all_below bound (members_in lists first rows) ≡ true)
  parts e lt =
      let b = other-true (rows == 0) (nat_le (first + rows) (length lists) && all_below bound (members_in lists first rows)) e (some-rows rows lt) in
      let h = both-true (nat_le (first + rows) (length lists)) (all_below bound (members_in lists first rows)) b in
      (fits-at (first + rows) (length lists) h.0, h.1)

  -- their rows are there
  pub rows-there : are_there lists first rows bound ≡ true → 0 < rows → first + rows ≤ length lists
  rows-there e lt = (parts e lt).0

  pub member-below : (k m : ℕ) → are_there lists first rows bound ≡ true → k < rows → slice_get (members_in lists first rows) k ≡ Some m → m < bound
  member-below k m e lt is =
      less-at m bound (all-get (λ x. nat_lt x bound) (members_in lists first rows) k m (parts e (omega (arith, lt))).1 is)

-- how many of the first members hold
module _ (holds : ℕ → Bool) (members : List ℕ) where
  abbrev pub found_to : ℕ → ℕ
  found_to k = found_in (map holds (take k members))

  found-one : (b : Bool) (n : ℕ) → n + length (filter (λ x. x) (b ∷ [])) ≡ (if b then n + 1 else n)
  found-one true n = refl
  found-one false n = omega arith

  found-more : (k m : ℕ) → slice_get members k ≡ Some m → found_to (k + 1) ≡ (if holds m then found_to k + 1 else found_to k)
  found-more k m e =
      let inside = slice_get_within members k m e in
      let more : take (k + 1) members ≡ take k members ++ m ∷ [] =
      take_more members k m inside ∙ ap (λ x. take k members ++ x ∷ []) (get_or_from_slice_get members k m m e) in
      ap (λ ms. found_in (map holds ms)) more
      ∙ ap found_in (map-append holds (take k members) (m ∷ []))
      ∙ ap length (filter-append (λ b. b) (map holds (take k members)) (holds m ∷ []))
      ∙ length-append (filter (λ b. b) (map holds (take k members))) (filter (λ b. b) (holds m ∷ []))
      ∙ found-one (holds m) (found_to k)

  pub found-yes : (k m found : ℕ) → slice_get members k ≡ Some m → holds m ≡ true → found ≡ found_to k → found + 1 ≡ found_to (k + 1)
  found-yes k m found e h f =
      ap (λ n. n + 1) f ∙ sym (found-more k m e ∙ ap (λ b. if b then found_to k + 1 else found_to k) h)

  pub found-no : (k m found : ℕ) → slice_get members k ≡ Some m → holds m ≡ false → found ≡ found_to k → found ≡ found_to (k + 1)
  found-no k m found e h f = f ∙ sym (found-more k m e ∙ ap (λ b. if b then found_to k + 1 else found_to k) h)

-- all of so many rows
pub found-all : (holds : ℕ → Bool) (lists : List ℕ) (first rows : ℕ) →
    found_to holds (members_in lists first rows) rows ≡ found_in (map holds (members_in lists first rows))
found-all holds lists first rows = ap (λ ms. found_in (map holds ms)) (take-twice rows (drop first lists))
  where
    take-twice : (n : ℕ) (xs : List ℕ) → take n (take n xs) ≡ take n xs
    take-twice zero [] = refl
    take-twice zero (x ∷ xs) = refl
    take-twice (suc n) [] = refl
    take-twice (suc n) (x ∷ xs) = ap (λ ys. x ∷ ys) (take-twice n xs)
