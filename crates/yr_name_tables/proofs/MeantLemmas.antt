-- The numbers of the names that items mean, one after another.
use Rattle.std.proofs.Common.{◌≡◌, ℕ, zero, ◌+◌, ◌<◌, ◌≤◌, Bool, true, false, List, [], ◌∷◌, ◌++◌, length, take, get_or, refl, sym, ap, ◌∙◌, arith, append-nil, All, Result, Ok, Err, Vec, IfOk}
use Rattle.std.proofs.lemmas.List.Elements.{All-cons, All-nil, All-same}
use Rattle.std.specs.Prelude.{if◌then◌else◌}
use Rattle.std.proofs.lemmas.List.{take_more, length-take-le}
use Rattle.yr_name_tables.specs.Names.{Name, is_meant, numbers_meant}
use Rattle.yr_syntax.specs.Condition.{ItemTree}

meant-last : (items : List ItemTree) (k : ℕ) (ns : List Name) (n : Name)
    → numbers_meant items k (ns ++ n ∷ []) ≡ numbers_meant items k ns ++ (if is_meant items n then (k + length ns) ∷ [] else [])
meant-last items k [] n = let same : k ≡ k + zero = omega arith in ap (λ m. if is_meant items n then m ∷ [] else []) same
meant-last items k (x ∷ ns) n =
    let same : k + 1 + length ns ≡ k + length (x ∷ ns) = omega arith in
    by (is_meant items x) (meant-last items (k + 1) ns n ∙ ap (λ m. numbers_meant items (k + 1) ns ++ (if is_meant items n then m ∷ [] else [])) same)
  where
    by : (b : Bool) → numbers_meant items (k + 1) (ns ++ n ∷ []) ≡ numbers_meant items (k + 1) ns ++ (if is_meant items n then (k + length (x ∷ ns)) ∷ [] else [])
        → (if b then k ∷ numbers_meant items (k + 1) (ns ++ n ∷ []) else numbers_meant items (k + 1) (ns ++ n ∷ []))
        ≡ (if b then k ∷ numbers_meant items (k + 1) ns else numbers_meant items (k + 1) ns) ++ (if is_meant items n then (k + length (x ∷ ns)) ∷ [] else [])
    by true e = ap (λ l. k ∷ l) e
    by false e = e

kept-or-not : (b : Bool) (m : ℕ) (met : List ℕ) → (if b then met ++ m ∷ [] else met) ≡ met ++ (if b then m ∷ [] else [])
kept-or-not true m met = refl
kept-or-not false m met = sym (append-nil met)

pub met-step : (items : List ItemTree) (all : List Name) (i : ℕ) (x : Name) (b : Bool) (met new : List ℕ) → i < length all → x ≡ get_or all i x → b ≡ is_meant items x
    → new ≡ (if b then met ++ i ∷ [] else met) → met ≡ numbers_meant items 0 (take i all) → new ≡ numbers_meant items 0 (take (i + 1) all)
met-step items all i x b met new h is t e m =
    let place : i ≡ 0 + length (take i all) = omega (arith, length-take-le i all (omega arith)) in
    e ∙ kept-or-not b i met
    ∙ ap (λ l. l ++ (if b then i ∷ [] else [])) m
    ∙ ap (λ c. numbers_meant items 0 (take i all) ++ (if c then i ∷ [] else [])) t
    ∙ ap (λ k. numbers_meant items 0 (take i all) ++ (if is_meant items x then k ∷ [] else [])) place
    ∙ sym (meant-last items 0 (take i all) x)
    ∙ ap (λ y. numbers_meant items 0 (take i all ++ y ∷ [])) is
    ∙ ap (numbers_meant items 0) (sym (take_more all i x h))

-- what was chosen
pub then-in : {A : Type 0} (b : Bool) (x y z : A) → b ≡ true → x ≡ y → x ≡ (if b then y else z)
then-in b x y z e f = f ∙ sym (ap (λ c. if c then y else z) e)

pub else-in : {A : Type 0} (b : Bool) (x y z : A) → b ≡ false → x ≡ z → x ≡ (if b then y else z)
else-in b x y z e f = f ∙ sym (ap (λ c. if c then y else z) e)

all-within : (items : List ItemTree) (k m : ℕ) (ns : List Name) → k + length ns ≤ m → All (λ n. n < m) (numbers_meant items k ns)
all-within items k m [] h = All-nil (λ n. n < m)
all-within items k m (n ∷ ns) h = by (is_meant items n) (all-within items (k + 1) m ns (omega arith))
  where
    by : (b : Bool) → All (λ n. n < m) (numbers_meant items (k + 1) ns) → All (λ n. n < m) (if b then k ∷ numbers_meant items (k + 1) ns else numbers_meant items (k + 1) ns)
    by true rest = All-cons (λ n. n < m) k (numbers_meant items (k + 1) ns) (omega arith) rest
    by false rest = rest

-- they are numbers of names
pub met-within : {Z E : Type 0} (items : List ItemTree) (ns : List Name) (r : Result (Vec ℕ Z) E) → IfOk r (λ met. met.items ≡ numbers_meant items 0 ns) → IfOk r (λ met. All (λ n. n < length ns) met.items)
met-within items ns (Ok met) h = All-same (λ n. n < length ns) met.items (numbers_meant items 0 ns) h (all-within items 0 (length ns) ns (omega arith))
met-within items ns (Err e) h = tt
