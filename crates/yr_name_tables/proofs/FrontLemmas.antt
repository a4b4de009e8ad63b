-- A name begins with a front where one of its beginnings is the front.
use Rattle.std.proofs.Common.{◌≡◌, ℕ, ◌<◌, ◌≤◌, ◌||◌, Bool, true, false, List, [], ◌∷◌, length, take, min, refl, sym, ap, ◌∙◌, arith, nat_lt}
use Rattle.std.specs.Str.{bytes_eq}
use Rattle.std.specs.Cmp.Lexicographic.{bytes_decides}
use Rattle.std.proofs.lemmas.Bool.{ltb-true, ltb-false}
use Rattle.std.proofs.lemmas.List.{length-take, take_min, take_all}
use Rattle.yr_name_tables.specs.Names.{Name, has, begins, has_front}

or-right : (a b : Bool) → b ≡ true → (a || b) ≡ true
or-right true b e = refl
or-right false b e = e

-- ---- a beginning of the name is the front

begins-taken : (f n : Name) (k : ℕ) → bytes_eq (take k n) f ≡ true → begins f n ≡ true
begins-taken f n k e =
    let same = (bytes_decides (take k n) f).0 e in
    let size : length f ≡ min k (length n) = ap length (sym same) ∙ length-take k n in
    let taken : take (length f) n ≡ f = ap (λ i. take i n) size ∙ take_min k n ∙ same in
    (bytes_decides f (take (length f) n)).1 (sym taken)

pub front_there : (fronts : List Name) (n : Name) (k : ℕ) → has (take k n) fronts ≡ true → has_front fronts n ≡ true
unfolding has_front
front_there [] n k e = absurd cc
front_there (f ∷ fronts) n k e = by (bytes_eq (take k n) f) refl (front_there fronts n k) e
  where
    by : (b : Bool) → bytes_eq (take k n) f ≡ b → (has (take k n) fronts ≡ true → has_front fronts n ≡ true) → (b || has (take k n) fronts) ≡ true → (begins f n || has_front fronts n) ≡ true
    by true is later h = ap (λ b. b || has_front fronts n) (begins-taken f n k is)
    by false is later h = or-right (begins f n) (has_front fronts n) (later h)

-- ---- no beginning of the name is the front

or-false-left : (a b : Bool) → (a || b) ≡ false → a ≡ false
or-false-left true b e = absurd cc
or-false-left false b e = refl

or-false-right : (a b : Bool) → (a || b) ≡ false → b ≡ false
or-false-right true b e = absurd cc
or-false-right false b e = e

not-begun : (f n : Name) → ((k : ℕ) → k < length n → bytes_eq (take k n) f ≡ false) → bytes_eq n f ≡ false → begins f n ≡ false
not-begun f n shorter whole = by (begins f n) refl
  where
    by : (b : Bool) → begins f n ≡ b → b ≡ false
    by false e = refl
    by true e = within (nat_lt (length f) (length n)) refl
      where
        same : f ≡ take (length f) n
        same = (bytes_decides f (take (length f) n)).0 e

        within : (b : Bool) → nat_lt (length f) (length n) ≡ b → true ≡ false
        within true h = sym ((bytes_decides (take (length f) n) f).1 (sym same)) ∙ shorter (length f) (ltb-true (length f) (length n) h)
        within false h = sym ((bytes_decides n f).1 (sym (take_all (length f) n (ltb-false (length f) (length n) h)) ∙ sym same)) ∙ whole

pub no_front : (fronts : List Name) (n : Name) → ((k : ℕ) → k < length n → has (take k n) fronts ≡ false) → has n fronts ≡ false → has_front fronts n ≡ false
unfolding has_front
no_front [] n shorter whole = refl
no_front (f ∷ fronts) n shorter whole =
    let first = not-begun f n (λ k h. or-false-left (bytes_eq (take k n) f) (has (take k n) fronts) (shorter k h)) (or-false-left (bytes_eq n f) (has n fronts) whole) in
    let others = no_front fronts n (λ k h. or-false-right (bytes_eq (take k n) f) (has (take k n) fronts) (shorter k h)) (or-false-right (bytes_eq n f) (has n fronts) whole) in
    ap (λ b. b || has_front fronts n) first ∙ others

pub last_front : (fronts : List Name) (n : Name) (size : ℕ) (r : Bool) → ((k : ℕ) → k < size → has (take k n) fronts ≡ false) → length n ≤ size → r ≡ has n fronts → r ≡ has_front fronts n
last_front fronts n size r shorter whole e = by (has n fronts) refl
  where
    by : (b : Bool) → has n fronts ≡ b → r ≡ has_front fronts n
    by true h = e ∙ h ∙ sym (front_there fronts n (length n) (ap (λ m. has m fronts) (take_all (length n) n (omega arith)) ∙ h))
    by false h = e ∙ h ∙ sym (no_front fronts n (λ k below. shorter k (omega arith)) h)
