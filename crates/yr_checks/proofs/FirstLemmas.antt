-- The first refusal is the least one.
use Rattle.std.proofs.Common.{◌≡◌, ℕ, zero, suc, ◌+◌, ◌<◌, List, [], ◌∷◌, refl, sym, ap, ◌∙◌, arith, Some, None, Option, Ok, Err}
use Rattle.std.specs.Prelude.{slice_get}
use Rattle.std.specs.Option.{option_or}
use Rattle.yr_checks.specs.declared.check.Check.{Check}
use Rattle.yr_checks.specs.declared.check.Check.TheVariants as check
use Rattle.yr_name_tables.specs.Names.{first}
use Rattle.yr_checks.specs.Sources.{Place, UnitTree, places, items_of}
use Rattle.yr_rules.specs.Rules.{PlainRules}
use Rattle.yr_checks.specs.Given.{Given}
use Rattle.yr_checks.specs.Checked.{checked_rules}
use Rattle.yr_checks.specs.Refusals.{PlainRefusal, order, checks, fault, place_fault, first_fault, answer, resolved, IsRefused, IsPassed}

some-inj : {A : Type 0} {a b : A} → Some a ≡ Some b → a ≡ b
some-inj e = cc

-- where the first answer stands
record Stands {A B : Type 0} (f : A → Option B) (xs : List A) (y : B) : Type 0 where
  place : ℕ
  item : A
  there : slice_get xs place ≡ Some item
  gives : f item ≡ Some y
  earlier : (k : ℕ) (x : A) → k < place → slice_get xs k ≡ Some x → f x ≡ None

-- an answer among the later ones, with none before them
later : {A B : Type 0} (f : A → Option B) (x : A) (xs : List A) (y : B) → f x ≡ None → Stands f xs y → Stands f (x ∷ xs) y
later f x xs y none s = record { place = suc s.place; item = s.item; there = s.there; gives = s.gives; earlier = before }
  where
    before : (k : ℕ) (z : _) → k < suc s.place → slice_get (x ∷ xs) k ≡ Some z → f z ≡ None
    before zero z h e = ap f (sym (some-inj e)) ∙ none
    before (suc k) z h e = s.earlier k z (omega arith) e

first-stands : {A B : Type 0} (f : A → Option B) (xs : List A) (y : B) → first f xs ≡ Some y → Stands f xs y
first-stands f [] y e = absurd cc
first-stands {A} {B} f (x ∷ xs) y e = by (f x) refl (λ h. first-stands f xs y h)
  where
    by : (o : Option B) → f x ≡ o → (first f xs ≡ Some y → Stands f xs y) → Stands f (x ∷ xs) y
    by None h rest = later f x xs y h (rest (ap (λ r. option_or r (first f xs)) (sym h) ∙ e))
    by (Some z) h rest = record { place = 0; item = x; there = refl; gives = h ∙ ap (λ r. option_or r (first f xs)) (sym h) ∙ e; earlier = λ k z less. absurd (omega arith) }

first-none : {A B : Type 0} (f : A → Option B) (xs : List A) → first f xs ≡ None → (k : ℕ) (x : A) → slice_get xs k ≡ Some x → f x ≡ None
first-none f [] e k x there = absurd cc
first-none {A} {B} f (y ∷ ys) e k x there = by (f y) refl k there (λ h m. first-none f ys h m x)
  where
    by : (o : Option B) → f y ≡ o → (k : ℕ) → slice_get (y ∷ ys) k ≡ Some x → (first f ys ≡ None → (m : ℕ) → slice_get ys m ≡ Some x → f x ≡ None) → f x ≡ None
    by None h zero g rest = ap f (sym (some-inj g)) ∙ h
    by None h (suc m) g rest = rest (ap (λ r. option_or r (first f ys)) (sym h) ∙ e) m g
    by (Some z) h m g rest = let n = ap (λ r. option_or r (first f ys)) (sym h) ∙ e in absurd cc

-- a check's number is one more than its place among them
number-at : (k : ℕ) (c : Check) → slice_get checks k ≡ Some c → order c ≡ k + 1
number-at zero c e = sym (ap order (some-inj e))
number-at (suc zero) c e = sym (ap order (some-inj e))
number-at (suc (suc zero)) c e = sym (ap order (some-inj e))
number-at (suc (suc (suc zero))) c e = sym (ap order (some-inj e))
number-at (suc (suc (suc (suc zero)))) c e = sym (ap order (some-inj e))
number-at (suc (suc (suc (suc (suc zero))))) c e = sym (ap order (some-inj e))
number-at (suc (suc (suc (suc (suc (suc zero)))))) c e = sym (ap order (some-inj e))
number-at (suc (suc (suc (suc (suc (suc (suc zero))))))) c e = sym (ap order (some-inj e))
number-at (suc (suc (suc (suc (suc (suc (suc (suc zero)))))))) c e = sym (ap order (some-inj e))
number-at (suc (suc (suc (suc (suc (suc (suc (suc (suc zero))))))))) c e = sym (ap order (some-inj e))
number-at (suc (suc (suc (suc (suc (suc (suc (suc (suc (suc zero)))))))))) c e = sym (ap order (some-inj e))
number-at (suc (suc (suc (suc (suc (suc (suc (suc (suc (suc (suc zero))))))))))) c e = sym (ap order (some-inj e))
number-at (suc (suc (suc (suc (suc (suc (suc (suc (suc (suc (suc (suc zero)))))))))))) c e = sym (ap order (some-inj e))
number-at (suc (suc (suc (suc (suc (suc (suc (suc (suc (suc (suc (suc (suc zero))))))))))))) c e = sym (ap order (some-inj e))
number-at (suc (suc (suc (suc (suc (suc (suc (suc (suc (suc (suc (suc (suc (suc zero)))))))))))))) c e = sym (ap order (some-inj e))
number-at (suc (suc (suc (suc (suc (suc (suc (suc (suc (suc (suc (suc (suc (suc (suc zero))))))))))))))) c e = sym (ap order (some-inj e))
number-at (suc (suc (suc (suc (suc (suc (suc (suc (suc (suc (suc (suc (suc (suc (suc (suc zero)))))))))))))))) c e = sym (ap order (some-inj e))
number-at (suc (suc (suc (suc (suc (suc (suc (suc (suc (suc (suc (suc (suc (suc (suc (suc (suc zero))))))))))))))))) c e = sym (ap order (some-inj e))
number-at (suc (suc (suc (suc (suc (suc (suc (suc (suc (suc (suc (suc (suc (suc (suc (suc (suc (suc k)))))))))))))))))) c e = absurd cc

check-at : (c : Check) → (k : ℕ) × (k + 1 ≡ order c) × (slice_get checks k ≡ Some c)
check-at check.Imports = (0, refl, refl)
check-at check.RuleName = (1, refl, refl)
check-at check.RuleWildcards = (2, refl, refl)
check-at check.Tags = (3, refl, refl)
check-at check.StringNames = (4, refl, refl)
check-at check.Texts = (5, refl, refl)
check-at check.Modifiers = (6, refl, refl)
check-at check.HexStrings = (7, refl, refl)
check-at check.Expressions = (8, refl, refl)
check-at check.Sizes = (9, refl, refl)
check-at check.StringsUsed = (10, refl, refl)
check-at check.NamesUsed = (11, refl, refl)
check-at check.Kinds = (12, refl, refl)
check-at check.UnusedStrings = (13, refl, refl)
check-at check.LoopDepth = (14, refl, refl)
check-at check.ListLength = (15, refl, refl)
check-at check.Counts = (16, refl, refl)
check-at check.Weight = (17, refl, refl)

-- no check fails at a place without a fault
place-passes : (given : Given) (place : Place) → place_fault given place ≡ None → (c : Check) → fault given place c ≡ None
place-passes given place e c = let a = check-at c in first-none (fault given place) checks e a.0 c a.2

least-check : (given : Given) (place : Place) (r : PlainRefusal) (s : Stands (fault given place) checks r) (c : Check) → order c < order s.item → fault given place c ≡ None
least-check given place r s c h =
    let a = check-at c in
    let b : order s.item ≡ s.place + 1 = number-at s.place s.item s.there in
    let d : a.0 + 1 ≡ order c = a.1 in
    s.earlier a.0 c (omega arith) a.2

first-refused : (given : Given) (units : List UnitTree) (r : PlainRefusal) → first_fault given units ≡ Some r → IsRefused given units r
first-refused given units r e =
    let s = first-stands (place_fault given) (places (items_of units)) r e in
    let t = first-stands (fault given s.item) checks r s.gives in
    record {
      number = s.place;
      place = s.item;
      check = t.item;
      there = s.there;
      fails = t.gives;
      least_check = least-check given s.item r t;
      least_place = λ k earlier c less there. place-passes given earlier (s.earlier k earlier less there) c;
    }

first-passed : (given : Given) (units : List UnitTree) → first_fault given units ≡ None → IsPassed given units
first-passed given units e k place c there = place-passes given place (first-none (place_fault given) (places (items_of units)) e k place there) c

answer-err : (rules : PlainRules) (o : Option PlainRefusal) (r : PlainRefusal) → answer rules o ≡ Err r → o ≡ Some r
answer-err rules None r e = absurd cc
answer-err rules (Some x) r e = cc

answer-ok : (rules checked : PlainRules) (o : Option PlainRefusal) → answer rules o ≡ Ok checked → (o ≡ None) × (checked ≡ rules)
answer-ok rules checked None e = (refl, cc)
answer-ok rules checked (Some x) e = absurd cc

pub resolved-err : (given : Given) (units : List UnitTree) (r : PlainRefusal) → resolved given units ≡ Err r → IsRefused given units r
resolved-err given units r e = first-refused given units r (answer-err (checked_rules given (items_of units)) (first_fault given units) r e)

pub resolved-ok : (given : Given) (units : List UnitTree) (rules : PlainRules) → resolved given units ≡ Ok rules → IsPassed given units × (rules ≡ checked_rules given (items_of units))
resolved-ok given units rules e =
    let a = answer-ok (checked_rules given (items_of units)) rules (first_fault given units) e in
    (first-passed given units a.0, a.1)
