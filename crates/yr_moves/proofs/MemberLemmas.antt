-- Members of sets of moves, and what joins them.
use Rattle.std.proofs.Common.{◌≡◌, ℕ, zero, suc, ◌<◌, ◌≤◌, ◌⊎◌, inl, inr, List, [], ◌∷◌, ◌++◌, length, Some, Contains, refl, sym, ap, ◌∙◌, subst, arith, append_assoc}
use Rattle.std.specs.Prelude.{slice_get, ◌==◌, Bool, true, false}
use Rattle.std.proofs.lemmas.Bool.Decides.{nat_tests}
use Rattle.std.proofs.lemmas.List.{append-nil, length-append}
use Rattle.std.proofs.lemmas.List.Elements.{Contains-append_left, Contains-push, Contains-push_cases}
use Rattle.std.proofs.lemmas.Option.{slice_get-get_or}
use Rattle.yr_moves.specs.Passes.{Extends}

-- the move is a member, and nothing else joined
abbrev pub Joins : List ℕ → List ℕ → ℕ → Type 0
Joins old new m = (Contains old m × (new ≡ old)) ⊎ (new ≡ old ++ m ∷ [])

pub extends_same : (xs : List ℕ) → Extends xs xs
extends_same xs = ([], sym (append-nil xs))

pub extends_trans : (xs ys zs : List ℕ) → Extends xs ys → Extends ys zs → Extends xs zs
extends_trans xs ys zs p q = (p.0 ++ q.0, q.1 ∙ ap (λ l. l ++ q.0) p.1 ∙ append_assoc xs p.0 q.0)

pub extends_has : (xs ys : List ℕ) (x : ℕ) → Extends xs ys → Contains xs x → Contains ys x
extends_has xs ys x p h = let C : List ℕ → Type 0 = λ l. Contains l x in subst C (sym p.1) (Contains-append_left xs p.0 x h)

pub extends_length : (xs ys : List ℕ) → Extends xs ys → length xs ≤ length ys
extends_length xs ys p = omega (arith, ap length p.1, length-append xs p.0)

pub joins_extends : (xs ys : List ℕ) (m : ℕ) → Joins xs ys m → Extends xs ys
joins_extends xs ys m (inl h) = ([], h.1 ∙ sym (append-nil xs))
joins_extends xs ys m (inr h) = (m ∷ [], h)

pub joins_has : (xs ys : List ℕ) (m : ℕ) → Joins xs ys m → Contains ys m
joins_has xs ys m (inl h) = let C : List ℕ → Type 0 = λ l. Contains l m in subst C (sym h.1) h.0
joins_has xs ys m (inr h) = let C : List ℕ → Type 0 = λ l. Contains l m in subst C (sym h) (Contains-push xs m)

pub joins_only : (xs ys : List ℕ) (m x : ℕ) → Joins xs ys m → Contains ys x → Contains xs x ⊎ (m ≡ x)
joins_only xs ys m x (inl h) c = let C : List ℕ → Type 0 = λ l. Contains l x in inl (subst C h.1 c)
joins_only xs ys m x (inr h) c = let C : List ℕ → Type 0 = λ l. Contains l x in Contains-push_cases xs m x (subst C h c)

get_front : (xs ys : List ℕ) (q : ℕ) → q < length xs → slice_get (xs ++ ys) q ≡ slice_get xs q
get_front [] ys q h = absurd (omega arith)
get_front (x ∷ xs) ys zero h = refl
get_front (x ∷ xs) ys (suc q) h = get_front xs ys q (omega arith)

pub get_extended : (xs ys : List ℕ) (q x : ℕ) → Extends xs ys → q < length xs → slice_get ys q ≡ Some x → slice_get xs q ≡ Some x
get_extended xs ys q x p h e = sym (get_front xs p.0 q h) ∙ ap (λ l. slice_get l q) (sym p.1) ∙ e

pub get_member : (xs : List ℕ) (x : ℕ) (h : Contains xs x) → slice_get xs h.0 ≡ Some x
get_member xs x h = slice_get-get_or xs h.0 x h.1 ∙ ap Some h.2

pub member_get : (xs : List ℕ) (q x : ℕ) → slice_get xs q ≡ Some x → Contains xs x
member_get [] q x e = cc
member_get (y ∷ ys) zero x e = (0, omega arith, cc)
member_get (y ∷ ys) (suc q) x e = let c = member_get ys q x e in (suc c.0, omega (arith, c.1), c.2)

-- a list that is empty has no member, and one that is not has some
pub no_member : (xs : List ℕ) (x : ℕ) → length xs ≡ 0 → Contains xs x → ⊥
no_member xs x e c = omega (arith, c.1, e)

pub is_empty : (n : ℕ) (b : Bool) → b ≡ (n == 0) → b ≡ true → n ≡ 0
is_empty n b e t = grind (arith, nat_tests)

pub not_empty : (n : ℕ) (b : Bool) → b ≡ (n == 0) → b ≡ false → 0 < n
not_empty zero b e f = let wrong : true ≡ false = sym e ∙ f in cc wrong
not_empty (suc n) b e f = omega arith

-- one more member, move 0
pub first_below : (now now' : List ℕ) (n : ℕ) → ((x : ℕ) → Contains now x → x < n) → Joins now now' 0 → 0 < n → ((x : ℕ) → Contains now' x → x < n) × (0 < length now')
first_below now now' n below j some = (
  λ x c. elim (joins_only now now' 0 x j c) [ inl c0 ↦ below x c0 | inr e ↦ omega (arith, e, some) ],
  let c = joins_has now now' 0 j in omega (arith, c.1),
)
