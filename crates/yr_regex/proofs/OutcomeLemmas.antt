-- What a step that read something had read.
use Rattle.std.proofs.Common.{◌≡◌, ℕ, Bool, true, false, [], ◌∷◌, Option, Some, None, if◌then◌else◌, refl, sym, ap, subst, ◌∙◌, ◌⊎◌, inl, inr}
use Rattle.std.proofs.lemmas.Bool.{eqb-true, ne_eqb}
use Rattle.yr_regex.specs.Escapes.{Text}
use Rattle.yr_regex.specs.Reading.{Outcome, and_then, or_else, mapped, with_rest, sees, tail, after}
use Rattle.yr_regex.proofs.StepLemmas.{if_true, if_false}

pub bind-some : {A B : Type 0} (o : Outcome A) (f : A → Text → Outcome B) (y : B × Text) → and_then o f ≡ Some y
    → (x : A × Text) × (o ≡ Some x) × (f x.0 x.1 ≡ Some y)
bind-some (Some x) f y e = (x, refl, e)
bind-some None f y e = absurd cc

pub some_is : {A : Type 0} (x y : A) → ◌≡◌ {A = Option A} (Some x) (Some y) → x ≡ y
some_is x y e = cc

pub mapped-some : {A B : Type 0} (f : A → B) (o : Outcome A) (y : B × Text) → mapped f o ≡ Some y
    → (a : A) × (o ≡ Some (a, y.1)) × (f a ≡ y.0)
mapped-some {B = B} f (Some x) y e =
    let s = some_is (f x.0, x.1) y e in
    (x.0, ap (λ (z : B × Text). Some (x.0, z.1)) s, ap (λ (z : B × Text). z.0) s)
mapped-some f None y e = absurd cc

pub or-some : {A : Type 0} (o other : Outcome A) (y : A × Text) → or_else o other ≡ Some y → (o ≡ Some y) ⊎ ((o ≡ None) × (other ≡ Some y))
or-some (Some x) other y e = inl e
or-some None other y e = inr (refl, e)

pub rest-some : {A : Type 0} (o : Option A) (t : Text) (y : A × Text) → with_rest o t ≡ Some y → (o ≡ Some y.0) × (t ≡ y.1)
rest-some {A = A} (Some a) t y e = let s = some_is (a, t) y e in (ap (λ (z : A × Text). Some z.0) s, ap (λ (z : A × Text). z.1) s)
rest-some None t y e = absurd cc

pub chosen : {A : Type 0} (b : Bool) (x y z : A) → (if b then x else y) ≡ z → ((b ≡ true) × (x ≡ z)) ⊎ ((b ≡ false) × (y ≡ z))
chosen true x y z e = inl (refl, e)
chosen false x y z e = inr (refl, e)

pub guarded : {A : Type 0} (b : Bool) (x : Option A) (y : A) → (if b then x else None) ≡ Some y → (b ≡ true) × (x ≡ Some y)
guarded true x y e = (refl, e)
guarded false x y e = absurd cc

pub unless : {A : Type 0} (b : Bool) (x : Option A) (y : A) → (if b then None else x) ≡ Some y → (b ≡ false) × (x ≡ Some y)
unless false x y e = (refl, e)
unless true x y e = absurd cc

pub sees-true : (b : ℕ) (t : Text) → sees b t ≡ true → t ≡ b ∷ tail t
unfolding sees
sees-true b [] h = absurd cc
sees-true b (c ∷ t) h = ap (λ (x : ℕ). x ∷ t) (eqb-true c b h)

pub after-true : (b : ℕ) (t : Text) → sees b t ≡ true → t ≡ b ∷ after b t
unfolding after
after-true b t h = sees-true b t h ∙ ap (λ (u : Text). b ∷ u) (sym (if_true (sees b t) (tail t) t h))

pub after-false : (b : ℕ) (t : Text) → sees b t ≡ false → after b t ≡ t
unfolding after
after-false b t h = if_false (sees b t) (tail t) t h

pub sees-other : (b c : ℕ) (t : Text) → (c ≡ b → ⊥) → sees b (c ∷ t) ≡ false
unfolding sees
sees-other b c t n = ne_eqb c b n

pub moved : {A : Type 0} (R : A → Text → Type 0) (a : A) (t : Text) (x : A × Text) → ◌≡◌ {A = Outcome A} (Some (a, t)) (Some x) → R a t → R x.0 x.1
moved R a t x e r = subst (λ y. R y.0 y.1) (some_is (a, t) x e) r
