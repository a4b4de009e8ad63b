-- What a step that read something had read.
use Rattle.std.proofs.Common.{◌≡◌, ℕ, Bool, true, false, [], ◌∷◌, Option, Some, None, if◌then◌else◌, refl, sym, ap, ◌∙◌, ◌⊎◌, inl, inr}
use Rattle.std.proofs.lemmas.Bool.{eqb-true, ne_eqb}
use Rattle.yr_hex.specs.Gaps.{Text}
use Rattle.yr_hex.specs.Reading.{Outcome, and_then, sees, tail, after, expect}
use Rattle.yr_hex.proofs.StepLemmas.{if_true, if_false}

pub bind-some : {A B : Type 0} (o : Outcome A) (f : A → Text → Outcome B) (y : B × Text) → and_then o f ≡ Some y
    → (x : A × Text) × (o ≡ Some x) × (f x.0 x.1 ≡ Some y)
bind-some (Some x) f y e = (x, refl, e)
bind-some None f y e = absurd cc

pub some_is : {A : Type 0} (x y : A) → ◌≡◌ {A = Option A} (Some x) (Some y) → x ≡ y
some_is x y e = cc

pub chosen : {A : Type 0} (b : Bool) (x y z : A) → (if b then x else y) ≡ z → ((b ≡ true) × (x ≡ z)) ⊎ ((b ≡ false) × (y ≡ z))
chosen true x y z e = inl (refl, e)
chosen false x y z e = inr (refl, e)

pub guarded : {A : Type 0} (b : Bool) (x : Option A) (y : A) → (if b then x else None) ≡ Some y → (b ≡ true) × (x ≡ Some y)
guarded true x y e = (refl, e)
guarded false x y e = absurd cc

pub unless : {A : Type 0} (b : Bool) (x : Option A) (y : A) → (if b then None else x) ≡ Some y → (b ≡ false) × (x ≡ Some y)
unless false x y e = (refl, e)
unless true x y e = absurd cc

pub sees-true : (b : ℕ) (t : Text) → sees b t ≡ true → t ≡ b ∷ tail t
unfolding sees
sees-true b [] h = absurd cc
sees-true b (c ∷ t) h = ap (λ (x : ℕ). x ∷ t) (eqb-true c b h)

pub after-true : (b : ℕ) (t : Text) → sees b t ≡ true → t ≡ b ∷ after b t
unfolding after
after-true b t h = sees-true b t h ∙ ap (λ (u : Text). b ∷ u) (sym (if_true (sees b t) (tail t) t h))

pub after-false : (b : ℕ) (t : Text) → sees b t ≡ false → after b t ≡ t
unfolding after
after-false b t h = if_false (sees b t) (tail t) t h

pub sees-other : (b c : ℕ) (t : Text) → (c ≡ b → ⊥) → sees b (c ∷ t) ≡ false
unfolding sees
sees-other b c t n = ne_eqb c b n

pub expect-some : (b : ℕ) (t : Text) (x : Unit {0} × Text) → expect b t ≡ Some x → t ≡ b ∷ x.1
unfolding expect
expect-some b t x e =
    let h = guarded (sees b t) (Some (tt, tail t)) x e in
    sees-true b t h.0 ∙ ap (λ (y : Unit {0} × Text). b ∷ y.1) (some_is (tt, tail t) x h.1)
