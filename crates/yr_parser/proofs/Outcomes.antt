-- What a step that read something had read.
use Rattle.std.proofs.Common.{◌≡◌, ℕ, zero, suc, Bool, true, false, List, [], ◌∷◌, Option, Some, None, if◌then◌else◌, refl, sym, subst, ap, ◌∙◌, ◌⊎◌, inl, inr, ⊎_elim}
use denote.Enum.Bare.{same_true, true_same}
use Rattle.yr_parser.specs.contracts.sign.Sign.{the_type}
use Rattle.yr_syntax.specs.contracts.operator.Infix.{the_type as infix_type}
use Rattle.yr_parser.specs.contracts.level.Level.{the_type as level_type}
use Rattle.std.proofs.Common.{rules}
use Rattle.yr_syntax.specs.declared.operator.Infix.{Infix}
use Rattle.yr_parser.specs.declared.sign.Sign.{Sign as SignType}
use Rattle.yr_parser.specs.declared.level.Level.{Level}
use Rattle.yr_parser.specs.Terminals.{Terminals, Operator, Sign}
use Rattle.yr_parser.specs.Input.{Outcome, Parser, and_then, pure, sees, tail, after, expect, same_sign, many, many_by}
use Rattle.yr_parser.specs.Reading.{same_level, same_operator, sees_operator}

pub bind : {A B : Type 0} {r : Outcome A} {a : A} {k : Terminals} (f : A → Parser B) → r ≡ Some (a, k) → and_then r f ≡ f a k
bind f e = ap (λ r. and_then r f) e

pub bind-some : {A B : Type 0} (r : Outcome A) (f : A → Parser B) (y : B × Terminals) → and_then r f ≡ Some y
    → (x : A × Terminals) × (r ≡ Some x) × (f x.0 x.1 ≡ Some y)
bind-some (Some x) f y e = (x, refl, e)
bind-some None f y e = absurd cc

pub some_is : {A : Type 0} (x y : A × Terminals) → ◌≡◌ {A = Outcome A} (Some x) (Some y) → x ≡ y
some_is x y e = cc

-- a pair that is read
pub done : {A : Type 0} (P : A → Terminals → Type 0) (a : A) (k : Terminals) (x : A × Terminals) → ◌≡◌ {A = Outcome A} (Some (a, k)) (Some x) → P a k → P x.0 x.1
done P a k x e h = subst (λ (y : _). P y.0 y.1) (some_is (a, k) x e) h

pub chosen : {A : Type 0} (b : Bool) (x y z : A) → (if b then x else y) ≡ z → ((b ≡ true) × (x ≡ z)) ⊎ ((b ≡ false) × (y ≡ z))
chosen true x y z e = inl (refl, e)
chosen false x y z e = inr (refl, e)

-- the same of parsers
pub chosen' : {A : Type 0} (b : Bool) (p q : Parser A) (k : Terminals) (z : Outcome A) → (if b then p else q) k ≡ z → ((b ≡ true) × (p k ≡ z)) ⊎ ((b ≡ false) × (q k ≡ z))
chosen' true p q k z e = inl (refl, e)
chosen' false p q k z e = inr (refl, e)

pub guarded : {A : Type 0} (b : Bool) (x : Option A) (y : A) → (if b then x else None) ≡ Some y → (b ≡ true) × (x ≡ Some y)
guarded true x y e = (refl, e)
guarded false x y e = absurd cc

pub same_sign-true : (t s : SignType) → same_sign t s ≡ true → t ≡ s
unfolding same_sign
same_sign-true t s h = same_true the_type (search rules) t s h

pub same_sign-refl : (s : SignType) → same_sign s s ≡ true
unfolding same_sign
same_sign-refl s = true_same the_type s s refl

pub same_level-true : (t s : Level) → same_level t s ≡ true → t ≡ s
unfolding same_level
same_level-true t s h = same_true level_type (search rules) t s h

pub same_level-refl : (t s : Level) → t ≡ s → same_level t s ≡ true
unfolding same_level
same_level-refl t s e = true_same level_type t s e

pub same_operator-true : (t s : Infix) → same_operator t s ≡ true → t ≡ s
unfolding same_operator
same_operator-true t s h = same_true infix_type (search rules) t s h

pub sees-true : (s : SignType) (k : Terminals) → sees s k ≡ true → k ≡ Sign s ∷ tail k
unfolding sees
sees-true s [] h = cc
sees-true s (Sign t ∷ k) h = ap (λ x. Sign x ∷ k) (same_sign-true t s h)
sees-true s (_ ∷ k) h = cc

pub sees_operator-true : (o : Infix) (k : Terminals) → sees_operator o k ≡ true → k ≡ Operator o ∷ tail k
unfolding sees_operator
sees_operator-true s [] h = cc
sees_operator-true s (Operator t ∷ k) h = ap (λ x. Operator x ∷ k) (same_operator-true t s h)
sees_operator-true s (_ ∷ k) h = cc

pub sees-here : (s : SignType) (k : Terminals) → sees s (Sign s ∷ k) ≡ true
unfolding sees
sees-here s k = same_sign-refl s

pub expect-some : (s : SignType) (k : Terminals) (x : Unit {0} × Terminals) → expect s k ≡ Some x → k ≡ Sign s ∷ x.1
unfolding expect
expect-some s k x e =
    let h = guarded (sees s k) (Some (tt, tail k)) x e in
    sees-true s k h.0 ∙ ap (λ r. Sign s ∷ r.1) (some_is (tt, tail k) x h.1)

pub expect-here : (s : SignType) (k : Terminals) → expect s (Sign s ∷ k) ≡ Some (tt, k)
unfolding expect
expect-here s k = rw (sees-here s k) refl

-- `eat` found the sign
pub after-true : (s : SignType) (k : Terminals) → sees s k ≡ true → k ≡ Sign s ∷ after s k
unfolding after
after-true s k e = sees-true s k e ∙ rw e refl

pub after-false : (s : SignType) (k : Terminals) → sees s k ≡ false → after s k ≡ k
unfolding after
after-false s k e = rw e refl

-- ---- by cases on a step, for a fact Q of the terminals

pub expect-then : {A : Type 0} (s : SignType) (f : Parser A) (x : A × Terminals) (Q : Terminals → Type 0) → ((rest : Terminals) → f rest ≡ Some x → Q (Sign s ∷ rest))
    → (k : Terminals) → and_then (expect s k) (λ _. f) ≡ Some x → Q k
expect-then s f x Q go k e =
    let a = bind-some (expect s k) (λ _. f) x e in subst Q (sym (expect-some s k a.0 a.1)) (go a.0.1 a.2)

pub bind-then : {A B : Type 0} (p : Parser A) (f : A → Parser B) (x : B × Terminals) (P : Type 0) (k : Terminals)
    → ((a : A) (rest : Terminals) → p k ≡ Some (a, rest) → f a rest ≡ Some x → P) → and_then (p k) f ≡ Some x → P
bind-then p f x P k go e = let a = bind-some (p k) f x e in go a.0.0 a.0.1 a.1 a.2

-- an optional sign
pub eat-then : {A : Type 0} (s : SignType) (p q : Parser A) (x : A × Terminals) (Q : Terminals → Type 0) → ((rest : Terminals) → p rest ≡ Some x → Q (Sign s ∷ rest))
    → ((rest : Terminals) → q rest ≡ Some x → Q rest) → (k : Terminals) → (if sees s k then p else q) (after s k) ≡ Some x → Q k
eat-then s p q x Q taken left k e =
    ⊎_elim (λ h. subst Q (sym (after-true s k h.0)) (taken (after s k) h.1)) (λ h. subst Q (after-false s k h.0) (left (after s k) h.1))
    (chosen' (sees s k) p q (after s k) (Some x) e)

-- a sign, and then nothing
pub expect-end : {A : Type 0} (s : SignType) (a : A) (x : A × Terminals) (k : Terminals) → and_then (expect s k) (λ _. pure a) ≡ Some x → (k ≡ Sign s ∷ x.1) × (a ≡ x.0)
expect-end s a x k e =
    let b = bind-some (expect s k) (λ _. pure a) x e in
    let same = some_is (a, b.0.1) x b.2 in
    (expect-some s k b.0 b.1 ∙ ap (λ y. Sign s ∷ y.1) same, ap (λ y. y.0) same)

-- ---- forwards

pub eat-yes : {A : Type 0} (s : SignType) (p q : Parser A) (k : Terminals) → (if sees s (Sign s ∷ k) then p else q) (after s (Sign s ∷ k)) ≡ p k
unfolding after
eat-yes s p q k = rw (sees-here s k) refl

pub eat-no : {A : Type 0} (s : SignType) (p q : Parser A) (k : Terminals) → sees s k ≡ false → (if sees s k then p else q) (after s k) ≡ q k
unfolding after
eat-no s p q k e = rw e refl

pub expect-on : {A : Type 0} (s : SignType) (f : Parser A) (k : Terminals) → and_then (expect s (Sign s ∷ k)) (λ _. f) ≡ f k
expect-on s f k = ap (λ o. and_then o (λ _. f)) (expect-here s k)

pub many-stop : {A : Type 0} (next : Parser (Option A)) (n : ℕ) (k : Terminals) → next k ≡ Some (None, k) → many next n k ≡ Some ([], k)
unfolding many
many-stop next zero k e = refl
many-stop next (suc n) k e = ap (λ o. many_by o (many next n)) e

pub many-more : {A : Type 0} (next : Parser (Option A)) (n : ℕ) (k mid rest : Terminals) (a : A) (xs : List A) → next k ≡ Some (Some a, mid)
    → many next n mid ≡ Some (xs, rest) → many next (suc n) k ≡ Some (a ∷ xs, rest)
unfolding many
many-more next n k mid rest a xs e h = ap (λ o. many_by o (many next n)) e ∙ ap (λ o. and_then o (λ ys. pure (a ∷ ys))) h

-- what `many` reads is a chain of what `next` reads
pub data Chain {A : Type 0} (one : Terminals → A → Terminals → Type 0) : Terminals → List A → Terminals → Type 0 where
  nothing : {k : Terminals} → Chain one k [] k
  onward : {k mid rest : Terminals} {a : A} {xs : List A} → one k a mid → Chain one mid xs rest → Chain one k (a ∷ xs) rest

module _ {A : Type 0} (next : Parser (Option A)) (one : Terminals → A → Terminals → Type 0)
    (reads : (k mid : Terminals) (a : A) → next k ≡ Some (Some a, mid) → one k a mid)
    (stops : (k mid : Terminals) → next k ≡ Some (None, mid) → k ≡ mid) where
  many_by-chain : (more : Parser (List A)) → ((k : Terminals) (x : List A × Terminals) → more k ≡ Some x → Chain one k x.0 x.1)
      → (k : Terminals) (x : List A × Terminals) (o : Outcome (Option A)) → next k ≡ o → many_by o more ≡ Some x → Chain one k x.0 x.1
  many_by-chain more ih k x None is e = absurd cc
  many_by-chain more ih k x (Some (None, mid)) is e = done (Chain one k) [] mid x e (subst (λ (t : Terminals). Chain one k [] t) (stops k mid is) nothing)
  many_by-chain more ih k x (Some (Some a, mid)) is e =
      let b = bind-some (more mid) (λ xs. pure (a ∷ xs)) x e in
      done (Chain one k) (a ∷ b.0.0) b.0.1 x b.2 (onward (reads k mid a is) (ih mid b.0 b.1))

  pub many-chain : (n : ℕ) (k : Terminals) (x : List A × Terminals) → many next n k ≡ Some x → Chain one k x.0 x.1
  unfolding many
  many-chain zero k x e = done (Chain one k) [] k x e nothing
  many-chain (suc n) k x e = many_by-chain (many next n) (many-chain n) k x (next k) refl e
