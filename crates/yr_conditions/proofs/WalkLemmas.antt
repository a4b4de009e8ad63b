-- What the parts of a condition have of its forms and its height, and what paths mean step by step.
use Rattle.std.proofs.Common.{◌≡◌, ℕ, ◌≤◌, ◌^◌, Bool, true, false, List, [], ◌∷◌, length, map, refl, sym, subst, arith}
use Rattle.yr_rules.specs.Rules.{external_of}
use Rattle.yr_name_tables.specs.Names.{Name}
use Rattle.yr_syntax.specs.Condition as tree
use Rattle.yr_syntax.specs.Condition.{OneStep, items_of}
use Rattle.yr_conditions.specs.Around.{around_of}
use Rattle.yr_conditions.specs.Meanings.{Scope, Meaning, meaning_of, count_of}
use Rattle.yr_conditions.specs.Paths.{step_meaning}
use Rattle.yr_conditions.specs.declared.around.Around.{Around}
use Rattle.yr_conditions.specs.Room.{IsRoomy}
use Rattle.yr_conditions.specs.NodeViews.{IsLow}
use Rattle.yr_conditions.proofs.LowLemmas.{more-low, meaning-low, name-low, index-low, call-low}

length-map : {A B : Type 0} (f : A → B) (xs : List A) → length (map f xs) ≡ length xs
length-map f [] = refl
length-map f (x ∷ xs) = omega (arith, length-map f xs)

-- a word that means something
pub start-low : (around : Around) (w : Name) (scopes : List Scope) (m : Meaning) → m ≡ meaning_of (around_of around) w scopes → IsLow (length scopes) (length around.externals.now) m
start-low around w scopes m e =
    subst (λ x. IsLow (length scopes) (length around.externals.now) x) (sym e)
    (subst (λ k. IsLow (length scopes) k (meaning_of (around_of around) w scopes)) (length-map external_of around.externals.now) (meaning-low (around_of around) w scopes))

then-low : (n e : ℕ) (s : OneStep) (m : Meaning) → IsLow n e m → IsLow n e (step_meaning s m)
then-low n e (tree.Name w) m l = name-low n e m w l
then-low n e (tree.Index c) m l = index-low n e m l
then-low n e (tree.Call arguments) m l = call-low n e m (count_of (items_of arguments)) l

-- one more part of a path
pub one-low : (n e : ℕ) (s : OneStep) (m m' : Meaning) → m' ≡ step_meaning s m → IsLow n e m → IsLow n e m'
one-low n e s m m' is l = subst (IsLow n e) (sym is) (then-low n e s m l)

-- a path that has ended
pub end-low : (n e : ℕ) (m : Meaning) → n ≤ 1024 → IsLow n e m → IsLow (2 ^ 32) e m
end-low n e m h l = more-low n (2 ^ 32) e m (omega arith) l

-- where numbers are wanted, externals have numbers of 32 bits
pub few-externals : (exact : Bool) (around : Around) → IsRoomy exact around → exact ≡ true → length around.externals.now ≤ 2 ^ 32
few-externals true around room e = room.1
few-externals false around room e = absurd cc
