-- Matches that are asked for, and strings of open loops.
use Rattle.std.proofs.Common.{◌≡◌, ℕ, zero, suc, ◌+◌, ◌<◌, Bool, true, false, cond, List, [], ◌∷◌, length, Option, Some, None, refl, sym, ap, ◌∙◌, subst, arith, inl, inr, ◌⊎◌}
use Rattle.std.specs.Prelude.{nat_lt, filter, ◌||◌, option_and_then}
use Rattle.std.proofs.Common.{eqb}
use Rattle.std.proofs.lemmas.Bool.{eqb-true}
use Rattle.std.proofs.lemmas.Bool.Decides.{nat_tests}
use Rattle.std.specs.List.{list_any}
use Rattle.yr_answer.specs.Turns.{Turn, turn_at, member_in, current_of}

some-suc : (n : ℕ) → true ≡ nat_lt 0 (suc n)
some-suc n = grind (arith, nat_tests)

module _ {A : Type 0} (p : A → Bool) where
  kept : (x : A) (b a : Bool) (rest : List A) → a ≡ nat_lt 0 (length rest) → (b || a) ≡ nat_lt 0 (length (cond b (x ∷ rest) rest))
  kept x true a rest e = some-suc (length rest)
  kept x false a rest e = e

  -- some item passes, where those that pass are more than none
  pub any-filter : (xs : List A) → list_any p xs ≡ nat_lt 0 (length (filter p xs))
  any-filter [] = refl
  any-filter (x ∷ xs) = kept x (p x) (list_any p xs) (filter p xs) (any-filter xs)

pub any-item : {A : Type 0} → (xs : List A) → list_any (λ x. true) xs ≡ nat_lt 0 (length xs)
any-item [] = refl
any-item (x ∷ xs) = some-suc (length xs)

at-test : (u t : Turn) (turns : List Turn) (c : ℕ) (b : Bool) → eqb c (length turns) ≡ b → (turn_at turns c ≡ Some t → c < length turns) →
    cond b (Some u) (turn_at turns c) ≡ Some t → c < suc (length turns)
at-test u t turns c true q more e = let same : c ≡ length turns = eqb-true c (length turns) q in omega (arith, same)
at-test u t turns c false q more e = omega (arith, more e)

-- a loop that is there has its number
pub turn-inside : (turns : List Turn) (c : ℕ) (t : Turn) → turn_at turns c ≡ Some t → c < length turns
turn-inside [] c t e = cc
turn-inside (u ∷ turns) c t e = at-test u t turns c (eqb c (length turns)) refl (turn-inside turns c t) e

-- the string of a loop that is there
pub current-inside : (turns : List Turn) (c k : ℕ) → current_of turns c ≡ Some k → c < length turns
current-inside turns c k e = by (turn_at turns c) refl
  where
    none : (o : Option Turn) → o ≡ None → option_and_then member_in o ≡ Some k → ⊥
    none None q e = cc
    none (Some t) q e = cc

    by : (o : Option Turn) → turn_at turns c ≡ o → c < length turns
    by None q = absurd (none (turn_at turns c) q e)
    by (Some t) q = turn-inside turns c t q
