-- The operands of a set: a place or a range above the quantifier's number.
use Rattle.std.proofs.Common.{◌≡◌, ℕ, zero, suc, ◌+◌, Bool, List, [], ◌∷◌, length, take, drop, Some, refl, sym, ap, ◌∙◌, arith}
use Rattle.yr_values.specs.Values.{Value}
use Rattle.yr_answer.specs.Turns.{Turn}
use Rattle.yr_answer.specs.Lookups.{anywhere, at_offset, in_range}
use Rattle.yr_image.specs.declared.instruction.QuantifierKind.{QuantifierKind}
use Rattle.yr_image.specs.declared.instruction.OfForm.TheVariants as form
use Rattle.yr_machine.specs.Roles.{quantity, of_wants}
use Rattle.yr_machine.specs.Operations.{Context, of_value, quantifier_of}
use Rattle.yr_vm.specs.Sets.{strings_value, rules_value}

-- the first values, where the first of them are known
pub front-one : {A : Type 0} → (xs : List A) (n : ℕ) (v : A) → take 1 xs ≡ v ∷ [] → take (suc n) xs ≡ v ∷ take n (drop 1 xs)
front-one [] n v e = cc
front-one (x ∷ xs) n v e = let same : x ≡ v = cc in ap (λ y. y ∷ take n xs) same ∙ ap (λ ys. v ∷ take n ys) (sym (none xs))
  where
    none : {A : Type 0} → (ys : List A) → drop zero ys ≡ ys
    none [] = refl
    none (y ∷ ys) = refl

pub front-two : {A : Type 0} → (xs : List A) (n : ℕ) (w v : A) → take 2 xs ≡ w ∷ v ∷ [] → take (suc (suc n)) xs ≡ w ∷ v ∷ take n (drop 2 xs)
front-two [] n w v e = cc
front-two (x ∷ []) n w v e = cc
front-two (x ∷ y ∷ xs) n w v e =
    let one : x ≡ w = cc in
    let two : y ≡ v = cc in
    ap (λ a. a ∷ y ∷ take n xs) one ∙ ap (λ b. w ∷ b ∷ take n xs) two ∙ ap (λ ys. w ∷ v ∷ take n ys) (sym (none xs))
  where
    none : {A : Type 0} → (ys : List A) → drop zero ys ≡ ys
    none [] = refl
    none (y ∷ ys) = refl

drop-zero : (xs : List Value) → drop zero xs ≡ xs
drop-zero [] = refl
drop-zero (x ∷ xs) = refl

module _ (context : Context) (truths : List Bool) (turns : List Turn) (q : QuantifierKind) (members : List ℕ) (stack : List Value) where
  abbrev rest : ℕ → List Value
  rest depth = take (length (quantity q)) (drop depth stack)

  pub of-match : strings_value context.lists members (quantifier_of q (rest 0)) anywhere
      ≡ of_value context truths turns form.Match q members (take (length (of_wants form.Match (quantity q))) stack)
  of-match = ap (λ xs. strings_value context.lists members (quantifier_of q (take (length (quantity q)) xs)) anywhere) (drop-zero stack)

  pub of-at : (v : Value) → take 1 stack ≡ v ∷ [] → strings_value context.lists members (quantifier_of q (rest 1)) (at_offset v)
      ≡ of_value context truths turns form.MatchAt q members (take (length (of_wants form.MatchAt (quantity q))) stack)
  of-at v e = sym (ap (of_value context truths turns form.MatchAt q members) (front-one stack (length (quantity q)) v e))

  pub of-in : (w v : Value) → take 2 stack ≡ w ∷ v ∷ [] → strings_value context.lists members (quantifier_of q (rest 2)) (in_range v w)
      ≡ of_value context truths turns form.MatchIn q members (take (length (of_wants form.MatchIn (quantity q))) stack)
  of-in w v e = sym (ap (of_value context truths turns form.MatchIn q members) (front-two stack (length (quantity q)) w v e))

  pub of-rules : rules_value truths members (quantifier_of q (rest 0))
      ≡ of_value context truths turns form.Rules q members (take (length (of_wants form.Rules (quantity q))) stack)
  of-rules = ap (λ xs. rules_value truths members (quantifier_of q (take (length (quantity q)) xs))) (drop-zero stack)
