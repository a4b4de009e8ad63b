-- The row that a step runs.
use Rattle.std.proofs.Common.{◌≡◌, ℕ, zero, suc, ◌+◌, ◌<◌, ◌≤◌, Bool, List, [], ◌∷◌, length, take, drop, Option, Some, None, refl, sym, ap, ◌∙◌, subst, arith}
use Rattle.std.specs.Prelude.{slice_get, option_and_then}
use Rattle.std.specs.Option.{option_map_or}
use Rattle.std.proofs.lemmas.Option.{slice_get_within}
use Rattle.yr_image.specs.declared.rows.CodeRow.{CodeRow}
use Rattle.yr_image.specs.declared.instruction.Instruction.{Instruction}
use Rattle.yr_image.specs.Instructions.{instruction_of}
use Rattle.yr_machine.specs.Operations.{Context}
use Rattle.yr_machine.specs.Machine.{Machine, act, step, instruction_at}
use Rattle.yr_machine.specs.Counts.{NotStuck, cost_there}
use Rattle.yr_machine.specs.Budget.{instruction_cost}
use Rattle.yr_vm.proofs.MemberLemmas.{window-get}

some-row : (rows : List CodeRow) (place : ℕ) (o : Option Instruction) (instr : Instruction) → instruction_at rows place ≡ o → o ≡ Some instr → (r : CodeRow) × (slice_get rows place ≡ Some r)
some-row rows place o instr e f = by (slice_get rows place) refl
  where
    none : (p : Option CodeRow) → p ≡ None → option_and_then instruction_of p ≡ Some instr → ⊥
    none None q h = cc
    none (Some r) q h = cc

    by : (p : Option CodeRow) → slice_get rows place ≡ p → (r : CodeRow) × (slice_get rows place ≡ Some r)
    by None q = absurd (none (slice_get rows place) q (e ∙ f))
    by (Some r) q = (r, q)

-- a step that can be run has a row
pub row-there : (context : Context) (truths : List Bool) (rows : List CodeRow) (m : Machine) → NotStuck (step context truths rows m) →
    (r : CodeRow) × (slice_get rows m.place ≡ Some r)
row-there context truths rows m n = by (instruction_at rows m.place) refl
  where
    by : (o : Option Instruction) → instruction_at rows m.place ≡ o → (r : CodeRow) × (slice_get rows m.place ≡ Some r)
    by None q = absurd (subst (λ o. NotStuck (act context truths o m)) q n)
    by (Some instr) q = some-row rows m.place (Some instr) instr q refl

front-short : {A : Type 0} → (xs : List A) (n k : ℕ) (x : A) → slice_get (take n xs) k ≡ Some x → k < n
front-short xs zero k x e = absurd (omega (arith, slice_get_within (take zero xs) k x e, none xs))
  where
    none : {A : Type 0} → (ys : List A) → length (take zero ys) ≡ 0
    none [] = refl
    none (y ∷ ys) = refl
front-short [] (suc n) k x e = cc
front-short (y ∷ xs) (suc n) zero x e = omega arith
front-short (y ∷ xs) (suc n) (suc k) x e = omega (arith, front-short xs n k x e)

module _ (code : List CodeRow) (first count place : ℕ) (r : CodeRow) (e : slice_get (take count (drop first code)) place ≡ Some r) where
  at-window : slice_get code (first + place) ≡ Some r
  at-window = sym (window-get code first count place (front-short (drop first code) count place r e)) ∙ e

  pub row-inside : first + place < length code
  row-inside = slice_get_within code (first + place) r at-window

  -- the row that stands there is the one that is run
  pub row-same : (s : CodeRow) → slice_get code (first + place) ≡ Some s → instruction_at (take count (drop first code)) place ≡ instruction_of s
  row-same s f =
      let same : Some r ≡ Some s = sym at-window ∙ f in
      ap (option_and_then instruction_of) (e ∙ same)
