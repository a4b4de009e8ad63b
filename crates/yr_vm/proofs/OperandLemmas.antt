-- Operands that are on the stack.
use Rattle.std.proofs.Common.{◌≡◌, ℕ, zero, suc, ◌+◌, ◌<◌, ◌≤◌, Bool, true, false, cond, List, [], ◌∷◌, length, take, drop, refl, sym, ap, ◌∙◌, subst, arith}
use Rattle.std.specs.Prelude.{◌==◌}
use Rattle.yr_base.specs.declared.value.Kind.TheVariants as kind
use Rattle.yr_values.specs.Values.{Value, holds}
use Rattle.yr_machine.specs.declared.block.Want.{Want}
use Rattle.yr_machine.specs.declared.block.Want.TheVariants as want
use Rattle.yr_machine.specs.Machine.{OpenLoop, Outcome, stuck, flag_of, end_turn, next_turn, Taken, missing, took, and_took, take_values, with_operands, suits}
use Rattle.yr_machine.specs.Counts.{NotStuck}
use Rattle.yr_vm.specs.OpenLoops.{turn_on, held_after}
use Rattle.yr_vm.specs.States.{IsThere, turn_outcome}

pub is-there : (t : Taken) (go : List Value → List Value → Outcome) → NotStuck (with_operands t go) → IsThere t
is-there missing go n = n
is-there (took operands below) go n = tt

abbrev pub both : ℕ → List Value → Taken
both n stack = took (take n stack) (drop n stack)

none-taken : (stack : List Value) → took [] stack ≡ both zero stack
none-taken [] = refl
none-taken (v ∷ stack) = refl

rest-there : (v : Value) (t : Taken) → IsThere (and_took v t) → IsThere t
rest-there v missing h = h
rest-there v (took operands below) h = tt

by-suit : (b : Bool) (v : Value) (t : Taken) (n : ℕ) (stack : List Value) → IsThere (cond b (and_took v t) missing) →
    (IsThere t → (t ≡ both n stack) × (n ≤ length stack)) → (cond b (and_took v t) missing ≡ both (suc n) (v ∷ stack)) × (suc n ≤ length (v ∷ stack))
by-suit true v t n stack h more =
    let m = more (rest-there v t h) in (ap (and_took v) m.0, omega (arith, m.1))
by-suit false v t n stack h more = absurd h

pub known : (wants : List Want) (stack : List Value) → IsThere (take_values wants stack) →
    (take_values wants stack ≡ both (length wants) stack) × (length wants ≤ length stack)
known [] stack h = (none-taken stack, omega arith)
known (w ∷ wants) [] h = absurd h
known (w ∷ wants) (v ∷ stack) h = by-suit (suits w v) v (take_values wants stack) (length wants) stack h (known wants stack)

module _ (wants : List Want) (stack : List Value) (go : List Value → List Value → Outcome) (n : NotStuck (with_operands (take_values wants stack) go)) where
  pub operands-there : length wants ≤ length stack
  operands-there = (known wants stack (is-there (take_values wants stack) go n)).1

  pub operands-known : with_operands (take_values wants stack) go ≡ go (take (length wants) stack) (drop (length wants) stack)
  operands-known = ap (λ t. with_operands t go) (known wants stack (is-there (take_values wants stack) go n)).0

-- a turn that can end ends that of the innermost loop
turn-known : (c : ℕ) (answer : Bool) (below : List Value) (loops : List OpenLoop) → NotStuck (end_turn c answer below loops) →
    end_turn c answer below loops ≡ turn_on answer below loops
turn-known c answer below [] n = absurd n
turn-known c answer below (l ∷ loops) n = by (l.place == c) n
  where
    next : Outcome
    next = next_turn l l.left (held_after answer l.held) below loops

    by : (b : Bool) → NotStuck (cond b next stuck) → cond b next stuck ≡ next
    by true h = refl
    by false h = absurd h

pub turn-outcome : (c : ℕ) (stack : List Value) (loops : List OpenLoop) (v : Value) → take 1 stack ≡ v ∷ [] → NotStuck (turn_outcome c stack loops) →
    turn_outcome c stack loops ≡ turn_on (holds v) (drop 1 stack) loops
turn-outcome c stack loops v e n =
    let go = λ (operands below : List Value). end_turn c (flag_of operands) below loops in
    let same : turn_outcome c stack loops ≡ end_turn c (holds v) (drop 1 stack) loops =
    operands-known (want.Of kind.Flag ∷ []) stack go n ∙ ap (λ operands. end_turn c (flag_of operands) (drop 1 stack) loops) e in
    same ∙ turn-known c (holds v) (drop 1 stack) loops (subst NotStuck same n)
