-- What the code's state shows of the machine.
use Rattle.std.specs.Prelude.{ℕ, ◌<◌, Bool, true, false, List, [], ◌∷◌, Option, Some, None}
use Rattle.yr_base.specs.declared.value.Kind.TheVariants as kind
use Rattle.yr_values.specs.Values.{Value}
use Rattle.yr_image.specs.declared.instruction.Instruction.{Instruction}
use Rattle.yr_image.specs.declared.instruction.Instruction.TheVariants as i
use Rattle.yr_machine.specs.declared.block.Want.TheVariants as want
use Rattle.yr_machine.specs.Machine.{Machine, machine, Outcome, going, done, OpenLoop, Taken, missing, took, take_values, with_operands, finish, flag_of, branch, end_turn}
use Rattle.yr_vm.specs.declared.state.State.{State}
use Rattle.yr_values.specs.declared.quantifier.Quantifier.{Quantifier}
use Rattle.yr_answer.specs.Turns.{Turn}
use Rattle.yr_vm.specs.declared.beginning.Begun.{Begun}
use Rattle.yr_vm.specs.declared.beginning.Begun.TheVariants as begun
use Rattle.yr_vm.specs.OpenLoops.{loops_shown}

abbrev pub seen : (lists : List ℕ) → State → Machine
seen lists s = machine s.place s.stack (loops_shown lists s.loops)

-- what a row answered, and the state that it left
abbrev pub outcome_of : (lists : List ℕ) → Option Bool → State → Outcome
outcome_of lists None s = going (seen lists s)
outcome_of lists (Some truth) s = done truth

-- operands are there
abbrev pub IsThere : Taken → Type 0
IsThere missing = ⊥
IsThere (took operands below) = Unit {0}

-- the end of a rule
abbrev pub finish_outcome : (stack : List Value) → Outcome
finish_outcome stack = with_operands (take_values (want.Any ∷ []) stack) finish

-- a skip that leaves at a true flag or at another
abbrev pub skip_to : (at_true : Bool) → (end : ℕ) → Instruction
skip_to true end = i.SkipTrue end
skip_to false end = i.SkipFalse end

abbrev pub skip_outcome : Instruction → (place : ℕ) → (stack : List Value) → List OpenLoop → Outcome
skip_outcome instruction place stack loops =
    with_operands (take_values (want.Of kind.Flag ∷ []) stack) (λ operands below. branch instruction (flag_of operands) place below loops)

-- the end of a turn of the loop at a place
abbrev pub turn_outcome : (c : ℕ) → (stack : List Value) → List OpenLoop → Outcome
turn_outcome c stack loops =
    with_operands (take_values (want.Of kind.Flag ∷ []) stack) (λ operands below. end_turn c (flag_of operands) below loops)

-- there is room for the loop, or for its value where it ends at once
abbrev pub CanBegin : Option Quantifier → Begun → (loops values : ℕ) → Type 0
CanBegin (Some q) (begun.Some turns) loops values = loops < 4
CanBegin q b loops values = values < 4096

-- the same of the turns that the machine has for it
abbrev pub MayBegin : Option Quantifier → Option (List Turn) → (loops values : ℕ) → Type 0
MayBegin (Some q) (Some (t ∷ ts)) loops values = loops < 4
MayBegin q turns loops values = values < 4096
