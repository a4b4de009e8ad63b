-- What the open loops that the code keeps stand for, over the list rows of the image.
use Rattle.std.specs.Prelude.{◌≡◌, ℕ, ◌+◌, length, Bool, if◌then◌else◌, List, [], ◌∷◌, map, take, drop, reverse, Option, Some, None}
use Rattle.yr_values.specs.Values.{Value, Flag}
use Rattle.yr_values.specs.declared.quantifier.Quantifier.{Quantifier}
use Rattle.yr_answer.specs.Turns.{Turn, item_turns}
use Rattle.yr_machine.specs.Machine.{OpenLoop, Outcome, stuck, going, machine, give, next_turn}
use Rattle.yr_vm.specs.declared.open_loop.OpenLoop as kept
use Rattle.yr_vm.specs.declared.open_loop.Turns as some
use Rattle.yr_vm.specs.declared.beginning.Begun.{Begun}
use Rattle.yr_vm.specs.declared.beginning.Begun.TheVariants as begun
use Rattle.yr_vm.specs.declared.loops.Loops as loops
use Rattle.yr_vm.specs.declared.turns.Turned.{Turned}
use Rattle.yr_vm.specs.declared.turns.Turned.TheVariants as after
use Rattle.yr_vm.specs.Turns.{present_shown, left_shown}

abbrev pub loop_shown : (lists : List ℕ) → kept.OpenLoop → OpenLoop
loop_shown lists l = record {
  place = l.place;
  end = l.end;
  quantifier = l.quantifier;
  present = present_shown l.present;
  left = left_shown lists l.items l.left;
  total = l.total;
  held = l.held;
  kept = l.kept;
}

-- the turns that a loop over a range or over strings begins: unknown, none, or some
abbrev pub begun_shown : (lists : List ℕ) → Begun → Option (List Turn)
begun_shown lists begun.Unknown = None
begun_shown lists begun.Nothing = Some []
begun_shown lists (begun.Some turns) = Some (present_shown turns.present ∷ left_shown lists [] turns.left)

-- the code counts the turns of a loop that it begins
abbrev pub IsCounted : (lists : List ℕ) → Begun → Type 0
IsCounted lists begun.Unknown = Unit {0}
IsCounted lists begun.Nothing = Unit {0}
IsCounted lists (begun.Some turns) = length (left_shown lists [] turns.left) + 1 ≡ turns.total

-- how many turns hold after one with this answer
abbrev pub held_after : (answer : Bool) → ℕ → ℕ
held_after answer held = if answer then held + 1 else held

-- what comes after a turn, as the code says it, with the loop as it is then
abbrev pub turned : Turned → List Value → OpenLoop → List OpenLoop → Outcome
turned (after.Again place) below l loops = going (machine place below (l ∷ loops))
turned (after.Over end kept answer) below l loops = give end loops (drop kept below) (Flag answer)

-- the open loops, the innermost first, and their present turns
abbrev pub loops_shown : (lists : List ℕ) → loops.Loops → List OpenLoop
loops_shown lists s = reverse (map (loop_shown lists) (take s.len s.open))

abbrev pub presents_shown : loops.Loops → List Turn
presents_shown s = reverse (map (λ (l : kept.OpenLoop). present_shown l.present) (take s.len s.open))

-- a loop over turns that is just begun; it keeps no values on the stack
abbrev pub begun_by : (lists : List ℕ) → (place end : ℕ) → Quantifier → some.Turns → OpenLoop
begun_by lists place end quantifier turns = record {
  place = place;
  end = end;
  quantifier = quantifier;
  present = present_shown turns.present;
  left = left_shown lists [] turns.left;
  total = turns.total;
  held = 0;
  kept = 0;
}

-- a turn of the innermost loop has ended with an answer
abbrev pub turn_on : (answer : Bool) → List Value → List OpenLoop → Outcome
turn_on answer below [] = stuck
turn_on answer below (l ∷ loops) = next_turn l l.left (held_after answer l.held) below loops

abbrev pub after_turn : Turned → List Value → List OpenLoop → Outcome
after_turn (after.Again place) below loops = going (machine place below loops)
after_turn (after.Over end kept answer) below loops = give end loops (drop kept below) (Flag answer)

-- a loop over items is just begun inside others
abbrev pub IsListedBy : (place end : ℕ) → Quantifier → (items : List Value) → (kept : ℕ) → (old new : List OpenLoop) → Type 0
IsListedBy place end quantifier items kept old new =
    (t : Turn) × (ts : List Turn) × (item_turns items ≡ t ∷ ts)
    × (new ≡ record { place = place; end = end; quantifier = quantifier; present = t; left = ts; total = length ts + 1; held = 0; kept = kept } ∷ old)
