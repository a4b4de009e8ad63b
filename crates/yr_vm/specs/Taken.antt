-- How many values an instruction takes that gives one.
use Rattle.std.specs.Prelude.{ℕ, Bool, true, ◌&&◌, nat_le, List, [], ◌∷◌, length, ◌<◌}
use Rattle.yr_image.specs.declared.instruction.Instruction.{Instruction}
use Rattle.yr_image.specs.declared.instruction.Instruction.TheVariants as i
use Rattle.yr_image.specs.Image.{Image}
use Rattle.yr_answer.specs.Turns.{Turn, Item, Member}
use Rattle.yr_machine.specs.declared.block.Want.{Want}
use Rattle.yr_machine.specs.Roles.{Role, ending, plain, skip, starts, turn, role}

abbrev pub wants_of : Role → List Want
wants_of ending = []
wants_of (plain wants gives) = wants
wants_of (skip end) = []
wants_of (starts wants keeps strings end) = []
wants_of (turn place) = []

abbrev pub taken_by : Image → Instruction → ℕ
taken_by image instruction = length (wants_of (role image instruction))

-- it takes values and gives one, and it is no test by a program, which also takes steps
abbrev pub IsOther : Instruction → Type 0
IsOther (i.Matches c) = ⊥
IsOther instruction = Unit {0}

abbrev pub IsGiven : Role → Instruction → Type 0
IsGiven (plain wants gives) instruction = IsOther instruction
IsGiven r instruction = ⊥

-- the strings that are present in loops are among so many
abbrev pub AreAmong : (count : ℕ) → List Turn → Type 0
AreAmong count [] = Unit {0}
AreAmong count (Item v ∷ turns) = AreAmong count turns
AreAmong count (Member k ∷ turns) = (k < count) × AreAmong count turns

-- a list of a loop has from 1 to 128 items
abbrev pub has_short_list : Instruction → Bool
has_short_list (i.LoopList q end items) = nat_le 1 items && nat_le items 128
has_short_list instruction = true
