-- The strings that instructions ask about, and what is asked of their matches.
use Rattle.std.specs.Prelude.{◌≡◌, ℕ, ◌<◌, Bool, true, List, Some}
use Rattle.yr_answer.specs.MatchList.{Match}
use Rattle.yr_answer.specs.Lookups.{is_at, is_within}
use Rattle.yr_answer.specs.Turns.{Turn, current_of}
use Rattle.yr_image.specs.declared.instruction.NamedString.{NamedString}
use Rattle.yr_image.specs.declared.instruction.NamedString.TheVariants.{Known, Current}
use Rattle.yr_vm.specs.declared.asked.Asked.{Asked}
use Rattle.yr_vm.specs.declared.asked.Asked.TheVariants.{Anywhere, At, Within}

-- the string that an instruction names, in these turns of the open loops, is one of so many
abbrev pub IsNamed : (count : ℕ) → List Turn → NamedString → Type 0
IsNamed count turns (Known c) = c < count
IsNamed count turns (Current c) = (k : ℕ) × (current_of turns c ≡ Some k) × (k < count)

-- the matches that are asked for, where the operands are numbers
abbrev pub asked_shown : Asked → Match → Bool
asked_shown Anywhere m = true
asked_shown (At e) m = is_at e m
asked_shown (Within x y) m = is_within x y m
