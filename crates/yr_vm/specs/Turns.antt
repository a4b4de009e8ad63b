-- What the turns that an open loop keeps stand for, as turns of the machine.
use Rattle.std.specs.Prelude.{◌≡◌, ℕ, ◌+◌, ℤ, pos, ◌+ℤ◌, List, [], ◌∷◌, map, take, drop, Option, Some, None}
use Rattle.yr_values.specs.Values.{Value, Undefined, Number}
use Rattle.yr_answer.specs.Turns.{Turn, Item, Member, turns_from, item_turns, string_turns}
use Rattle.yr_vm.specs.declared.turns.Present.{Present}
use Rattle.yr_vm.specs.declared.turns.Present.TheVariants as present
use Rattle.yr_vm.specs.declared.turns.Left.{Left}
use Rattle.yr_vm.specs.declared.turns.Left.TheVariants as left

abbrev pub present_shown : Present → Turn
present_shown (present.Number n) = Item (Number n)
present_shown present.Undefined = Item Undefined
present_shown (present.Member k) = Member k

-- an item of a list, which is a number or undefined
abbrev pub item_shown : Option ℤ → Value
item_shown None = Undefined
item_shown (Some n) = Number n

-- the turns left of a loop with these items, over the list rows of the image
abbrev pub left_shown : (lists : List ℕ) → (items : List (Option ℤ)) → Left → List Turn
left_shown lists items (left.Numbers after count) = turns_from (after +ℤ pos 1) count
left_shown lists items (left.Items from count) = item_turns (map item_shown (take count (drop from items)))
left_shown lists items (left.Members row count) = string_turns (take count (drop row lists))

-- how many turns are left at most, and how far they go
abbrev pub turns_left : Left → ℕ
turns_left (left.Numbers after count) = count
turns_left (left.Items from count) = count
turns_left (left.Members row count) = count

abbrev pub last_number : Left → ℤ
last_number (left.Numbers after count) = after +ℤ pos count
last_number (left.Items from count) = pos 0
last_number (left.Members row count) = pos 0

abbrev pub last_item : Left → ℕ
last_item (left.Numbers after count) = 0
last_item (left.Items from count) = from + count
last_item (left.Members row count) = 0

abbrev pub last_row : Left → ℕ
last_row (left.Numbers after count) = 0
last_row (left.Items from count) = 0
last_row (left.Members row count) = row + count

-- the next turn with those after it, as one list
abbrev pub next_shown : (lists : List ℕ) → (items : List (Option ℤ)) → Option (Present × Left) → List Turn
next_shown lists items None = []
next_shown lists items (Some next) = present_shown next.0 ∷ left_shown lists items next.1

-- one turn fewer is left, and they go as far
pub record IsAfter (before after : Left) : Type 0 where
  pub fewer : turns_left after + 1 ≡ turns_left before
  pub numbers : last_number after ≡ last_number before
  pub listed : last_item after ≡ last_item before
  pub rows : last_row after ≡ last_row before
