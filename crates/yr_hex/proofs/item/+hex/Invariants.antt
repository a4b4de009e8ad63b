use Rattle.std.proofs.Common.{◌≡◌, ◌+◌, ◌-◌, ◌*◌, length}
use Rattle.yr_hex.specs.Parts.{part_of, list_of, choice_of}
use Rattle.yr_hex.specs.Reading.{group_at, read_list, items_from, branches_from, one_branch}
use Rattle.yr_hex.proofs.item.+hex.Given as goal

abbrev pub decreases-branches : goal.decreases-branches
decreases-branches l = 4 * l.depth + 3

abbrev pub decreases-group : goal.decreases-group
decreases-group l = 4 * l.depth

abbrev pub decreases-item : goal.decreases-item
decreases-item l = 4 * l.depth + 1

abbrev pub decreases-list : goal.decreases-list
decreases-list l = 4 * l.depth + 2

abbrev pub invariant-branches-loop-turn : goal.invariant-branches-loop-turn
invariant-branches-loop-turn l =
    branches_from (group_at l.depth) (length l.fn.text) (one_branch (part_of l.fn.first)) l.fn.text
    ≡ branches_from (group_at l.depth) (l._turn-end - l._turn) (choice_of l.choice) l.text

abbrev pub invariant-list-loop-turn : goal.invariant-list-loop-turn
invariant-list-loop-turn l =
    read_list l.inside (group_at l.depth) l.fn.text ≡ items_from l.inside (group_at l.depth) (l._turn-end - l._turn) (list_of l.list) l.text
