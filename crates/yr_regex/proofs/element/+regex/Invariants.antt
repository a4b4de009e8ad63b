use Rattle.std.proofs.Common.{◌≡◌, ◌+◌, ◌-◌, ◌*◌}
use Rattle.yr_regex.specs.Parts.{part_of, parts_of}
use Rattle.yr_regex.specs.Reading.{grouped_at, sequence_at, pieces_at, branches_at, single}
use Rattle.yr_regex.proofs.element.+regex.Given as goal

abbrev pub decreases-group : goal.decreases-group
decreases-group l = 6 * l.depth

abbrev pub decreases-element : goal.decreases-element
decreases-element l = 6 * l.depth + 1

abbrev pub decreases-piece : goal.decreases-piece
decreases-piece l = 6 * l.depth + 2

abbrev pub decreases-sequence : goal.decreases-sequence
decreases-sequence l = 6 * l.depth + 3

abbrev pub decreases-branches : goal.decreases-branches
decreases-branches l = 6 * l.depth + 4

abbrev pub decreases-expression : goal.decreases-expression
decreases-expression l = 6 * l.depth + 5

abbrev pub invariant-sequence-loop-turn : goal.invariant-sequence-loop-turn
invariant-sequence-loop-turn l =
    sequence_at l.flags.nocase l.flags.dot_all (grouped_at l.flags.nocase l.flags.dot_all l.depth) l.fn.text
    ≡ pieces_at l.flags.nocase l.flags.dot_all (grouped_at l.flags.nocase l.flags.dot_all l.depth) (l._turn-end - l._turn) (parts_of l.pieces) l.text

abbrev pub invariant-branches-loop-turn : goal.invariant-branches-loop-turn
invariant-branches-loop-turn l =
    branches_at l.flags.nocase l.flags.dot_all (grouped_at l.flags.nocase l.flags.dot_all l.depth) l.fn.count (single (part_of l.fn.first)) l.fn.text
    ≡ branches_at l.flags.nocase l.flags.dot_all (grouped_at l.flags.nocase l.flags.dot_all l.depth) (l.count - l._turn) (parts_of l.branches) l.text
