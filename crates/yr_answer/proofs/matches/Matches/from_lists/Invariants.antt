use Rattle.std.proofs.Common.{◌≡◌, take}
use Rattle.yr_answer.specs.Found.{items_of}
use Rattle.yr_answer.proofs.matches.Matches.from_lists.Given as goal

abbrev pub invariant-loop-list : goal.invariant-loop-list
invariant-loop-list l = items_of l.copies.items ≡ items_of (take l.list-index l.lists)
