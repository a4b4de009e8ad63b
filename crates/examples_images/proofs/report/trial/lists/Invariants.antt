use Rattle.std.specs.List.{All}
use Rattle.yr_answer.specs.Found.{IsReadable, items_of}
use Rattle.examples_images.proofs.report.trial.lists.Given as goal

abbrev pub invariant-loop-list : goal.invariant-loop-list
invariant-loop-list l = All IsReadable (items_of l.lists.items)
