use Rattle.yr_answer.specs.Found.{IsReadable}
use Rattle.yr_report.specs.Made.{AreBelow}
use Rattle.speed_image.proofs.report.readable.readable.Given as goal

abbrev pub invariant-loop-found : goal.invariant-loop-found
invariant-loop-found l = record { readable : IsReadable l.list.items; below : AreBelow l.least l.list.items }
