-- A workload that was made, as plain data.
use Rattle.yr_workload.specs.declared.making.Work.{Work}
use Rattle.yr_workload.specs.Workload.{Workload}

abbrev pub work_shown : Work → Workload
work_shown work = record { rules = work.rules.items; file = work.file.items }
