-- The numbers with which the program ends.
use Rattle.std.specs.Prelude.{ℕ}
use Rattle.yr_outcome.specs.declared.status.Status.{Status}
use Rattle.yr_outcome.specs.declared.status.Status.TheVariants as status

-- the number of a status
abbrev pub code_of : Status → ℕ
code_of status.Done = 0
code_of status.Usage = 1
code_of status.Rules = 2
code_of status.Image = 3
code_of status.ReadFault = 4
code_of status.WriteFault = 5
code_of status.NoMemory = 6
code_of status.LongTarget = 7
code_of status.External = 8
