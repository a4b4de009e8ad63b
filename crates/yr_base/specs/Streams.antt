-- What a read to a reader's end and a write of all bytes leave, where it is told what reader and writer hold.
use Rattle.std.specs.Prelude.{◌≡◌, ℕ, ◌+◌, ◌≤◌, List, [], length, take, Option, IfSome}
use Rattle.std.specs.Io.KnownBytes.{Appends}
use Rattle.yr_base.specs.Causes.{one_more}
use Rattle.yr_base.specs.declared.store.ReadAnswer.{ReadAnswer}
use Rattle.yr_base.specs.declared.store.ReadAnswer.TheVariants as read
use Rattle.yr_base.specs.declared.sink.PutAnswer.{PutAnswer}
use Rattle.yr_base.specs.declared.sink.PutAnswer.TheVariants as put

-- a read that is Done gave all that the reader had left, a Long one the limit and a byte more; any other gave none
abbrev pub Receives : Option (List ℕ) → ℕ → ReadAnswer → List ℕ → Type 0
Receives left limit read.Done bytes = (length bytes ≤ limit) × IfSome left (λ all. bytes ≡ all)
Receives left limit read.Long bytes = (length bytes ≡ limit + 1) × IfSome left (λ all. bytes ≡ take (limit + 1) all)
Receives left limit read.Failed bytes = bytes ≡ []
Receives left limit read.NoMemory bytes = bytes ≡ []

-- a write that is Done left all bytes with the writer, a Failed one so many of them
abbrev pub Sends : Option (List ℕ) → Option (List ℕ) → List ℕ → PutAnswer → Type 0
Sends old new bytes put.Done = Appends old new bytes
Sends old new bytes put.Failed = (count : ℕ) × Appends old new (take count bytes)

-- the count of faults after a read and a write that answered so: one more where it failed
abbrev pub faults_of_read : ReadAnswer → ℕ → ℕ
faults_of_read read.Failed before = one_more before
faults_of_read read.Done before = before
faults_of_read read.Long before = before
faults_of_read read.NoMemory before = before

abbrev pub faults_of_put : PutAnswer → ℕ → ℕ
faults_of_put put.Failed before = one_more before
faults_of_put put.Done before = before
