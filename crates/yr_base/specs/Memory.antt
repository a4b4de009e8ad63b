-- What a store in memory holds.
use Rattle.std.specs.Prelude.{◌≡◌, ◌⊎◌, ◌+◌, ◌-◌, ◌^◌, ◌||◌, ◌==◌, min, length, take, Contains, ℕ, Bool, true, false, List, [], ◌∷◌, ◌++◌, Option, None, Some, string_bytes, nat_lt, if◌then◌else◌}
use Rattle.std.specs.Str.{bytes_eq}
use Rattle.yr_base.specs.Store.{Files}
use Rattle.yr_base.specs.Trace.{Entry}
use Rattle.yr_base.specs.Causes.{one_more}
use Rattle.yr_base.specs.declared.store.ReadAnswer.{ReadAnswer}
use Rattle.yr_base.specs.declared.store.ReadAnswer.TheVariants as read
use Rattle.yr_base.specs.declared.store.WriteAnswer.{WriteAnswer}
use Rattle.yr_base.specs.declared.store.WriteAnswer.TheVariants as write
use Rattle.yr_base.specs.declared.memory_store.StoredFile.{StoredFile}
use Rattle.yr_base.specs.declared.memory_store.Call.{Call}

-- a name with its bytes, and a call, as they are kept
abbrev pub stored : StoredFile → List ℕ × List ℕ
stored f = (string_bytes f.name, f.bytes.items)

abbrev pub entry_of : Call → Entry
entry_of c = record { writes = c.writes; name = string_bytes c.name; failed = c.failed }

-- the first file of each name counts
abbrev pub file_in : List (List ℕ × List ℕ) → Files
file_in [] name = None
file_in (f ∷ fs) name = if bytes_eq f.0 name then Some f.1 else file_in fs name

-- the files, the calls so far, the numbers of calls that are to fail, and the count of faults
pub record MemoryView : Type 0 where
  pub files : List (List ℕ × List ℕ)
  pub trace : List Entry
  pub failing : List ℕ
  pub faults : ℕ

-- the bytes so far, the room, the puts that are to fail with the bytes that they take, how many puts there were, and the count of faults
pub record SinkView : Type 0 where
  pub written : List ℕ
  pub room : ℕ
  pub failing : List (ℕ × ℕ)
  pub puts : ℕ
  pub faults : ℕ

-- the call after so many is to fail
abbrev pub IsToFail : List ℕ → ℕ → Type 0
IsToFail failing calls = Contains failing (min (calls + 1) (2 ^ 64 - 1))

-- a read of this name is to fail
abbrev pub FailsHere : MemoryView → List ℕ → Type 0
FailsHere s name = IsToFail s.failing (length s.trace) ⊎ (file_in s.files name ≡ None)

-- the store after a call that did not fail, and after one that failed
abbrev pub with_call : Bool → List ℕ → MemoryView → MemoryView
with_call writes name s = record s { trace = s.trace ++ record { writes = writes; name = name; failed = false } ∷ [] }

abbrev pub with_failure : Bool → List ℕ → MemoryView → MemoryView
with_failure writes name s = record s {
  trace = s.trace ++ record { writes = writes; name = name; failed = true } ∷ [];
  faults = one_more s.faults;
}

-- the store after a read of a name that answered so
abbrev pub after_read : MemoryView → List ℕ → ReadAnswer → MemoryView
after_read s name read.Done = with_call false name s
after_read s name read.Long = with_call false name s
after_read s name read.Failed = with_failure false name s
after_read s name read.NoMemory = s

-- the store after a write of these bytes under a name that answered so
abbrev pub after_write : MemoryView → List ℕ → List ℕ → WriteAnswer → MemoryView
after_write s name bytes write.Done = with_call true name (record s { files = (name, bytes) ∷ s.files })
after_write s name bytes write.Failed = with_failure true name s
after_write s name bytes write.NoMemory = s

-- the later of two answers, if there is one
abbrev pub later : Option ℕ → Option ℕ → Option ℕ
later None earlier = earlier
later (Some n) earlier = Some n

-- How many bytes the put of this number takes, if it is to fail. Of two entries the later counts.
abbrev pub taken_at : List (ℕ × ℕ) → ℕ → Option ℕ
taken_at [] number = None
taken_at (x ∷ xs) number = later (taken_at xs number) (if x.0 == number then Some x.1 else None)

-- the put of a number, the first of which is 1
abbrev pub put_number : SinkView → ℕ
put_number s = min (s.puts + 1) (2 ^ 64 - 1)

-- the bytes for which there is room
abbrev pub room_left : SinkView → ℕ
room_left s = s.room - length s.written

abbrev pub is_some : {T : Type 0} → Option T → Bool
is_some None = false
is_some (Some x) = true

abbrev pub at_most : Option ℕ → ℕ → ℕ
at_most None n = n
at_most (Some most) n = min n most

-- the next put of this many bytes fails
abbrev pub put_fails : SinkView → ℕ → Bool
put_fails s count = is_some (taken_at s.failing (put_number s)) || nat_lt (room_left s) count

-- how many of this many bytes the next put takes
abbrev pub put_takes : SinkView → ℕ → ℕ
put_takes s count = at_most (taken_at s.failing (put_number s)) (min count (room_left s))

-- the sink after a put of these bytes
abbrev pub after_put : SinkView → List ℕ → SinkView
after_put s bytes = record s {
  written = s.written ++ take (put_takes s (length bytes)) bytes;
  puts = put_number s;
  faults = if put_fails s (length bytes) then one_more s.faults else s.faults;
}
