-- The files that a store tells, and what its calls answer.
use Rattle.std.specs.Prelude.{◌≡◌, ℕ, ◌+◌, ◌≤◌, ◌<◌, List, [], ◌∷◌, length, take, true, false, Option, Some, if◌then◌else◌}
use Rattle.std.specs.Option.{option_map}
use Rattle.std.specs.Str.{bytes_eq}
use Rattle.yr_base.specs.Causes.{HasRisen}
use Rattle.yr_base.specs.Trace.{Entry}
use Rattle.yr_base.specs.declared.store.ReadAnswer.{ReadAnswer}
use Rattle.yr_base.specs.declared.store.ReadAnswer.TheVariants as read
use Rattle.yr_base.specs.declared.store.WriteAnswer.{WriteAnswer}
use Rattle.yr_base.specs.declared.store.WriteAnswer.TheVariants as write

-- what a name stands for, if there is a file of that name
abbrev pub Files : Type 0
Files = List ℕ → Option (List ℕ)

-- what a read of a name adds to the trace
abbrev pub read_entries : List ℕ → ReadAnswer → List Entry
read_entries name read.Done = record { writes = false; name = name; failed = false } ∷ []
read_entries name read.Long = record { writes = false; name = name; failed = false } ∷ []
read_entries name read.Failed = record { writes = false; name = name; failed = true } ∷ []
read_entries name read.NoMemory = []

-- what a write of a name adds to the trace
abbrev pub write_entries : List ℕ → WriteAnswer → List Entry
write_entries name write.Done = record { writes = true; name = name; failed = false } ∷ []
write_entries name write.Failed = record { writes = true; name = name; failed = true } ∷ []
write_entries name write.NoMemory = []

-- where files are told, this holds of them
abbrev pub IfTold : Option Files → (Files → Type 0) → Type 0
IfTold told P = (files : Files) → told ≡ Some files → P files

-- a longer file, and its front
pub record IsLonger (content : Option (List ℕ)) (limit : ℕ) (front : List ℕ) : Type 0 where
  pub all : List ℕ
  pub there : content ≡ Some all
  pub longer : limit < length all
  pub cut : front ≡ take (limit + 1) all

-- what a read gave: told files have it, and a failure raised the count
abbrev pub Reads : Option Files → List ℕ → ℕ → ReadAnswer → List ℕ → ℕ → ℕ → Type 0
Reads told name limit read.Done bytes before after =
    (length bytes ≤ limit) × IfTold told (λ files. files name ≡ Some bytes)
Reads told name limit read.Long bytes before after =
    (length bytes ≡ limit + 1) × IfTold told (λ files. IsLonger (files name) limit bytes)
Reads told name limit read.Failed bytes before after = HasRisen before after × (bytes ≡ [])
Reads told name limit read.NoMemory bytes before after = bytes ≡ []

-- told files after one of them was given this content
abbrev pub with_file : Option Files → List ℕ → Option (List ℕ) → Option Files
with_file old name content = option_map (λ files other. if bytes_eq name other then content else files other) old

-- what a write left: a failure raised the count, and may leave anything under that name alone
abbrev pub Writes : Option Files → Option Files → List ℕ → List ℕ → WriteAnswer → ℕ → ℕ → Type 0
Writes old new name bytes write.Done before after = new ≡ with_file old name (Some bytes)
Writes old new name bytes write.Failed before after =
    HasRisen before after × ((content : Option (List ℕ)) × (new ≡ with_file old name content))
Writes old new name bytes write.NoMemory before after = new ≡ old
