-- What a call that reads files notes in a store's trace: all of the reads that it is to make, or a prefix of them.
use Rattle.std.specs.Prelude.{◌≡◌, List, [], ◌∷◌, ◌++◌, ℕ, map, true, false, Option}
use Rattle.yr_base.specs.Told.{told_more}
use Rattle.yr_base.specs.Trace.{Entry}

-- a read that did not fail, and one that did
abbrev pub read_noted : List ℕ → Entry
read_noted name = record { writes = false; name = name; failed = false }

abbrev pub failure_noted : List ℕ → Entry
failure_noted name = record { writes = false; name = name; failed = true }

-- all these reads were noted, none as failed
abbrev pub NotesAll : Option (List Entry) → Option (List Entry) → List (List ℕ) → Type 0
NotesAll old new reads = new ≡ told_more old (map read_noted reads)

-- a prefix of these reads was noted, none as failed
pub record NotesSome (old new : Option (List Entry)) (reads : List (List ℕ)) : Type 0 where
  pub done : List (List ℕ)
  pub rest : List (List ℕ)
  pub whole : reads ≡ done ++ rest
  pub added : new ≡ told_more old (map read_noted done)

-- a prefix of these reads was noted, the last of them, of this name, as failed
pub record NotesFailure (old new : Option (List Entry)) (reads : List (List ℕ)) (name : List ℕ) : Type 0 where
  pub done : List (List ℕ)
  pub rest : List (List ℕ)
  pub whole : reads ≡ done ++ name ∷ rest
  pub added : new ≡ told_more old (map read_noted done ++ failure_noted name ∷ [])
