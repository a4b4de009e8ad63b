-- Reads that are noted one after another.
use Rattle.std.proofs.Common.{◌≡◌, ℕ, List, [], ◌∷◌, ◌++◌, map, Option, refl, sym, ap, ◌∙◌, append-nil}
use Rattle.std.proofs.lemmas.List.{map-append}
use Rattle.yr_base.specs.Told.{told_more, told_more-after, told_more-nil}
use Rattle.yr_base.specs.Trace.{Entry}
use Rattle.yr_base.specs.Notes.{read_noted, failure_noted, NotesAll, NotesSome, NotesFailure}

-- nothing was read
pub NotesAll-none : (old new : Option (List Entry)) → new ≡ old → NotesAll old new []
NotesAll-none old new e = e ∙ sym (told_more-nil old)

-- some reads, and then one more
pub NotesAll-then : (old mid new : Option (List Entry)) (done all : List (List ℕ)) (name : List ℕ)
    → NotesAll old mid done → new ≡ told_more mid (read_noted name ∷ []) → all ≡ done ++ name ∷ [] → NotesAll old new all
NotesAll-then old mid new done all name so_far e whole =
    told_more-after old mid new (map read_noted done) (read_noted name ∷ []) (map read_noted all) so_far e (ap (map read_noted) whole ∙ map-append read_noted done (name ∷ []))

-- some reads, of all that there are to make
pub NotesSome-of : (old new : Option (List Entry)) (done rest all : List (List ℕ)) → NotesAll old new done → all ≡ done ++ rest → NotesSome old new all
NotesSome-of old new done rest all so_far whole = record { done = done; rest = rest; whole = whole; added = so_far }

-- all reads are some of them
pub NotesSome-all : (old new : Option (List Entry)) (all : List (List ℕ)) → NotesAll old new all → NotesSome old new all
NotesSome-all old new all e = NotesSome-of old new all [] all e (sym (append-nil all))

-- some reads, and then one that failed
pub NotesFailure-then : (old mid new : Option (List Entry)) (done rest all : List (List ℕ)) (name : List ℕ)
    → NotesAll old mid done → new ≡ told_more mid (failure_noted name ∷ []) → all ≡ done ++ name ∷ rest → NotesFailure old new all name
NotesFailure-then old mid new done rest all name so_far e whole = record {
  done = done;
  rest = rest;
  whole = whole;
  added = told_more-after old mid new (map read_noted done) (failure_noted name ∷ []) _ so_far e refl;
}
