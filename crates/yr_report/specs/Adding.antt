-- What is added to a line that waits to be put, and what was put meanwhile.
use Rattle.std.specs.Prelude.{◌≡◌, ℕ, List, ◌++◌, take, Option, Result, Ok, Err}
use Rattle.yr_base.specs.Causes.{HasRisen}
use Rattle.yr_base.specs.Told.{told_more, AddsPrefix}
use Rattle.yr_report.specs.declared.line.Failed.{Failed}
use Rattle.yr_report.specs.declared.line.Line.{Line}

-- the bytes that wait
abbrev pub waiting : Line → List ℕ
waiting line = take line.len line.bytes

-- some bytes were put, and the others wait: together they are those that waited and the piece
pub record Added (old new : Option (List ℕ)) (before after piece : List ℕ) : Type 0 where
  pub bytes : List ℕ
  pub put : new ≡ told_more old bytes
  pub whole : before ++ piece ≡ bytes ++ after

-- the piece was added; or a put failed, and a prefix of all was put
abbrev pub Adds : (old new : Option (List ℕ)) → (before after piece : List ℕ) → Result (Unit {0}) Failed → ℕ → ℕ → Type 0
Adds old new before after piece (Ok u) faults later = Added old new before after piece
Adds old new before after piece (Err e) faults later = HasRisen faults later × AddsPrefix old new (before ++ piece)
