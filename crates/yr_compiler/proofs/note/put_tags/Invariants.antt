use Rattle.std.proofs.Common.{map, take}
use Rattle.yr_syntax.specs.Declaration.{bytes_of}
use Rattle.yr_compiler.specs.Notes.{Tag}
use Rattle.yr_compiler.specs.Putting.{PutsNotes}
use Rattle.yr_compiler.proofs.note.put_tags.Given as goal

abbrev pub invariant-loop-tag : goal.invariant-loop-tag
invariant-loop-tag l = PutsNotes l.initial.draft l.draft (map Tag (map bytes_of (take l.tag-index l.tags)))
