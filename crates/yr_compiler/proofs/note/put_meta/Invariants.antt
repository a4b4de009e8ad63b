use Rattle.std.proofs.Common.{map, take}
use Rattle.yr_syntax.specs.Declaration.{meta_of}
use Rattle.yr_compiler.specs.Notes.{entry_of}
use Rattle.yr_compiler.specs.Putting.{PutsNotes}
use Rattle.yr_compiler.proofs.note.put_meta.Given as goal

abbrev pub invariant-loop-m : goal.invariant-loop-m
invariant-loop-m l = PutsNotes l.initial.draft l.draft (map entry_of (map meta_of (take l.m-index l.meta)))
