use Rattle.std.proofs.Common.{List, ◌++◌, map, subst, ap, ap₂}
use Rattle.yr_syntax.specs.Declaration.{bytes_of, meta_of}
use Rattle.yr_compiler.specs.Notes.{Note, Tag, entry_of}
use Rattle.yr_compiler.specs.Putting.{PutsNotes}
use Rattle.yr_compiler.proofs.NoteLemmas.{notes_after}
use Rattle.yr_compiler.proofs.note.put_notes.Goals as goal

pub returns-clause-notes : goal.returns-clause-notes
returns-clause-notes c =
    let tags = ap (λ l. map Tag (map bytes_of l)) c.deref.ensures.value in
    let meta = ap (λ l. map entry_of (map meta_of l)) c.deref-2.ensures.value in
    let P : List Note → Type 0 = λ notes. PutsNotes c.args.draft.now c.put_meta.new.draft notes in
    subst P (ap₂ (λ (x y : List Note). x ++ y) tags meta)
    (notes_after c.args.draft.now c.put_tags.new.draft c.put_meta.new.draft _ _ c.in_ok-put_tags.ensures c.in_ok-put_meta.ensures)
