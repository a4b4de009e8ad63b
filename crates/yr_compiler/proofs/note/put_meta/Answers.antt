use Rattle.std.proofs.Common.{List, map, take, sym, subst}
use Rattle.yr_syntax.specs.Declaration.{meta_of}
use Rattle.yr_compiler.specs.Notes.{Note, entry_of}
use Rattle.yr_compiler.specs.Putting.{PutsNotes}
use Rattle.yr_compiler.proofs.NoteLemmas.{no_notes, note_put, notes_after}
use Rattle.yr_compiler.proofs.LoopLemmas.{one_more_of}
use Rattle.yr_compiler.proofs.note.put_meta.Goals as goal

pub loop-m-init : goal.loop-m-init
loop-m-init c = no_notes c.args.draft.now

pub loop-m-preserved : goal.loop-m-preserved
loop-m-preserved c =
    let xs = c.args.meta.now in
    let k = c.loop-m.m-index in
    let x = c.m-item.result in
    let old = c.loop-m.draft in
    let middle = c.meta_row.new.draft in
    let new = c.put_note.new.self in
    let row = c.in_ok-row.row in
    let done = map entry_of (map meta_of (take k xs)) in
    let P : List Note → Type 0 = λ notes. PutsNotes c.args.draft.now new notes in
    subst P (sym (one_more_of entry_of meta_of xs k x c.loop-m-test.true c.m-item.is))
    (notes_after c.args.draft.now old new done _ c.loop-m.invariant (note_put old middle new (entry_of (meta_of x)) row c.in_ok-row.ensures c.in_ok-put_note.ensures))
