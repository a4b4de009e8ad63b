use Rattle.std.proofs.Common.{ℕ, List, map, take, sym, subst}
use Rattle.yr_syntax.specs.Declaration.{bytes_of}
use Rattle.yr_compiler.specs.Notes.{Note, Tag}
use Rattle.yr_compiler.specs.Putting.{PutsNote, PutsNotes}
use Rattle.yr_compiler.proofs.NoteLemmas.{no_notes, note_put, notes_after}
use Rattle.yr_compiler.proofs.LoopLemmas.{one_more_of}
use Rattle.yr_compiler.proofs.note.put_tags.Goals as goal

pub loop-tag-init : goal.loop-tag-init
loop-tag-init c = no_notes c.args.draft.now

pub loop-tag-preserved : goal.loop-tag-preserved
loop-tag-preserved c =
    let xs = c.args.tags.now in
    let k = c.loop-tag.tag-index in
    let x = c.tag-item.result in
    let old = c.loop-tag.draft in
    let middle = c.tag_row.new.draft in
    let new = c.put_note.new.self in
    let row = c.in_ok-row.row in
    let done = map Tag (map bytes_of (take k xs)) in
    let P : List Note → Type 0 = λ notes. PutsNotes c.args.draft.now new notes in
    let Q : List ℕ → Type 0 = λ l. PutsNote old middle (Tag l) row in
    let texts = subst Q c.deref.ensures.value c.in_ok-row.ensures in
    subst P (sym (one_more_of Tag bytes_of xs k x c.loop-tag-test.true c.tag-item.is))
    (notes_after c.args.draft.now old new done _ c.loop-tag.invariant (note_put old middle new (Tag (bytes_of x)) row texts c.in_ok-put_note.ensures))
