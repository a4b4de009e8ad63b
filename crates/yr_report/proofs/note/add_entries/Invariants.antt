use Rattle.std.proofs.Common.{◌≡◌, ◌+◌, ◌≤◌, false}
use Rattle.yr_image.specs.Views.{image_of}
use Rattle.yr_machine.specs.Listing.{notes_of}
use Rattle.yr_report.specs.Adding.{waiting}
use Rattle.yr_report.specs.Entries.{is_asked, note_text, entries}
use Rattle.yr_report.proofs.AddLemmas.{Goes}
use Rattle.yr_report.proofs.RangeLemmas.{between}
use Rattle.yr_report.proofs.note.add_entries.Given as goal

-- the entries from note k on are to come
abbrev pub invariant-loop-k : goal.invariant-loop-k
invariant-loop-k g l =
    let text = entries (is_asked l.tags) (note_text (image_of l.view) l.tags) in record {
      later : g.O.Sink.faults l.fn.out ≤ g.O.Sink.faults l.out;
      end : l.k-end ≡ l.rule.first_note + l.rule.notes;
      goes : Goes (g.O.Sink.written l.fn.out) (g.O.Sink.written l.out) (waiting l.fn.line) (waiting l.line)
          (text l.some (between l.k l.k-end (image_of l.view).notes)) (text false (notes_of (image_of l.view) l.rule));
    }
