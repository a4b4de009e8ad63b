use Rattle.std.proofs.Common.{◌≡◌, ◌+◌, ◌++◌, ◌||◌, ℕ, List, false, refl, sym, ap, ◌∙◌, subst, arith, rules}
use Rattle.yr_image.specs.Views.{image_of}
use Rattle.yr_machine.specs.Listing.{notes_of}
use Rattle.yr_report.specs.Adding.{waiting}
use Rattle.yr_report.specs.Entries.{is_asked, note_text, entry, entries}
use Rattle.yr_report.proofs.AddLemmas.{Goes, goes-start, goes-on, goes-out, goes-breaks}
use Rattle.yr_report.proofs.RangeLemmas.{between, between-next, between-none, between-all}
use Rattle.yr_report.proofs.note.add_entries.Goals as goal

pub loop-k-init : goal.loop-k-init
loop-k-init g c =
    let image = image_of c.args.view.now in
    let rule = c.args.rule.now in
    let text = entries (is_asked c.args.tags) (note_text image c.args.tags) false in
    let all = text (notes_of image rule) in record {
      later = omega arith;
      end = refl;
      goes =
          subst (λ (l : List ℕ). Goes (g.O.Sink.written c.args.out.now) (g.O.Sink.written c.args.out.now) (waiting c.args.line.now) (waiting c.args.line.now) l all)
          (ap text (sym (between-all image.notes rule.first_note rule.notes (rule.first_note + rule.notes) refl))) (goes-start _ _ all);
    }

pub returns-in_err-add_entry-clause-added : goal.returns-in_err-add_entry-clause-added
returns-in_err-add_entry-clause-added g c =
    let image = image_of c.args.view.now in
    let test = is_asked c.args.tags in
    let text = note_text image c.args.tags in
    let l = c.loop-k in
    let end = c.args.rule.now.first_note + c.args.rule.now.notes in
    goes-breaks (waiting c.add_entry.new.line) c.from_residual.result (g.O.Sink.faults c.args.out.now) (g.O.Sink.faults l.out) (g.O.Sink.faults c.add_entry.new.out)
    (entry test text l.some c.note-note.result) _ c.from_residual.ensures.0 l.invariant.later l.invariant.goes
    (ap (entries test text l.some) (between-next image.notes l.k end c.note-note.result c.loop-k-test.true c.note-note.ensures)) c.in_err-add_entry.ensures.added

pub loop-k-preserved : goal.loop-k-preserved
loop-k-preserved g c =
    let image = image_of c.args.view.now in
    let test = is_asked c.args.tags in
    let text = note_text image c.args.tags in
    let l = c.loop-k in
    let end = c.args.rule.now.first_note + c.args.rule.now.notes in
    let note = c.note-note.result in
    let more = between (l.k + 1) end image.notes in
    let next : entries test text l.some (between l.k end image.notes) ≡ entry test text l.some note ++ entries test text (l.some || test note) more =
    ap (entries test text l.some) (between-next image.notes l.k end note c.loop-k-test.true c.note-note.ensures) in
    let later : (l.some || test note) ≡ c.either-some.result = sym (c.either-some.ensures ∙ ap (λ b. l.some || b) c.is_asked.ensures) in
    let all : entries test text l.some (between l.k end image.notes) ≡ entry test text l.some note ++ entries test text c.either-some.result more =
    next ∙ ap (λ b. entry test text l.some note ++ entries test text b more) later in record {
      later = search rules;
      end = refl;
      goes = goes-on _ l.invariant.goes all c.in_ok-add_entry.ensures.added;
    }

pub returns-clause-added : goal.returns-clause-added
returns-clause-added g c =
    let image = image_of c.args.view.now in
    let l = c.loop-k in
    let end = c.args.rule.now.first_note + c.args.rule.now.notes in
    goes-out l.invariant.goes (ap (entries (is_asked c.args.tags) (note_text image c.args.tags) l.some) (between-none image.notes l.k end c.loop-k-test.false))
