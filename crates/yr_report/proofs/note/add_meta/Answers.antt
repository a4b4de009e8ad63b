use Rattle.std.proofs.Common.{◌≡◌, ◌++◌, ℕ, List, [], refl, sym, ap, ◌∙◌, arith, append_assoc}
use Rattle.std.specs.Prelude.{codes}
use Rattle.yr_answer.specs.Report.{value_text, entry_text}
use Rattle.yr_image.specs.Views.{image_of}
use Rattle.yr_machine.specs.Names.{note_name}
use Rattle.yr_machine.specs.Listing.{meta_value, listed_meta}
use Rattle.yr_report.specs.Adding.{waiting}
use Rattle.yr_report.proofs.AddLemmas.{goes-start, goes-on, goes-ends, goes-breaks}
use Rattle.yr_report.proofs.note.add_meta.Goals as goal

-- the key, `=` and the value
parts : (key name value : List ℕ) → name ≡ key → key ++ (codes "=" ++ value) ≡ (name ++ (codes "=" ++ [])) ++ value
parts key name value e = ap (λ (l : List ℕ). l ++ (codes "=" ++ value)) (sym e) ∙ sym (append_assoc name (codes "=") value)

pub returns-in_err-add_all-clause-added : goal.returns-in_err-add_all-clause-added
returns-in_err-add_all-clause-added g c =
    let image = image_of c.args.view.now in
    goes-breaks (waiting c.add_all.new.line) c.from_residual.result (g.O.Sink.faults c.args.out.now) (g.O.Sink.faults c.args.out.now) (g.O.Sink.faults c.add_all.new.out)
    _ (value_text (meta_value image c.args.note.now)) c.from_residual.ensures.0 (omega arith) (goes-start _ _ _)
    (parts (note_name image c.args.note.now) c.note_name.result.now (value_text (meta_value image c.args.note.now)) c.note_name.ensures) c.in_err-add_all.ensures.added

pub returns-clause-added : goal.returns-clause-added
returns-clause-added g c =
    let image = image_of c.args.view.now in
    goes-ends (g.O.Sink.written c.add_value.new.out) (waiting c.add_value.new.line) (value_text (meta_value image c.args.note.now)) c.add_value.result
    (g.O.Sink.faults c.args.out.now) (g.O.Sink.faults c.add_all.new.out) (g.O.Sink.faults c.add_value.new.out) c.add_all.ensures.later
    (goes-on _ (goes-start _ _ (entry_text (listed_meta image c.args.note.now))) (parts (note_name image c.args.note.now) c.note_name.result.now (value_text (meta_value image c.args.note.now)) c.note_name.ensures) c.in_ok-add_all.ensures.added) refl
    c.add_value.ensures.added
