use Rattle.std.proofs.Common.{◌≡◌, ◌≤◌, ◌∷◌, [], List, length, Ok, None, refl, sym, ap, subst, ◌∙◌}
use Rattle.yr_base.specs.Memory.{file_in}
use Rattle.yr_base.specs.Store.{Files}
use Rattle.yr_modules.specs.Joined.{all_modules}
use Rattle.yr_rules.specs.Rules.{rules_of}
use Rattle.yr_words.specs.Commands.{Work}
use Rattle.yr_workload.specs.Workload.{Workload, workload_of}
use Rattle.yr_outcome.specs.Fits.{seen}
use Rattle.yr_outcome.specs.Front as front
use Rattle.yr_outcome.specs.Outcome.{run, work_source}
use Rattle.yr_outcome.specs.Steps.{FitsAnswer, HasCause}
use Rattle.yr_front.specs.Units.{RefusedBy}
use Rattle.yr_commands.specs.Program.{all_setting}
use Rattle.yr_commands.proofs.SizeLemmas.{file-fits}
use Rattle.yr_commands.proofs.WorkLemmas.{store-files, work-fits, work-refused, refusal-cause}
use Rattle.yr_commands.proofs.working.work.Goals as goal

pub show_numbers-requires-clause-small : goal.show_numbers-requires-clause-small
show_numbers-requires-clause-small g c =
    subst (λ l. length l ≤ 268435456) (sym (c.deref-in-Ok-checked_rules.ensures.value ∙ ap (λ (w : Workload). w.file) c.in-Ok.ensures.work)) (file-fits c.args.number c.args.size c.requires)

pub returns-in-Ok-checked_rules-clause-fits : goal.returns-in-Ok-checked_rules-clause-fits
returns-in-Ok-checked_rules-clause-fits g c = λ reading reads files told is trace.
    let store = c.in-Ok-store_of.store in
    let made = workload_of c.args.number c.args.size in
    let same = store-files store c.deref.result.now made c.in-Ok-store_of.ensures (c.deref.ensures.value ∙ ap (λ (w : Workload). w.rules) c.in-Ok.ensures.work) in
    let found = (c.in-Ok-checked_rules.ensures.fits all_setting refl reading reads (file_in store.files) refl None).0 in
    work-fits reading files c.args.number c.args.size (rules_of c.in-Ok-checked_rules.rules) c.deref-in-Ok-checked_rules.result.now c.show_numbers.result _ _
    (subst (λ (f : Files). front.rules_of reading all_modules f (work_source ∷ []) [] ≡ Ok (rules_of c.in-Ok-checked_rules.rules)) same found)
    (c.deref-in-Ok-checked_rules.ensures.value ∙ ap (λ (w : Workload). w.file) c.in-Ok.ensures.work)
    (c.show_numbers.ensures.fits files told is trace)

pub returns-clause-cause : goal.returns-clause-cause
returns-clause-cause g c = λ before after.
    subst (λ a. HasCause None a before after (g.O.Sink.faults c.args.out.now) (g.O.Sink.faults c.args.out.now)) (sym c.refusal_in.ensures)
    (refusal-cause c.in-Err.answer _ _ 0 0 before after (g.O.Sink.faults c.args.out.now) (g.O.Sink.faults c.args.out.now) (c.in-Err.ensures.cause None 0 0))

pub returns-clause-fits : goal.returns-clause-fits
returns-clause-fits g c = λ reading reads files told is trace.
    let store = c.in-Ok-store_of.store in
    let made = workload_of c.args.number c.args.size in
    let same = store-files store c.deref.result.now made c.in-Ok-store_of.ensures (c.deref.ensures.value ∙ ap (λ (w : Workload). w.rules) c.in-Ok.ensures.work) in
    let v = seen told trace (g.O.Sink.written c.args.out.now) in
    subst (λ a. FitsAnswer all_setting (λ found. run all_setting reading found files (Work c.args.number c.args.size)) a v v) (sym c.refusal_in.ensures)
    (work-refused reading files c.args.number c.args.size c.in-Err.answer v is
    (subst (λ (f : Files). RefusedBy (front.rules_of reading all_modules f (work_source ∷ []) []) c.in-Err.answer) same
    (c.in-Err.ensures.refused reading reads all_modules refl (file_in store.files) refl)) _ _ 0 0 (c.in-Err.ensures.cause None 0 0))
