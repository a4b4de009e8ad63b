use Rattle.std.proofs.Common.{◌≡◌, ℕ, List, Option, None, Some, codes, sym, ap, subst, ◌∙◌}
use Rattle.std.specs.Option.{option_map}
use Rattle.yr_words.specs.Commands.{givens_of}
use Rattle.yr_words.specs.Values.{Given}
use Rattle.yr_words.specs.Shown.{command_shown}
use Rattle.yr_outcome.specs.declared.status.Status.TheVariants as status
use Rattle.yr_outcome.specs.Texts.{external_text}
use Rattle.yr_outcome.specs.Externals.{twice_given}
use Rattle.yr_outcome.specs.Fits.{seen}
use Rattle.yr_outcome.specs.Outcome.{with_names}
use Rattle.yr_outcome.specs.Steps.{FitsAnswer, IsRefusalOf}
use Rattle.yr_commands.specs.Program.{all_setting}
use Rattle.yr_commands.proofs.RunLemmas.{twice-fits, twice-text, some-same}
use Rattle.yr_commands.proofs.running.run_different.Goals as goal

pub returns-in-Ok-Some-clause-twice : goal.returns-in-Ok-Some-clause-twice
returns-in-Ok-Some-clause-twice g c = λ name e.
    let found = c.in-Ok-Some.name.now in
    let same : found ≡ name = some-same found name (ap (option_map (λ n. n.now)) (sym c.in-Ok-Some.field-0-is) ∙ c.in-Ok-Some.ensures ∙ ap twice_given c.givens_of.ensures ∙ e) in
    subst (λ n. IsRefusalOf status.External (external_text n (codes "Twice")) c.refuse.result) same (c.refuse.ensures (external_text found (codes "Twice")) (twice-text found))

pub returns-in-Ok-Some-clause-fits : goal.returns-in-Ok-Some-clause-fits
returns-in-Ok-Some-clause-fits g c = λ reading reads files told.
    let found = c.in-Ok-Some.name.now in
    twice-fits reading files c.refuse.result (seen (g.F.Store.files c.args.store.now) (g.F.Store.trace c.args.store.now) (g.O.Sink.written c.args.out.now)) told
    (command_shown c.args.command.now) found (sym (ap (option_map (λ n. n.now)) (sym c.in-Ok-Some.field-0-is) ∙ c.in-Ok-Some.ensures ∙ ap twice_given c.givens_of.ensures))
    (c.refuse.ensures (external_text found (codes "Twice")) (twice-text found))

pub returns-in-Ok-None-clause-fits : goal.returns-in-Ok-None-clause-fits
returns-in-Ok-None-clause-fits g c = λ reading reads files told.
    subst (λ (o : Option (List ℕ)). FitsAnswer all_setting (λ found. with_names all_setting reading found files (command_shown c.args.command.now) o) c.run_command.result
    (seen (g.F.Store.files c.args.store.now) (g.F.Store.trace c.args.store.now) (g.O.Sink.written c.args.out.now))
    (seen (g.F.Store.files c.run_command.new.store) (g.F.Store.trace c.run_command.new.store) (g.O.Sink.written c.run_command.new.out)))
    (ap (option_map (λ n. n.now)) (sym c.in-Ok-None.field-0-is) ∙ c.in-Ok-None.ensures ∙ ap twice_given c.givens_of.ensures)
    (c.run_command.ensures.fits reading reads files told)
