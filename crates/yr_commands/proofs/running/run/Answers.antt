use Rattle.std.proofs.Common.{◌≡◌, Option, None, Some, map, string_bytes, refl, sym, ap, subst, ◌∙◌}
use Rattle.std.specs.Option.{option_map}
use Rattle.yr_words.specs.Commands.{Command}
use Rattle.yr_words.specs.Shown.{command_shown}
use Rattle.yr_words.specs.Words.{command_of}
use Rattle.yr_outcome.specs.Texts.{bad_words}
use Rattle.yr_outcome.specs.Fits.{seen}
use Rattle.yr_outcome.specs.Outcome.{with_command}
use Rattle.yr_outcome.specs.Steps.{FitsAnswer}
use Rattle.yr_commands.specs.Program.{all_setting}
use Rattle.yr_commands.proofs.CommandLemmas.{command-fits}
use Rattle.yr_commands.proofs.RunLemmas.{usage-fits}
use Rattle.yr_commands.proofs.running.run.Goals as goal

pub run_different-requires : goal.run_different-requires
run_different-requires g c = command-fits (map string_bytes c.args.words.now) (command_shown c.in-Ok-Some.command) (sym (ap (option_map command_shown) (sym c.in-Ok-Some.field-0-is) ∙ c.in-Ok-Some.ensures))

pub returns-in-Ok-Some-clause-fits : goal.returns-in-Ok-Some-clause-fits
returns-in-Ok-Some-clause-fits g c = λ reading reads files told.
    subst (λ (o : Option Command). FitsAnswer all_setting (λ found. with_command all_setting reading found files o) c.run_different.result
    (seen (g.F.Store.files c.args.store.now) (g.F.Store.trace c.args.store.now) (g.O.Sink.written c.args.out.now))
    (seen (g.F.Store.files c.run_different.new.store) (g.F.Store.trace c.run_different.new.store) (g.O.Sink.written c.run_different.new.out)))
    (ap (option_map command_shown) (sym c.in-Ok-Some.field-0-is) ∙ c.in-Ok-Some.ensures) (c.run_different.ensures.fits reading reads files told)

pub returns-in-Ok-None-clause-usage : goal.returns-in-Ok-None-clause-usage
returns-in-Ok-None-clause-usage g c = λ e. c.refuse.ensures bad_words refl

pub returns-in-Ok-None-clause-fits : goal.returns-in-Ok-None-clause-fits
returns-in-Ok-None-clause-fits g c = λ reading reads files told.
    usage-fits reading files c.refuse.result (seen (g.F.Store.files c.args.store.now) (g.F.Store.trace c.args.store.now) (g.O.Sink.written c.args.out.now)) told
    (command_of (map string_bytes c.args.words.now)) (sym (ap (option_map command_shown) (sym c.in-Ok-None.field-0-is) ∙ c.in-Ok-None.ensures)) (c.refuse.ensures bad_words refl)
