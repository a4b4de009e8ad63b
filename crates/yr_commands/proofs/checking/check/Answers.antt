use Rattle.std.proofs.Common.{map, refl, ◌∙◌}
use Rattle.yr_rules.specs.Rules.{rules_of}
use Rattle.yr_words.specs.Shown.{source_shown, given_shown}
use Rattle.yr_outcome.specs.Answers.{check_line}
use Rattle.yr_outcome.specs.Fits.{seen}
use Rattle.yr_outcome.specs.Outcome.{Free, shown}
use Rattle.yr_front.proofs.FrontLemmas.{after_front}
use Rattle.yr_commands.specs.Program.{all_setting}
use Rattle.yr_commands.proofs.checking.check.Goals as goal

pub returns-in-Ok-clause-fits : goal.returns-in-Ok-clause-fits
returns-in-Ok-clause-fits g c = λ reading reads files told.
    let out = g.O.Sink.written c.args.out.now in
    let w = c.in-Ok.ensures.fits all_setting refl reading reads files told out in
    after_front all_setting reading files (map source_shown c.args.sources.now) (map given_shown c.args.givens.now)
    (λ found rules. shown files (check_line rules) Free) (rules_of c.in-Ok.rules) c.show_counts.result
    (seen (g.F.Store.files c.args.store.now) (g.F.Store.trace c.args.store.now) out) (seen (g.F.Store.files c.checked_rules.new.store) (g.F.Store.trace c.checked_rules.new.store) out)
    (seen (g.F.Store.files c.checked_rules.new.store) (g.F.Store.trace c.checked_rules.new.store) (g.O.Sink.written c.show_counts.new.out)) w.0 w.1
    (c.show_counts.ensures.fits all_setting files (g.F.Store.files c.checked_rules.new.store) (c.in-Ok.ensures.files ∙ told) (g.F.Store.trace c.checked_rules.new.store))

pub returns-in-Err-clause-fits : goal.returns-in-Err-clause-fits
returns-in-Err-clause-fits g c = λ reading reads files told.
    c.in-Err.ensures.fits all_setting refl reading reads files told (g.O.Sink.written c.args.out.now) (λ found rules. shown files (check_line rules) Free)
