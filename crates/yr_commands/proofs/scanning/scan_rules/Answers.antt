use Rattle.std.proofs.Common.{refl, sym, subst}
use Rattle.yr_preserves.specs.Shape.{IsCompiled}
use Rattle.yr_rules.specs.Rules.{rules_of}
use Rattle.yr_scan.specs.Scanned.{module_values}
use Rattle.yr_commands.specs.Program.{all_setting}
use Rattle.yr_commands.proofs.scanning.scan_rules.Goals as goal

pub returns-in-Ok-clause-fits : goal.returns-in-Ok-clause-fits
returns-in-Ok-clause-fits g c = λ reading files told.
    let rules = rules_of c.args.rules.now in
    c.scan_compiled.ensures.fits all_setting refl reading rules
    (subst (λ bytes. IsCompiled module_values bytes rules) (sym c.deref.ensures.value) c.in-Ok.ensures.compiled) files told
