use Rattle.std.proofs.Common.{[], refl, sym, subst}
use Rattle.yr_preserves.specs.Shape.{IsCompiled}
use Rattle.yr_rules.specs.Rules.{rules_of}
use Rattle.yr_scan.specs.Scanned.{module_values}
use Rattle.yr_outcome.specs.Outcome.{Found, CompiledTo, written}
use Rattle.yr_commands.specs.Program.{all_setting}
use Rattle.yr_commands.proofs.compiling.write_image.Goals as goal

pub returns-in-Ok-clause-fits : goal.returns-in-Ok-clause-fits
returns-in-Ok-clause-fits g c = λ files told out.
    let rules = rules_of c.args.rules.now in
    let found : Found = record { image = c.deref.result.now; report = []; hits = 0 } in
    c.write_output.ensures.fits all_setting files told out (λ found. written files c.args.output.now found.image (CompiledTo rules)) found (CompiledTo rules) refl
    (subst (λ bytes. IsCompiled module_values bytes rules) (sym c.deref.ensures.value) c.in-Ok.ensures.compiled)
