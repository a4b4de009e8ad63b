use Rattle.yr_image.specs.Image.{shown}
use Rattle.yr_preserves.specs.Shape.{IsCompiled}
use Rattle.yr_compiler.specs.Finds.{FindsSame}
use Rattle.yr_rules.specs.Rules.{rules_of}
use Rattle.yr_scan.specs.Scanned.{module_values}
use Rattle.yr_commands.proofs.StepLemmas.{image-ok}
use Rattle.yr_commands.proofs.rules_image.image_of.Goals as goal

pub returns-clause-compiled : goal.returns-clause-compiled
returns-clause-compiled c =
    image-ok c.encode.result (shown c.in_ok-tables.tables) (λ bytes. IsCompiled module_values bytes (rules_of c.args.rules.now)) c.encode.ensures.encoding c.encode.ensures.fits
    (λ fits. c.in_ok-tables.ensures.compiled fits module_values c.values_keep_the_table.ensures)

pub returns-clause-finds : goal.returns-clause-finds
returns-clause-finds c =
    image-ok c.encode.result (shown c.in_ok-tables.tables) (λ bytes. FindsSame module_values bytes (rules_of c.args.rules.now)) c.encode.ensures.encoding c.encode.ensures.fits
    (λ fits. c.in_ok-tables.ensures.finds fits module_values c.values_keep_the_table.ensures)
