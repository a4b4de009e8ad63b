use Rattle.std.proofs.Common.{rules, ◌≡◌, ◌∙◌, sym, ap, map, true, false}
use Rattle.std.specs.Option.{option_map}
use Rattle.yr_values.specs.Names.{module_shown}
use Rattle.yr_conditions.specs.Meanings.{Module}
use Rattle.yr_conditions.proofs.MeaningLemmas.{imported-absent, imported-present}
use Rattle.yr_conditions.proofs.word.imported_module.Goals as goal

pub returns-then-not-has : goal.returns-then-not-has
returns-then-not-has c =
    let gone : c.has.result ≡ false = search rules in
    sym (ap (option_map Module) (imported-absent c.args.around.now.imports.now (map module_shown c.args.around.now.modules.now) c.args.word.now (sym c.has.ensures ∙ gone)))

pub returns-in-Some : goal.returns-in-Some
returns-in-Some c =
    let there : c.has.result ≡ true = search rules in
    sym (ap (option_map Module) (imported-present c.args.around.now.imports.now (map module_shown c.args.around.now.modules.now) c.args.word.now (sym c.has.ensures ∙ there) ∙ sym c.in-Some.ensures))

pub returns-in-None : goal.returns-in-None
returns-in-None c =
    let there : c.has.result ≡ true = search rules in
    sym (ap (option_map Module) (imported-present c.args.around.now.imports.now (map module_shown c.args.around.now.modules.now) c.args.word.now (sym c.has.ensures ∙ there) ∙ sym c.in-None.ensures))
