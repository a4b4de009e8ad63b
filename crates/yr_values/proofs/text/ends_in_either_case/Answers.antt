use Rattle.std.proofs.Common.{◌∙◌, ap, ◌-◌, length}
use Rattle.std.specs.Str.{bytes_eq}
use Rattle.yr_values.specs.Texts.{in_either_case}
use Rattle.yr_values.proofs.TextLemmas.{ends-in_either, rest-whole}
use Rattle.yr_values.proofs.text.ends_in_either_case.Goals as goal

pub returns-then-part-text : goal.returns-then-part-text
returns-then-part-text c =
    c.equals_in_either_case.ensures
    ∙ ap (λ l. in_either_case bytes_eq l c.args.part.now) (rest-whole c.args.text.now (length c.args.text.now - length c.args.part.now))
    ∙ ends-in_either c.args.text.now c.args.part.now
