use Rattle.std.proofs.Common.{◌≡◌, map, sym, ap, ◌∙◌}
use Rattle.yr_syntax.specs.Declaration.{modifier_of, string_of}
use Rattle.yr_text.specs.Checked.{checked}
use Rattle.yr_checking.proofs.ModifierLemmas.{checked_said}
use Rattle.yr_checking.proofs.read_string.string_modifiers.Goals as goal

pub returns-in-Ok-clause-said : goal.returns-in-Ok-clause-said
returns-in-Ok-clause-said c =
    let modifiers = (string_of c.args.string.now).modifiers in
    let same : map modifier_of c.deref.result.now ≡ modifiers = ap (map modifier_of) c.deref.ensures.value in
    checked_said modifiers c.kind.result c.in-Ok.modifiers (sym (ap (λ l. checked l c.kind.result) same) ∙ sym c.check_modifiers.ensures.answer ∙ c.in-Ok.is)
