use Rattle.std.proofs.Common.{◌∙◌, ap}
use Rattle.std.specs.Prelude.{is_some}
use Rattle.yr_name_tables.proofs.PlaceLemmas.{place-has}
use Rattle.yr_name_tables.proofs.numbered.Numbered.has.Goals as goal

pub returns : goal.returns
returns c = c.is_some.ensures ∙ ap is_some c.number.ensures.value ∙ place-has c.args.name.now c.args.self.now
