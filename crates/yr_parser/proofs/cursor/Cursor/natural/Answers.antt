use Rattle.std.proofs.Common.{◌∙◌, sym, ap}
use Rattle.yr_parser.specs.Terminals.{Number}
use Rattle.yr_parser.specs.Input.{first}
use Rattle.yr_parser.proofs.TokenLemmas.{there, number-natural}
use Rattle.yr_parser.proofs.cursor.Cursor.natural.Goals as goal

pub unreachable-requires : goal.unreachable-requires
unreachable-requires c =
    there c.self.inside.tokens.now c.self.inside.at (Number c.args.value) (ap first c.self.view_is ∙ c.requires) (sym c.token_at.ensures.value ∙ c.in-None.is)

pub returns : goal.returns
returns c =
    number-natural c.self.inside.tokens.now c.self.inside.at c.spelling-spelled.result.now c.args.value (ap first c.self.view_is ∙ c.requires) c.spelling-spelled.ensures.text c.spelling-spelled.ensures.spelled
