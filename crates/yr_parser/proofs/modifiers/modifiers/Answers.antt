use Rattle.std.proofs.Common.{rules}
use Rattle.yr_syntax.specs.Declaration.{modifier_of}
use Rattle.yr_parser.specs.Ruling.{next_modifier}
use Rattle.yr_parser.proofs.ManyLemmas.{many-vec}
use Rattle.yr_parser.proofs.modifiers.modifiers.Goals as goal

pub returns : goal.returns
returns c = many-vec modifier_of next_modifier _ (λ old new r t. search rules) c.many.result c.many.ensures
