use Rattle.std.proofs.Common.{refl, ◌∙◌}
use Rattle.yr_regex.proofs.Basics.{either-same}
use Rattle.yr_regex.proofs.escape.word.Goals as goal

pub returns : goal.returns
returns c = c.union.ensures ∙ either-same (c.with.ensures ∙ either-same (c.union-letters.ensures ∙ either-same c.between.ensures c.between-2.ensures) refl) c.between-3.ensures
