use Rattle.std.proofs.Common.{ap, ◌∙◌}
use Rattle.yr_pattern.specs.Set.{only, either}
use Rattle.yr_pattern.proofs.byte_set.ByteSet.one.Goals as goal

pub returns : goal.returns
returns c = c.with.ensures ∙ ap (λ s. either s (only c.args.b)) c.none.ensures
