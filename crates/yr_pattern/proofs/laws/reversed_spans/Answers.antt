use Rattle.yr_pattern.proofs.ReverseLemmas.{down_from_up, up_from_down}
use Rattle.yr_pattern.proofs.laws.reversed_spans.Goals as goal

pub returns : goal.returns
returns c = λ tree file i j. (down_from_up file tree i j, up_from_down file tree i j)
