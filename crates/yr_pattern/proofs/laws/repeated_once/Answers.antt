use Rattle.yr_pattern.specs.Spans.{Forwards}
use Rattle.yr_pattern.proofs.SpanLemmas.{walk_once, walk_as_once}
use Rattle.yr_pattern.proofs.laws.repeated_once.Goals as goal

pub returns : goal.returns
returns c = λ tree file i j. (walk_once (Forwards file) file tree i j, walk_as_once (Forwards file) file tree i j)
