use Rattle.yr_pattern.specs.Spans.{Forwards}
use Rattle.yr_pattern.proofs.SpanLemmas.{walk_flat, walk_nested}
use Rattle.yr_pattern.proofs.laws.nested_sequence.Goals as goal

pub returns : goal.returns
returns c = λ front us back file i j. (walk_flat (Forwards file) file front us back i j, walk_nested (Forwards file) file front us back i j)
