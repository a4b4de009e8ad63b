use Rattle.yr_pattern.proofs.SpanLemmas.{spans_within}
use Rattle.yr_pattern.proofs.laws.span_in_file.Goals as goal

pub returns : goal.returns
returns c = λ tree file i j b h. spans_within file tree i j b h
