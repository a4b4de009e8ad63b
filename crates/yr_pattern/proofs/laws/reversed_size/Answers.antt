use Rattle.yr_pattern.proofs.ReverseLemmas.{size_of-reverse_tree}
use Rattle.yr_pattern.proofs.laws.reversed_size.Goals as goal

pub returns : goal.returns
returns c = size_of-reverse_tree
