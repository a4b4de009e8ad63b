use Rattle.yr_pattern.proofs.FoldLemmas.{size_of-fold_tree}
use Rattle.yr_pattern.proofs.laws.folded_size.Goals as goal

pub returns : goal.returns
returns c = size_of-fold_tree
