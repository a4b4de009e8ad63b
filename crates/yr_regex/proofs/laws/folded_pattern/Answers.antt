use Rattle.yr_regex.proofs.FoldLemmas.{branches-fold}
use Rattle.yr_regex.proofs.laws.folded_pattern.Goals as goal

pub returns : goal.returns
returns c = λ t dot_all bs r h. branches-fold dot_all r h
