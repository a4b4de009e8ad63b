use Rattle.yr_pattern.proofs.FoldLemmas.{letter_from_case, case_from_letter}
use Rattle.yr_pattern.proofs.laws.either_case.Goals as goal

pub returns : goal.returns
returns c = λ bytes b. (letter_from_case bytes b, case_from_letter bytes b)
