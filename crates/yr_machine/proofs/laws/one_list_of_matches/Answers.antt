use Rattle.yr_machine.proofs.OneScan as lemma
use Rattle.yr_machine.proofs.laws.one_list_of_matches.Goals as goal

pub returns : goal.returns
returns c = lemma.one_list_of_matches
