use Rattle.yr_emission.proofs.EmittedLemmas as lemma
use Rattle.yr_emission.proofs.laws.rule_fits.Goals as goal

pub returns : goal.returns
returns _ externals c k old new first count e h = lemma.rule_fits externals c k old new first count e h
