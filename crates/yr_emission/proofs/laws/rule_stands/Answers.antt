use Rattle.yr_emission.proofs.EmittedLemmas as lemma
use Rattle.yr_emission.proofs.laws.rule_stands.Goals as goal

pub returns : goal.returns
returns _ externals c k bounds old new whole first count e g b l h f =
    (lemma.rule_stands externals c k bounds old new whole first count e g b l h f, lemma.rule_size externals c old new whole first count e b)
