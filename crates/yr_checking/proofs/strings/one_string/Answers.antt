use Rattle.yr_checking.proofs.strings.one_string.Goals as goal

pub returns-in-Text-clause-weight : goal.returns-in-Text-clause-weight
returns-in-Text-clause-weight c = c.text_findings.ensures.weight c.args.rule
