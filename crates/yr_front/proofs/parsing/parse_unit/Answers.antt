use Rattle.yr_front.proofs.ParseLemmas.{parsed-ok, parsed-fault}
use Rattle.yr_front.proofs.parsing.parse_unit.Goals as goal

pub returns-in-Err-clause-parsed : goal.returns-in-Err-clause-parsed
returns-in-Err-clause-parsed c = λ reading reads.
    let g = c.args.unit.now.tokens in
    parsed-fault g (c.one_answer.ensures _ _) (reading.parsed g) c.in-Err.fault (reads.parses g) c.in-Err.ensures.refused

pub returns-in-Ok-from_slice-clause-parsed : goal.returns-in-Ok-from_slice-clause-parsed
returns-in-Ok-from_slice-clause-parsed c = λ reading reads.
    let g = c.args.unit.now.tokens in
    parsed-ok g (c.one_answer.ensures _ _) (reading.parsed g) _ (reads.parses g) c.in-Ok.ensures.found
