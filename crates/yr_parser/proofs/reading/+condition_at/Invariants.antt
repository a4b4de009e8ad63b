use Rattle.yr_parser.proofs.reading.+condition_at.Given as goal

abbrev pub decreases-condition_at : goal.decreases-condition_at
decreases-condition_at l = l.depth
