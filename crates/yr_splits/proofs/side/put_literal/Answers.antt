use Rattle.yr_splits.proofs.SideCostLemmas.{text_put}
use Rattle.yr_splits.proofs.side.put_literal.Goals as goal

pub returns : goal.returns
returns c = text_put c.args.draft.now c.put_text.new.self c.args.bytes.now c.in_ok-place.place c.in_ok-place.ensures
