use Rattle.yr_hex.proofs.GapLemmas.{gap-read}
use Rattle.yr_hex.proofs.cursor.Cursor.skip_gap.Goals as goal

pub returns : goal.returns
returns c = let e = gap-read c.past_gap-self-inside.ensures in cc (e, c.self.view_is)
