use Rattle.std.proofs.Common.{arith}
use Rattle.yr_lanes.proofs.SetLemmas.{Contains-three}
use Rattle.yr_lanes.proofs.skip_set.Members.new.Goals as goal

pub returns-in-len3 : goal.returns-in-len3
returns-in-len3 c b = Contains-three c.args.set.now b (omega arith)
