use Rattle.std.specs.List.{Contains}
use Rattle.yr_lanes.proofs.SetLemmas.{IsNextPlace-same}
use Rattle.yr_lanes.proofs.skip_set.skip_to.Goals as goal

pub returns : goal.returns
returns c =
    IsNextPlace-same (Contains c.new.result) (Contains c.args.set.now) c.args.file.now c.args.from c.find_from.result c.type_inv.file
    (λ b h. (c.new.ensures b).1 h) (λ b l h. (c.new.ensures b).0 h) c.find_from.ensures
