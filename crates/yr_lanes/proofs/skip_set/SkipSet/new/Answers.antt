use Rattle.yr_lanes.specs.Members.{in_members}
use Rattle.yr_lanes.proofs.SetLemmas.{members_pass, passing_are_members, Contains-lt}
use Rattle.yr_lanes.proofs.skip_set.SkipSet.new.Goals as goal

pub returns : goal.returns
returns c b =
    let test = in_members c.new.result in (
      λ h. (c.new.ensures b).0 (members_pass test b h),
      λ h. passing_are_members test b (Contains-lt c.args.set.now b c.type_inv.set h) ((c.new.ensures b).1 h),
    )
