use Rattle.std.proofs.Common.{nat_lt, ap₂, ◌∙◌, FitsSigned, w64}
use Rattle.std.proofs.lemmas.Int.{to_z-of_z}
use Rattle.yr_answer.proofs.ListLemmas.{begins_where}
use Rattle.yr_answer.proofs.list.begins_at.Goals as goal

pub returns : goal.returns
returns c =
    let f : FitsSigned w64 c.args.offset = c.ranges.offset in
    ap₂ nat_lt (simp to_z-of_z at c.count_before.ensures.count) (simp to_z-of_z at c.count_up_to.ensures.count) ∙ begins_where c.args.offset c.args.list.now
