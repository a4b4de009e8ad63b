use Rattle.std.proofs.Common.{arith, FitsSigned, w64}
use Rattle.std.proofs.lemmas.Int.{to_z-of_z}
use Rattle.yr_answer.proofs.ListLemmas.{count_parts, count_turned}
use Rattle.yr_answer.proofs.list.count_within.Goals as goal

pub returns-then-high-low-clause-count : goal.returns-then-high-low-clause-count
returns-then-high-low-clause-count c =
    let f : FitsSigned w64 c.args.low = c.ranges.low in
    let g : FitsSigned w64 c.args.high = c.ranges.high in
    count_turned c.args.low c.args.high c.args.list.now (simp to_z-of_z at c.if-high-low.true)

pub returns-clause-count : goal.returns-clause-count
returns-clause-count c =
    let f : FitsSigned w64 c.args.low = c.ranges.low in
    let g : FitsSigned w64 c.args.high = c.ranges.high in
    let parts = count_parts c.args.low c.args.high c.args.list.now (simp to_z-of_z at c.if-high-low.false) in
    let before = simp to_z-of_z at c.count_before-before.ensures.count in
    let all = simp to_z-of_z at c.count_up_to.ensures.count in
    omega (arith, parts, before, all)
