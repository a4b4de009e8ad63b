use Rattle.std.proofs.Common.{◌≡◌, ◌≤◌, FitsSigned, w64, rules, arith, to_z, of_z, ◌+ℤ◌, pos}
use Rattle.std.proofs.lemmas.Int.{to_z-of_z}
use Rattle.yr_vm.proofs.TurnLemmas.{between, turns-counted}
use Rattle.yr_vm.proofs.beginning.numbers.Goals as goal

pub returns-clause-turns : goal.returns-clause-turns
returns-clause-turns c lists =
    let x_fits : FitsSigned w64 c.args.x = search rules in
    let y_fits : FitsSigned w64 c.args.y = search rules in
    let size = simp (to_z-of_z w64 c.args.x x_fits, to_z-of_z w64 c.args.y y_fits) at c.span-more.ensures in
    simp (to_z-of_z w64 c.args.x x_fits) (between c.args.x c.args.y c.span-more.result size (omega arith))

pub returns-clause-counted : goal.returns-clause-counted
returns-clause-counted c lists = turns-counted (to_z w64 (of_z w64 c.args.x) +ℤ pos 1) c.span-more.result
