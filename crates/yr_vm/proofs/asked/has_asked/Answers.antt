use Rattle.std.proofs.Common.{◌≡◌, length, sym, ap, ◌∙◌, FitsSigned, w64, rules}
use Rattle.std.proofs.lemmas.Int.{to_z-of_z}
use Rattle.std.specs.Prelude.{nat_lt}
use Rattle.std.specs.List.{list_any}
use Rattle.yr_answer.specs.Lookups.{list_at, is_within}
use Rattle.yr_vm.specs.Strings.{asked_shown}
use Rattle.yr_vm.proofs.StringLemmas.{any-filter, any-item}
use Rattle.yr_vm.proofs.asked.has_asked.Goals as goal

pub returns-in-Anywhere : goal.returns-in-Anywhere
returns-in-Anywhere c =
    let list = list_at c.args.matches.now.lists c.args.string in
    ap (nat_lt 0) c.count.ensures ∙ sym (any-item list) ∙ ap (λ a. list_any (asked_shown a) list) (sym c.in-Anywhere.is)

pub returns-in-Within : goal.returns-in-Within
returns-in-Within c =
    let list = list_at c.args.matches.now.lists c.args.string in
    let x = c.in-Within.x in
    let y = c.in-Within.y in
    let x_fits : FitsSigned w64 x = search rules in
    let y_fits : FitsSigned w64 y = search rules in
    let counted = simp (to_z-of_z w64 x x_fits, to_z-of_z w64 y y_fits) at c.in_range.ensures in
    ap (nat_lt 0) counted ∙ sym (any-filter (is_within x y) list) ∙ ap (λ a. list_any (asked_shown a) list) (sym c.in-Within.is)
