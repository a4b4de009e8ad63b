use Rattle.std.proofs.Common.{◌≡◌, ℕ, Bool, true, false, ◌+◌, ◌<◌, ◌≤◌, length, sym, ap, ◌∙◌, subst, arith}
use Rattle.std.specs.List.{list_any}
use Rattle.yr_rows.specs.Nodes.{outputs_of}
use Rattle.yr_answer.specs.Lookups.{list_at}
use Rattle.yr_answer.specs.Truths.{truths_shown}
use Rattle.yr_vm.specs.Members.{members_in}
use Rattle.yr_vm.specs.Strings.{asked_shown}
use Rattle.yr_vm.specs.Earlier.{truth_in}
use Rattle.yr_vm.proofs.MemberLemmas.{member-below, found_to, found-yes, found-no, found-all, rows-there}
use Rattle.yr_vm.proofs.members.strings_found.Goals as goal
use Rattle.yr_vm.proofs.members.strings_found.Goals.{then-has_asked, else-has_asked}

pub has_asked-requires : goal.has_asked-requires
has_asked-requires c =
    member-below (outputs_of c.args.lists.now) c.args.first c.args.rows (length c.args.matches.now.lists) c.loop-k.k c.member-string.result c.requires (omega arith)
    c.member-string.ensures

pub loop-k-preserved : goal.loop-k-preserved
loop-k-preserved c =
    let holds : ℕ → Bool = λ k. list_any (asked_shown c.args.asked) (list_at c.args.matches.now.lists k) in
    let members = members_in (outputs_of c.args.lists.now) c.args.first c.args.rows in
    let k = c.loop-k.k in
    let m = c.member-string.result in
    let found = c.loop-k.found in
    let so_far : found ≡ found_to holds members k = c.loop-k.invariant.0 in
    elim c.if-has_asked.branch [
      | then-has_asked w ↦
          let yes : found + 1 ≡ found_to holds members (k + 1) = found-yes holds members k m found c.member-string.ensures (sym c.has_asked.ensures ∙ w.if-has_asked.true) so_far in
          (w.found-is ∙ yes, omega (arith, c.loop-k.invariant.1, w.found-is))
      | else-has_asked w ↦
          let no : found ≡ found_to holds members (k + 1) = found-no holds members k m found c.member-string.ensures (sym c.has_asked.ensures ∙ w.if-has_asked.false) so_far in
          (w.found-is ∙ no, omega (arith, c.loop-k.invariant.1, w.found-is))
    ]
