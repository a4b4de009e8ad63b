use Rattle.std.proofs.Common.{◌≡◌, ℕ, Bool, true, false, ◌+◌, ◌<◌, ◌≤◌, length, sym, ap, ◌∙◌, subst, arith}
use Rattle.std.specs.List.{list_any}
use Rattle.yr_rows.specs.Nodes.{outputs_of}
use Rattle.yr_answer.specs.Lookups.{list_at}
use Rattle.yr_answer.specs.Truths.{truths_shown}
use Rattle.yr_vm.specs.Members.{members_in}
use Rattle.yr_vm.specs.Strings.{asked_shown}
use Rattle.yr_vm.specs.Earlier.{truth_in}
use Rattle.yr_vm.proofs.MemberLemmas.{member-below, found_to, found-yes, found-no, found-all, rows-there}
use Rattle.yr_vm.proofs.members.rules_found.Goals as goal
use Rattle.yr_vm.proofs.members.rules_found.Goals.{then-rule_holds, else-rule_holds}

pub rule_holds-requires : goal.rule_holds-requires
rule_holds-requires c =
    member-below (outputs_of c.args.lists.now) c.args.first c.args.rows (length c.args.truths.now) c.loop-k.k c.member-rule.result c.requires (omega arith)
    c.member-rule.ensures

pub loop-k-preserved : goal.loop-k-preserved
loop-k-preserved c =
    let holds : ℕ → Bool = truth_in (truths_shown c.args.truths.now) in
    let members = members_in (outputs_of c.args.lists.now) c.args.first c.args.rows in
    let k = c.loop-k.k in
    let m = c.member-rule.result in
    let found = c.loop-k.found in
    let so_far : found ≡ found_to holds members k = c.loop-k.invariant.0 in
    elim c.if-rule_holds.branch [
      | then-rule_holds w ↦
          let yes : found + 1 ≡ found_to holds members (k + 1) = found-yes holds members k m found c.member-rule.ensures (sym c.rule_holds.ensures ∙ w.if-rule_holds.true) so_far in
          (w.found-is ∙ yes, omega (arith, c.loop-k.invariant.1, w.found-is))
      | else-rule_holds w ↦
          let no : found ≡ found_to holds members (k + 1) = found-no holds members k m found c.member-rule.ensures (sym c.rule_holds.ensures ∙ w.if-rule_holds.false) so_far in
          (w.found-is ∙ no, omega (arith, c.loop-k.invariant.1, w.found-is))
    ]
