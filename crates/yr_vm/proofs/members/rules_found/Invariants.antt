use Rattle.std.proofs.Common.{ℕ, ◌≡◌, ◌≤◌}
use Rattle.std.specs.List.{list_any}
use Rattle.yr_rows.specs.Nodes.{outputs_of}
use Rattle.yr_answer.specs.Lookups.{list_at}
use Rattle.yr_answer.specs.Truths.{truths_shown}
use Rattle.yr_vm.specs.Members.{members_in}
use Rattle.yr_vm.specs.Strings.{asked_shown}
use Rattle.yr_vm.specs.Earlier.{truth_in}
use Rattle.yr_vm.proofs.MemberLemmas.{found_to}
use Rattle.yr_vm.proofs.members.rules_found.Given as goal

abbrev pub invariant-loop-k : goal.invariant-loop-k
invariant-loop-k l =
    (l.found ≡ found_to (truth_in (truths_shown l.truths)) (members_in (outputs_of l.lists) l.first l.rows) l.k) × (l.found ≤ l.k)
