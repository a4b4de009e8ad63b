use Rattle.std.proofs.Common.{◌≡◌, ◌<◌, ◌≤◌, ◌+◌, ◌-◌, length, Some, sym, ap, arith}
use Rattle.yr_rows.specs.Nodes.{outputs_of}
use Rattle.yr_rows.proofs.ByteLemmas.{output_count}
use Rattle.yr_answer.specs.Turns.{string_turns}
use Rattle.yr_vm.proofs.TurnLemmas.{window-next, members-counted}
use Rattle.yr_vm.proofs.beginning.strings.Goals as goal

pub overflow_add-result : goal.overflow_add-result
overflow_add-result c =
    let there : c.args.first + c.args.rows ≤ length (outputs_of c.args.lists.now) = c.requires (omega arith) in
    let count = output_count c.args.lists.now in
    omega arith

pub invariant_of-result-clause-small : goal.invariant_of-result-clause-small
invariant_of-result-clause-small c =
    let there : c.args.first + c.args.rows ≤ length (outputs_of c.args.lists.now) = c.requires (omega arith) in
    let count = output_count c.args.lists.now in
    omega arith

pub invariant_of-result-clause-rows : goal.invariant_of-result-clause-rows
invariant_of-result-clause-rows c =
    let there : c.args.first + c.args.rows ≤ length (outputs_of c.args.lists.now) = c.requires (omega arith) in
    let count = output_count c.args.lists.now in
    omega arith

pub returns-clause-turns : goal.returns-clause-turns
returns-clause-turns c =
    sym (ap (λ xs. Some (string_turns xs))
    (window-next (outputs_of c.args.lists.now) c.args.first c.args.rows c.output_at.result (omega arith) c.output_at.ensures))

pub returns-clause-counted : goal.returns-clause-counted
returns-clause-counted c =
    let there : c.args.first + c.args.rows ≤ length (outputs_of c.args.lists.now) = c.requires (omega arith) in
    members-counted (outputs_of c.args.lists.now) (c.args.first + 1) (c.args.rows - 1) c.args.rows (omega (arith, there)) (omega arith)
