use Rattle.std.proofs.Common.{◌+◌, ◌<◌, ◌≤◌, length, arith, ◌∙◌}
use Rattle.yr_rows.specs.Nodes.{outputs_of}
use Rattle.yr_rows.proofs.ByteLemmas.{output_count}
use Rattle.yr_vm.proofs.MemberLemmas.{window-get}
use Rattle.yr_vm.proofs.members.member.Goals as goal

pub overflow_add-first : goal.overflow_add-first
overflow_add-first c =
    let row : c.args.first + c.args.rows ≤ length (outputs_of c.args.lists.now) = c.requires.there (omega arith) in
    let count = output_count c.args.lists.now in
    omega arith

pub output_at-requires : goal.output_at-requires
output_at-requires c =
    let row : c.args.first + c.args.rows ≤ length (outputs_of c.args.lists.now) = c.requires.there (omega arith) in omega arith

pub returns : goal.returns
returns c = window-get (outputs_of c.args.lists.now) c.args.first c.args.rows c.args.k c.requires.inside ∙ c.output_at.ensures
