use Rattle.std.proofs.Common.{◌≡◌, ◌<◌, ◌≤◌, length, sym, arith}
use Rattle.std.proofs.lemmas.Option.{slice_get_past}
use Rattle.yr_rows.specs.Nodes.{outputs_of}
use Rattle.yr_rows.proofs.ByteLemmas.{output_count}
use Rattle.yr_vm.proofs.turning.member_at.Goals as goal

pub output_at-requires : goal.output_at-requires
output_at-requires c = omega (arith, output_count c.args.lists.now)

pub returns-else-row-lists : goal.returns-else-row-lists
returns-else-row-lists c =
    sym (slice_get_past (outputs_of c.args.lists.now) c.args.row (omega (arith, output_count c.args.lists.now)))
