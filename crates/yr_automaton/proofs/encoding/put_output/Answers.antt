use Rattle.std.proofs.Common.{ap, ◌∙◌}
use Rattle.yr_rows.specs.Nodes.{outputs_of}
use Rattle.yr_automaton.proofs.EncodeLemmas.{output_added}
use Rattle.yr_automaton.proofs.encoding.put_output.Goals as goal

pub returns-clause-row : goal.returns-clause-row
returns-clause-row c = ap outputs_of c.in_ok-put_number.ensures.added ∙ output_added c.args.bytes.now.items c.args.output c.put_number.ensures.small c.requires
