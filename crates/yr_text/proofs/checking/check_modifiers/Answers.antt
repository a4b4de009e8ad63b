use Rattle.std.proofs.Common.{map}
use Rattle.yr_syntax.specs.Declaration.{modifier_of}
use Rattle.yr_text.proofs.AgreeLemmas.{result-agrees}
use Rattle.yr_text.proofs.checking.check_modifiers.Goals as goal

pub returns-clause-agree : goal.returns-clause-agree
returns-clause-agree c = result-agrees (map modifier_of c.args.list.now) c.args.kind c.first_fault_or_said.result c.first_fault_or_said.ensures
