use Rattle.yr_compiler.proofs.CompiledLemmas.{compiled}
use Rattle.yr_compiler.proofs.laws.built_is_compiled.Goals as goal

pub returns : goal.returns
returns c = compiled c.some_programs_are_known.ensures
