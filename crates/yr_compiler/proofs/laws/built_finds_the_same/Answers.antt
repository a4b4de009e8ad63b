use Rattle.yr_compiler.proofs.CompiledLemmas.{finds}
use Rattle.yr_compiler.proofs.laws.built_finds_the_same.Goals as goal

pub returns : goal.returns
returns c = finds c.some_programs_are_known.ensures
