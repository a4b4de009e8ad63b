use Rattle.std.proofs.Common.{◌≡◌, take, map}
use Rattle.yr_syntax.specs.Declaration.{meta_of}
use Rattle.yr_checking.proofs.copying.copy_meta.Given as goal

abbrev pub invariant-loop-entry : goal.invariant-loop-entry
invariant-loop-entry l = map meta_of l.all.items ≡ map meta_of (take l.entry-index l.meta)
