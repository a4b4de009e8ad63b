use Rattle.std.proofs.Common.{◌≡◌, take, map}
use Rattle.yr_syntax.specs.Declaration.{bytes_of}
use Rattle.yr_checking.proofs.copying.copy_tags.Given as goal

abbrev pub invariant-loop-tag : goal.invariant-loop-tag
invariant-loop-tag l = map bytes_of l.all.items ≡ map bytes_of (take l.tag-index l.tags)
