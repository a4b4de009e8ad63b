use Rattle.std.proofs.Common.{◌≡◌, map, take}
use Rattle.yr_syntax.specs.Declaration.{bytes_of}
use Rattle.yr_checking.proofs.names_twice.tag_names.Given as goal

abbrev pub invariant-loop-tag : goal.invariant-loop-tag
invariant-loop-tag l = l.all.items ≡ map bytes_of (take l.tag-index l.tags)
