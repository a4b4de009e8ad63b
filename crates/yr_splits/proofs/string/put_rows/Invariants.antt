use Rattle.std.proofs.Common.{List, map, take}
use Rattle.yr_rules.specs.Rules.{string_of}
use Rattle.yr_atoms.specs.Coded.{word}
use Rattle.yr_splits.specs.Placed.{Placed}
use Rattle.yr_splits.specs.Filling.{Filled}
use Rattle.yr_splits.proofs.string.put_rows.Given as goal

abbrev pub invariant-loop-k : goal.invariant-loop-k
invariant-loop-k l = (placed : List Placed) × Filled l.initial.draft l.draft placed (map string_of (take l.k l.strings)) (map word l.atoms.items)
