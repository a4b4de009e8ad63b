use Rattle.std.proofs.Common.{◌≡◌, ◌++◌, map, take}
use Rattle.yr_atoms.specs.Coded.{split_of, word}
use Rattle.yr_splits.specs.Placed.{place_all}
use Rattle.yr_splits.specs.Filling.{PutsSplits}
use Rattle.yr_splits.proofs.split.put_splits.Given as goal

abbrev pub invariant-loop-split : goal.invariant-loop-split
invariant-loop-split l = record {
  splits : PutsSplits l.initial.draft l.draft (place_all l.string l.border (map split_of (take l.split-index l.splits)));
  atoms : map word l.atoms.items ≡ map word l.initial.atoms.items ++ map (λ s. s.atom) (map split_of (take l.split-index l.splits));
}
