use Rattle.std.proofs.Common.{◌≡◌, List, [], ◌++◌, length, map, take}
use Rattle.yr_pattern.specs.Variants.{variant_of}
use Rattle.yr_rules.specs.Rules.{PlainString}
use Rattle.yr_atoms.specs.Coded.{word}
use Rattle.yr_image.specs.Image.{Image}
use Rattle.yr_splits.specs.Placed.{Placed}
use Rattle.yr_splits.specs.Filling.{FilledPart}
use Rattle.yr_splits.proofs.string.put_variants.Given as goal

abbrev pub invariant-loop-v : goal.invariant-loop-v
invariant-loop-v l =
    (start : Image) (placed : List Placed) (strings : List PlainString)
    → length strings ≡ l.string → FilledPart start l.initial.draft placed strings [] (map word l.initial.atoms.items)
    → (more : List Placed) × FilledPart start l.draft (placed ++ more) strings (map variant_of (take l.v-index l.variants)) (map word l.atoms.items)
