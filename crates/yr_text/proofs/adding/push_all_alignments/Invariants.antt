use Rattle.std.proofs.Common.{◌≡◌, ◌++◌, map, take}
use Rattle.std.specs.List.{flat_map}
use Rattle.yr_pattern.specs.Variants.{variant_of}
use Rattle.yr_text.specs.Forms.{form_of}
use Rattle.yr_text.specs.Variants.{alignments}
use Rattle.yr_text.proofs.adding.push_all_alignments.Given as goal

abbrev pub invariant-loop-form : goal.invariant-loop-form
invariant-loop-form l =
    map variant_of l.all.items
    ≡ map variant_of l.initial.all.items ++ flat_map (alignments l.alphabet l.wide) (map form_of (take l.form-index l.forms))
