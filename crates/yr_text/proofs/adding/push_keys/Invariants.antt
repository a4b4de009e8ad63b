use Rattle.std.proofs.Common.{◌≡◌, ◌++◌, ◌-◌, ◌≤◌, max, map}
use Rattle.std.specs.List.{range_with_len}
use Rattle.yr_pattern.specs.Variants.{variant_of}
use Rattle.yr_text.specs.Forms.{form_of}
use Rattle.yr_text.specs.Variants.{keyed}
use Rattle.yr_text.proofs.adding.push_keys.Given as goal

abbrev pub invariant-loop-key : goal.invariant-loop-key
invariant-loop-key l = record {
  within : l.key ≤ max l.low l.key-end;
  so_far : map variant_of l.all.items ≡ map variant_of l.initial.all.items ++ map (keyed (form_of l.form)) (range_with_len l.low (l.key - l.low));
}
