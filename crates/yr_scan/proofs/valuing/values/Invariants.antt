use Rattle.std.proofs.Common.{◌≡◌, All, map, take}
use Rattle.yr_preserves.specs.Preserves.{IsGivenValue, external_in}
use Rattle.yr_image.specs.Views.{image_of}
use Rattle.yr_outcome.specs.Externals.{values_with}
use Rattle.yr_values.specs.Values.{shown}
use Rattle.yr_words.specs.Shown.{given_shown}
use Rattle.yr_scan.proofs.valuing.values.Given as goal

abbrev pub invariant-loop-k : goal.invariant-loop-k
invariant-loop-k l = record {
  first : map shown l.values.items ≡ values_with (map given_shown l.fn.givens) (map (external_in (image_of l.view)) (take l.k (image_of l.view).externals));
  given : All IsGivenValue (map shown l.values.items);
}
