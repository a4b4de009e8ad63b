use Rattle.std.proofs.Common.{◌≡◌, drop, map}
use Rattle.yr_preserves.specs.Preserves.{external_in, externals_in}
use Rattle.yr_image.specs.Views.{image_of, shown_bytes}
use Rattle.yr_outcome.specs.Externals.{external_named}
use Rattle.yr_scan.proofs.misfits.external_named.Given as goal

abbrev pub invariant-loop-k : goal.invariant-loop-k
invariant-loop-k l = external_named l.name (externals_in (shown_bytes l.view)) ≡ external_named l.name (map (external_in (image_of l.view)) (drop l.k (image_of l.view).externals))
