use Rattle.std.proofs.Common.{◌≡◌, drop, map}
use Rattle.std.specs.List.{list_any}
use Rattle.yr_pattern.specs.Variants.{variant_of, variant_size}
use Rattle.yr_checks.specs.Patterns.{is_large}
use Rattle.yr_checking.proofs.strings.some_large.Given as goal

abbrev pub invariant-loop-variant : goal.invariant-loop-variant
invariant-loop-variant l =
    list_any (λ v. is_large (variant_size v)) (map variant_of l.variants) ≡ list_any (λ v. is_large (variant_size v)) (map variant_of (drop l.variant-index l.variants))
