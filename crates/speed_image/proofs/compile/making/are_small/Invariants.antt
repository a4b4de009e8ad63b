use Rattle.std.proofs.Common.{◌≤◌, All, map, length}
use Rattle.yr_pattern.specs.Variants.{variant_of, variant_size}
use Rattle.speed_image.proofs.compile.making.are_small.Given as goal

-- small ones from here on make all small
abbrev pub invariant-loop-rest : goal.invariant-loop-rest
invariant-loop-rest l = All (λ v. variant_size v ≤ 65535) (map variant_of l.rest) → All (λ v. variant_size v ≤ 65535) (map variant_of l.fn.variants)

abbrev pub decreases-loop-rest : goal.decreases-loop-rest
decreases-loop-rest l = length l.rest
