-- The truths of the rules before one.
use Rattle.std.specs.Prelude.{ℕ, Bool, false, List, slice_get}
use Rattle.std.specs.Option.{option_map_or}

-- the truth of an earlier rule
abbrev pub truth_in : (truths : List Bool) → ℕ → Bool
truth_in truths k = option_map_or (λ b. b) (slice_get truths k) false
