-- What the sets in forms with an optional part weigh.
use Rattle.std.specs.Prelude.{ℕ, ◌+◌, Option, Some, None}
use Rattle.yr_syntax.specs.Condition.{Condition, Bounds}
use Rattle.yr_conditions.specs.Meanings.{Around}
use Rattle.yr_conditions.specs.SetWeights.{set_weights}

-- in the range of a count, or in none
abbrev pub range_sets : Around → Option Bounds → ℕ
range_sets around None = 0
range_sets around (Some r) = set_weights around r.low + set_weights around r.high

-- in an index, or in none
abbrev pub index_sets : Around → Option Condition → ℕ
index_sets around None = 0
index_sets around (Some i) = set_weights around i
