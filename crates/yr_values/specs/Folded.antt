-- What a search in either case keeps of its part, in the words of Two-Way (Crochemore and Perrin).
use Rattle.std.specs.Prelude.{◌≡◌, ◌⊎◌, ℕ, ◌-◌, ◌<◌, ◌≤◌, List, length, slice_index}
use Rattle.memchr.specs.Critical.{IsPeriod, IsCritical, NoPeriodBelow}
use Rattle.memchr.specs.TwoWay.{OccursIn}
use Rattle.yr_base.specs.Bytes.{lowered}
use Rattle.yr_values.specs.declared.folded.SuffixOrder.{SuffixOrder}
use Rattle.yr_values.specs.declared.folded.SuffixOrder.TheVariants as order

-- the byte at a place, a letter as the small one
abbrev pub folded_at : List ℕ → ℕ → ℕ
folded_at bytes k = lowered (slice_index bytes k)

-- the part stands at a place, but for the case of letters
abbrev pub StandsFolded : List ℕ → List ℕ → ℕ → Type 0
StandsFolded text part k = OccursIn (folded_at part) (length part) (folded_at text) (length text) k

-- which of two bytes comes first
abbrev pub Comes : SuffixOrder → ℕ → ℕ → Type 0
Comes order.Maximal a b = a < b
Comes order.Minimal a b = b < a

-- m values cut at a critical place: no period is below the shift, and after a shift the first `kept` values are known
pub record IsCutOf (x : ℕ → ℕ) (m critical shift kept : ℕ) : Type 0 where
  pub below : critical < m
  pub is_critical : IsCritical x m critical
  pub some : 0 < shift
  pub most : shift ≤ m
  pub short : NoPeriodBelow x m shift
  pub knows : (kept ≡ 0) ⊎ ((kept ≡ m - shift) × (critical < shift) × IsPeriod x m shift)
