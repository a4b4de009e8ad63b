-- Lists of matches as they grow while hits come: in any order, possibly several for one offset.
use Rattle.std.specs.Prelude.{◌≡◌, ℕ, ◌+◌, ◌-◌, ◌*◌, ◌<◌, ◌≤◌, ◌==◌, Bool, true, false, MatchBool, List, ◌++◌, Contains}
use Rattle.yr_answer.specs.MatchList.{Match, RisesFrom}

-- an end does for another: it is no less where the greatest is wanted, and no greater where the least is
abbrev pub DoesFor : (greatest : Bool) → ℕ → ℕ → Type 0
DoesFor greatest j o = MatchBool greatest (o ≤ j) (j ≤ o)

-- matches are added that these spans give, and one that does for each of the spans
pub record Grows (spans : ℕ → ℕ → Type 0) (greatest : Bool) (old new : List Match) : Type 0 where
  pub added : List Match
  pub is : new ≡ old ++ added
  pub sound : (i size : ℕ) → Contains added (i, size) → spans i (i + size)
  pub complete : (i j : ℕ) → spans i j → (size : ℕ) × Contains added (i, size) × DoesFor greatest (i + size) j

-- the best of the matches at each offset, in the order of the offsets
pub record IsSettled (greatest : Bool) (gathered settled : List Match) : Type 0 where
  pub rises : RisesFrom 0 settled
  pub from : (m : Match) → Contains settled m → Contains gathered m
  pub best : (i size : ℕ) → Contains gathered (i, size) → (most : ℕ) × Contains settled (i, most) × DoesFor greatest (i + most) (i + size)

-- where a match stands in an order by offsets, in which the best comes first of those at one offset
abbrev pub order_of : (greatest : Bool) → Match → ℕ
order_of true m = m.0 * 4294967296 + (4294967295 - m.1)
order_of false m = m.0 * 4294967296 + m.1

abbrev pub has_same_offset : Match → Match → Bool
has_same_offset x y = x.0 == y.0

-- lengths have 32 bits
abbrev pub AreShort : List Match → Type 0
AreShort list = (m : Match) → Contains list m → m.1 < 4294967296
