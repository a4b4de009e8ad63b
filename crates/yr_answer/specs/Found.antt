-- What a search found, as plain lists.
use Rattle.std.specs.Prelude.{ℕ, ◌≤◌, ◌^◌, List, length, map, Vec}
use Rattle.std.specs.declared.alloc.Global.{Global}
use Rattle.yr_answer.specs.MatchList.{Match, RisesFrom}

-- the match list of each string, and the number of hits
pub record Found : Type 0 where
  pub lists : List (List Match)
  pub hits : ℕ

-- the lists that vectors hold
abbrev pub items_of : List (Vec Match Global) → List (List Match)
items_of lists = map (λ v. v.items) lists

-- the offsets of a list rise, and it is no longer than the largest file
abbrev pub IsReadable : List Match → Type 0
IsReadable list = RisesFrom 0 list × (length list ≤ 2 ^ 28)
