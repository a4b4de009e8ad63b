-- Match lists that are made by hand, as tests make them.
use Rattle.std.specs.Prelude.{ℕ, ◌<◌, List, [], ◌∷◌}
use Rattle.yr_answer.specs.MatchList.{Match}

-- each match of a list begins below an offset
abbrev pub AreBelow : ℕ → List Match → Type 0
AreBelow most [] = Unit {0}
AreBelow most (m ∷ ms) = (m.0 < most) × AreBelow most ms
