-- Brackets that nest no deeper than a limit, which serves the proof.
use Rattle.std.specs.Prelude.{ℕ, ◌≤◌, Bool, true, false, [], ◌∷◌}
use Rattle.yr_parser.specs.Terminals.{Terminals}
use Rattle.yr_parser.specs.Depth.{is_brace, opened_after}

abbrev pub Unless : Bool → Type 0 → Type 0
Unless true P = Unit {0}
Unless false P = P

-- With `opened` brackets open before the terminals, at no place up to the first closing brace more than `limit` are.
abbrev pub Shallow : ℕ → ℕ → Terminals → Type 0
Shallow limit opened [] = Unit {0}
Shallow limit opened (t ∷ k) = (opened_after opened t ≤ limit) × Unless (is_brace t) (Shallow limit (opened_after opened t) k)
