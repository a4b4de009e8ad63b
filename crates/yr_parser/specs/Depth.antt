-- How deep brackets nest, and how long prefix operators run.
use Rattle.std.specs.Prelude.{◌≡◌, ℕ, zero, suc, ◌<◌, ◌⊎◌, Bool, true, false, if◌then◌else◌, nat_le, ◌&&◌, [], ◌∷◌, ◌++◌, length, take, fold}
use Rattle.yr_syntax.specs.declared.operator.Infix.TheVariants as op
use Rattle.yr_parser.specs.declared.sign.Sign.TheVariants as sign
use Rattle.yr_parser.specs.Terminals.{Terminal, Terminals, Operator, Sign}

abbrev pub is_brace : Terminal → Bool
is_brace (Sign sign.CloseBrace) = true
is_brace _ = false

-- the terminals up to and with the first closing brace, or all of them where there is none
abbrev pub front : Terminals → Terminals
front [] = []
front (t ∷ k) = if is_brace t then t ∷ [] else t ∷ front k

-- one less, but not below 0
abbrev pub closed_after : ℕ → ℕ
closed_after zero = zero
closed_after (suc n) = n

-- an opening adds one, and a closing takes one away, not below 0
abbrev pub opened_after : ℕ → Terminal → ℕ
opened_after n (Sign sign.Open) = suc n
opened_after n (Sign sign.OpenBracket) = suc n
opened_after n (Sign sign.Close) = closed_after n
opened_after n (Sign sign.CloseBracket) = closed_after n
opened_after n _ = n

-- how many brackets are open after the terminals
abbrev pub opened : Terminals → ℕ
opened k = fold opened_after 0 k

-- `not`, `defined`, `-` and `~`
abbrev pub is_prefix : Terminal → Bool
is_prefix (Sign sign.Not) = true
is_prefix (Sign sign.Defined) = true
is_prefix (Sign sign.Tilde) = true
is_prefix (Operator op.Subtract) = true
is_prefix _ = false

abbrev pub ArePrefixes : Terminals → Type 0
ArePrefixes [] = Unit {0}
ArePrefixes (t ∷ k) = (is_prefix t ≡ true) × ArePrefixes k

-- the most brackets that may be open, and the most prefix operators in a run
abbrev pub nesting_limit : ℕ
nesting_limit = 64

-- a place of the terminals at which too many brackets are open
abbrev pub OpensTooMany : Terminals → Type 0
OpensTooMany k = (place : ℕ) × (nesting_limit < opened (take place k))

-- a run of too many prefix operators
pub record RunsTooLong (k : Terminals) : Type 0 where
  pub before : Terminals
  pub run : Terminals
  pub behind : Terminals
  pub whole : k ≡ before ++ run ++ behind
  pub long : nesting_limit < length run
  pub prefixes : ArePrefixes run

-- the terminals up to and with the first closing brace nest too deep
abbrev pub IsTooDeep : Terminals → Type 0
IsTooDeep k = OpensTooMany (front k) ⊎ RunsTooLong (front k)

-- ---- the test, which serves the proof

abbrev pub run_after : ℕ → Terminal → ℕ
run_after n t = if is_prefix t then suc n else 0

-- where so many brackets are open before the terminals, and so many prefix operators stand directly before them
unfoldable pub deep_from : ℕ → ℕ → Terminals → Bool
deep_from o r [] = false
deep_from o r (t ∷ k) =
    if nat_le (opened_after o t) nesting_limit && nat_le (run_after r t) nesting_limit
    then (if is_brace t then false else deep_from (opened_after o t) (run_after r t) k)
    else true
