-- How high a condition is that brackets nest so deep in.
use Rattle.std.proofs.Common.{ℕ, suc, ◌+◌, ◌*◌, ◌≤◌, List, arith}
use Rattle.std.specs.Prelude.{max}
use Rattle.yr_syntax.specs.Condition.{Condition, Where, Asked, Domain, OneLink, OneStep, links_of, items_of, steps_of}
use Rattle.yr_syntax.specs.Height.{height, links_height, steps_height, items_height, where_height, asked_height, domain_height}
use Rattle.yr_parser.specs.declared.level.Level.{Level}
use Rattle.yr_parser.specs.declared.level.Level.TheVariants.{Or, And, Equal, Rel, Bits, Bxor, Band, Shift, Sum, Prod}
use Rattle.yr_parser.specs.Terminals.{Terminals}
use Rattle.yr_parser.specs.Levels.{Part, level, not, test, unary, primary, operand}
use Rattle.yr_parser.specs.Shallow.{Shallow}
use Rattle.yr_parser.specs.Conditions.{Reads, one, chain, pair, matches, negated, is_defined, plain, found, of, for_of, for_in, compared, minus, flip, bare, brackets, number, text, truth, file_size, reads, count, count_in, offset, offset_at, len, len_at, path, Links, last, next, Counts, every, some, none, at_least, Quants, counts, percent, Places, anywhere, at, within, Ranges, from_to, Overs, over_range, over_list, over_path, ReadsItems, one_item, item_then, ReadsSteps, no_step, name_step, index_step, empty_call, call_step}
use Rattle.yr_parser.proofs.Shorter.{Sets-shallow, Reads-shallow, Counts-shallow, Quants-shallow, Overs-shallow, ReadsItems-shallow}

-- the most nodes on a way through a part, down to the next bracket
abbrev pub slack : Part → ℕ
slack (level Or) = 11
slack (level And) = 10
slack (level Equal) = 9
slack (level Rel) = 8
slack (level Bits) = 7
slack (level Bxor) = 6
slack (level Band) = 5
slack (level Shift) = 4
slack (level Sum) = 3
slack (level Prod) = 2
slack not = 9
slack test = 9
slack unary = 1
slack primary = 1

slack-operand : (l : Level) → slack (operand l) + 1 ≤ slack (level l)
slack-operand Or = omega arith
slack-operand And = omega arith
slack-operand Equal = omega arith
slack-operand Rel = omega arith
slack-operand Bits = omega arith
slack-operand Bxor = omega arith
slack-operand Band = omega arith
slack-operand Shift = omega arith
slack-operand Sum = omega arith
slack-operand Prod = omega arith

mutual
  pub Reads-height : {p : Part} {k rest : Terminals} {v : Condition} → Reads p k v rest → (m o : ℕ) → o ≤ m → Shallow m o k → height v + 11 * o ≤ 11 * m + slack p
  Reads-height (one {l = l} x0) m o h s = let b = slack-operand l in let h0 = Reads-height x0 m o h s in omega arith
  Reads-height (chain {l = l} e0 x1 x2) m o h s = let b = slack-operand l in let h1 = Reads-height x1 m o h s in let s1 = Reads-shallow x1 m o s in let h2 = Links-height x2 m o h s1 in omega arith
  Reads-height (pair {l = l} e0 x1 e2 x3) m o h s = let b = slack-operand l in let h1 = Reads-height x1 m o h s in let s1 = Reads-shallow x1 m o s in let h3 = Reads-height x3 m o h s1.1 in omega arith
  Reads-height (matches x0) m o h s = let h0 = Reads-height x0 m o h s in omega arith
  Reads-height (negated x0) m o h s = let h0 = Reads-height x0 m o h s.1 in omega arith
  Reads-height (is_defined x0) m o h s = let h0 = Reads-height x0 m o h s.1 in omega arith
  Reads-height (plain x0) m o h s = let h0 = Reads-height x0 m o h s in omega arith
  Reads-height (found x0) m o h s = let h0 = Places-height x0 m o h s.1 in omega arith
  Reads-height (of x0 x1 x2) m o h s = let h0 = Quants-height x0 m o h s in let s1 = Quants-shallow x0 m o s in let s2 = Sets-shallow x1 m o s1.1 in let h2 = Places-height x2 m o h s2 in omega arith
  Reads-height (for_of x0 x1 x2) m o h s = let h0 = Counts-height x0 m o h s.1 in let s1 = Counts-shallow x0 m o s.1 in let s2 = Sets-shallow x1 m o s1.1 in let s3 = s2.1 in let lt : suc o ≤ m = s3.0 in let h2 = Reads-height x2 m (suc o) lt s3.1 in omega arith
  Reads-height (for_in x0 x1 x2) m o h s = let h0 = Counts-height x0 m o h s.1 in let s1 = Counts-shallow x0 m o s.1 in let h1 = Overs-height x1 m o h s1.1.1 in let s2 = Overs-shallow x1 m o s1.1.1 in let s3 = s2.1 in let lt : suc o ≤ m = s3.0 in let h2 = Reads-height x2 m (suc o) lt s3.1 in omega arith
  Reads-height (compared x0) m o h s = let h0 = Reads-height x0 m o h s in omega arith
  Reads-height (minus x0) m o h s = let h0 = Reads-height x0 m o h s.1 in omega arith
  Reads-height (flip x0) m o h s = let h0 = Reads-height x0 m o h s.1 in omega arith
  Reads-height (bare x0) m o h s = let h0 = Reads-height x0 m o h s in omega arith
  Reads-height (brackets x0) m o h s = let s1 = s in let lt : suc o ≤ m = s1.0 in let h0 = Reads-height x0 m (suc o) lt s1.1 in omega arith
  Reads-height number m o h s = omega arith
  Reads-height text m o h s = omega arith
  Reads-height truth m o h s = omega arith
  Reads-height file_size m o h s = omega arith
  Reads-height (reads x0) m o h s = let s1 = s.1 in let lt : suc o ≤ m = s1.0 in let h0 = Reads-height x0 m (suc o) lt s1.1 in omega arith
  Reads-height count m o h s = omega arith
  Reads-height (count_in x0) m o h s = let h0 = Ranges-height x0 m o h s.1.1 in omega arith
  Reads-height offset m o h s = omega arith
  Reads-height (offset_at x0) m o h s = let s1 = s.1 in let lt : suc o ≤ m = s1.0 in let h0 = Reads-height x0 m (suc o) lt s1.1 in omega arith
  Reads-height len m o h s = omega arith
  Reads-height (len_at x0) m o h s = let s1 = s.1 in let lt : suc o ≤ m = s1.0 in let h0 = Reads-height x0 m (suc o) lt s1.1 in omega arith
  Reads-height (path x0) m o h s = let h0 = ReadsSteps-height x0 m o h s.1 in omega arith

  pub Links-height : {p : Level} {k rest : Terminals} {v : List OneLink} → Links p k v rest → (m o : ℕ) → o ≤ m → Shallow m o k → links_height (links_of v) + 11 * o ≤ 11 * m + slack (operand p)
  Links-height (last e0 x1) m o h s = let h1 = Reads-height x1 m o h s.1 in omega arith
  Links-height (next e0 x1 x2) m o h s = let h1 = Reads-height x1 m o h s.1 in let s1 = Reads-shallow x1 m o s.1 in let h2 = Links-height x2 m o h s1 in omega arith

  pub Counts-height : {k rest : Terminals} {v : Asked} → Counts k v rest → (m o : ℕ) → o ≤ m → Shallow m o k → asked_height v + 11 * o ≤ 11 * m + 1
  Counts-height every m o h s = omega arith
  Counts-height some m o h s = omega arith
  Counts-height none m o h s = omega arith
  Counts-height (at_least x0) m o h s = let h0 = Reads-height x0 m o h s in omega arith

  pub Quants-height : {k rest : Terminals} {v : Asked} → Quants k v rest → (m o : ℕ) → o ≤ m → Shallow m o k → asked_height v + 11 * o ≤ 11 * m + 1
  Quants-height (counts x0) m o h s = let h0 = Counts-height x0 m o h s in omega arith
  Quants-height (percent x0) m o h s = let h0 = Reads-height x0 m o h s in omega arith

  pub Places-height : {k rest : Terminals} {v : Where} → Places k v rest → (m o : ℕ) → o ≤ m → Shallow m o k → where_height v + 11 * o ≤ 11 * m + 7
  Places-height anywhere m o h s = omega arith
  Places-height (at x0) m o h s = let h0 = Reads-height x0 m o h s.1 in omega arith
  Places-height (within x0) m o h s = let h0 = Ranges-height x0 m o h s.1 in omega arith

  pub Ranges-height : {k rest : Terminals} {v w : Condition} → Ranges k v w rest → (m o : ℕ) → o ≤ m → Shallow m o k → max (height v) (height w) + 11 * o ≤ 11 * m
  Ranges-height (from_to x0 x1) m o h s = let s1 = s in let lt : suc o ≤ m = s1.0 in let h0 = Reads-height x0 m (suc o) lt s1.1 in let s2 = Reads-shallow x0 m (suc o) s1.1 in let h1 = Reads-height x1 m (suc o) lt s2.1 in omega arith

  pub Overs-height : {k rest : Terminals} {v : Domain} → Overs k v rest → (m o : ℕ) → o ≤ m → Shallow m o k → domain_height v + 11 * o ≤ 11 * m
  Overs-height (over_range x0) m o h s = let h0 = Ranges-height x0 m o h s in omega arith
  Overs-height (over_list x0) m o h s = let s1 = s in let lt : suc o ≤ m = s1.0 in let h0 = ReadsItems-height x0 m (suc o) lt s1.1 in omega arith
  Overs-height (over_path x0) m o h s = let h0 = ReadsSteps-height x0 m o h s.1 in omega arith

  pub ReadsItems-height : {k rest : Terminals} {v : List Condition} → ReadsItems k v rest → (m o : ℕ) → o ≤ m → Shallow m o k → items_height (items_of v) + 11 * o ≤ 11 * m + 7
  ReadsItems-height (one_item x0) m o h s = let h0 = Reads-height x0 m o h s in omega arith
  ReadsItems-height (item_then x0 x1) m o h s = let h0 = Reads-height x0 m o h s in let s1 = Reads-shallow x0 m o s in let h1 = ReadsItems-height x1 m o h s1.1 in omega arith

  pub ReadsSteps-height : {k rest : Terminals} {v : List OneStep} → ReadsSteps k v rest → (m o : ℕ) → o ≤ m → Shallow m o k → steps_height (steps_of v) + 11 * o ≤ 11 * m
  ReadsSteps-height no_step m o h s = omega arith
  ReadsSteps-height (name_step x0) m o h s = let h0 = ReadsSteps-height x0 m o h s.1.1 in omega arith
  ReadsSteps-height (index_step x0 x1) m o h s = let s1 = s in let lt : suc o ≤ m = s1.0 in let h0 = Reads-height x0 m (suc o) lt s1.1 in let s2 = Reads-shallow x0 m (suc o) s1.1 in let h1 = ReadsSteps-height x1 m o h s2.1 in omega arith
  ReadsSteps-height (empty_call x0) m o h s = let s1 = s in let lt : suc o ≤ m = s1.0 in let h0 = ReadsSteps-height x0 m o h s1.1.1 in omega arith
  ReadsSteps-height (call_step x0 x1) m o h s = let s1 = s in let lt : suc o ≤ m = s1.0 in let h0 = ReadsItems-height x0 m (suc o) lt s1.1 in let s2 = ReadsItems-shallow x0 m (suc o) s1.1 in let h1 = ReadsSteps-height x1 m o h s2.1 in omega arith

pub condition-height : {k rest : Terminals} {c : Condition} → Reads (level Or) k c rest → Shallow 64 0 k → height c ≤ 1024
condition-height r s = let h = Reads-height r 64 0 (omega arith) s in omega arith
