-- How tightly the next terminal binds, and at which strength a part goes on.
use Rattle.std.proofs.Common.{◌≡◌, ℕ, ◌<◌, Bool, true, false, if◌then◌else◌, List, [], ◌∷◌, Some, None, refl, ap, subst, arith}
use Rattle.yr_syntax.specs.declared.operator.Infix.{Infix}
use Rattle.yr_syntax.specs.declared.operator.Infix.TheVariants as op
use Rattle.yr_syntax.specs.Condition.{Condition, OneLink}
use Rattle.yr_parser.specs.declared.sign.Sign.{Sign as SignType}
use Rattle.yr_parser.specs.declared.sign.Sign.TheVariants as sign
use Rattle.yr_parser.specs.declared.level.Level.{Level}
use Rattle.yr_parser.specs.declared.level.Level.TheVariants.{Or, And, Equal, Rel, Bits, Bxor, Band, Shift, Sum, Prod}
use Rattle.yr_parser.specs.Terminals.{Terminals, Operator, Sign}
use Rattle.yr_parser.specs.Levels.{Part, level, not, test, unary, primary, level_of, operand}
use Rattle.yr_parser.specs.Conditions.{Reads, one, chain, pair, matches, negated, is_defined, plain, found, of, for_of, for_in, compared, minus, flip, bare, brackets, number, text, truth, file_size, reads, count, count_in, offset, offset_at, len, len_at, path, Links, last, next, every, some, none, at_least, counts, percent}
use Rattle.yr_parser.specs.Input.{Parser, sees, same_sign}
use Rattle.yr_parser.specs.Reading.{joins_at, same_level, next_link, link_by, prefix_at, negates_at, count_at, string_at, sees_operator, sees_percent_of}
use Rattle.yr_parser.proofs.Outcomes.{same_level-true, same_level-refl, sees-true, sees_operator-true}

-- the rank of a level
abbrev pub rank : Level → ℕ
rank Or = 1
rank And = 2
rank Equal = 3
rank Rel = 4
rank Bits = 5
rank Bxor = 6
rank Band = 7
rank Shift = 8
rank Sum = 9
rank Prod = 10

abbrev pub strength : SignType → ℕ
strength sign.Of = 3
strength sign.Matches = 3
strength sign.At = 11
strength sign.In = 11
strength sign.Dot = 11
strength sign.Open = 11
strength sign.OpenBracket = 11
strength _ = 0

abbrev pub binds : Terminals → ℕ
binds [] = 0
binds (Operator o ∷ k) = rank (level_of o)
binds (Sign s ∷ k) = strength s
binds (_ ∷ k) = 0

-- a part is over where the next terminal binds less tightly than this
abbrev pub power : Part → ℕ
power (level l) = rank l
power not = 3
power test = 3
power unary = 11
power primary = 11

pub power-operand : (l : Level) → rank l < power (operand l)
power-operand Or = omega arith
power-operand And = omega arith
power-operand Equal = omega arith
power-operand Rel = omega arith
power-operand Bits = omega arith
power-operand Bxor = omega arith
power-operand Band = omega arith
power-operand Shift = omega arith
power-operand Sum = omega arith
power-operand Prod = omega arith

-- an operator of the level ends its operand
pub operator-ends : (l : Level) (o : Infix) (k : Terminals) → level_of o ≡ l → binds (Operator o ∷ k) < power (operand l)
operator-ends l o k e = subst (λ (m : Level). rank (level_of o) < power (operand m)) e (power-operand (level_of o))

pub Links-ends : {l : Level} {k rest : Terminals} {ls : List OneLink} → Links l k ls rest → binds k < power (operand l)
Links-ends {l = l} (last {k = k} {o = o} e d) = operator-ends l o k e
Links-ends {l = l} (next {k = k} {o = o} e d ds) = operator-ends l o k e

pub joins_at-here : (l : Level) (o : Infix) (k : Terminals) → level_of o ≡ l → joins_at l (Operator o ∷ k) ≡ Some o
unfolding joins_at
joins_at-here l o k e = rw (same_level-refl (level_of o) l e) refl

-- what binds less tightly than a level has none of its operators
pub joins_at-none : (l : Level) (k : Terminals) → binds k < rank l → joins_at l k ≡ None
unfolding joins_at
joins_at-none l [] h = refl
joins_at-none l (Operator o ∷ k) h = go (same_level (level_of o) l) refl
  where
    go : (b : Bool) → same_level (level_of o) l ≡ b → (if same_level (level_of o) l then Some o else None) ≡ None
    go false e = rw e refl
    go true e = let same : rank (level_of o) ≡ rank l = ap rank (same_level-true (level_of o) l e) in absurd (omega arith)
joins_at-none l (_ ∷ k) h = refl

pub next_link-none : (l : Level) (p : Parser Condition) (k : Terminals) → binds k < rank l → next_link l p k ≡ Some (None, k)
unfolding next_link
next_link-none l p k h = ap (λ j. link_by p j k) (joins_at-none l k h)

-- a sign that binds so tightly is not next
pub sees-weaker : (s : SignType) (k : Terminals) → binds k < strength s → sees s k ≡ false
sees-weaker s k h = go (sees s k) refl
  where
    go : (b : Bool) → sees s k ≡ b → sees s k ≡ false
    go false e = e
    go true e = let same : binds k ≡ strength s = ap binds (sees-true s k e) in absurd (omega arith)

pub sees_operator-weaker : (o : Infix) (k : Terminals) → binds k < rank (level_of o) → sees_operator o k ≡ false
sees_operator-weaker o k h = go (sees_operator o k) refl
  where
    go : (b : Bool) → sees_operator o k ≡ b → sees_operator o k ≡ false
    go false e = e
    go true e = let same : binds k ≡ rank (level_of o) = ap binds (sees_operator-true o k e) in absurd (omega arith)

-- ---- what no count is

-- neither `of` nor `% of` comes next
pub record NoCount (k : Terminals) : Type 0 where
  pub no_of : sees sign.Of k ≡ false
  pub no_percent : sees_percent_of k ≡ false

pub NoCount-weaker : (k : Terminals) → binds k < 3 → NoCount k
unfolding sees_percent_of
NoCount-weaker k h =
    let e = sees_operator-weaker op.Remainder k (omega arith) in record { no_of = sees-weaker sign.Of k h; no_percent = rw e refl }

-- ---- how the parts begin

pub record Begins (k : Terminals) : Type 0 where
  pub no_string : string_at k ≡ None
  pub no_for : sees sign.For k ≡ false
  pub no_count : count_at k ≡ None
  pub no_negation : negates_at k ≡ None
  pub no_of : sees sign.Of k ≡ false
  pub no_close : sees sign.Close k ≡ false

-- the parts from a primary up to a comparison
abbrev pub IsTight : Part → Type 0
IsTight (level Or) = ⊥
IsTight (level And) = ⊥
IsTight (level _) = Unit {0}
IsTight not = ⊥
IsTight test = ⊥
IsTight unary = Unit {0}
IsTight primary = Unit {0}

pub tight-operand : (l : Level) → IsTight (level l) → IsTight (operand l)
tight-operand Or h = absurd h
tight-operand And h = absurd h
tight-operand Equal h = tt
tight-operand Rel h = tt
tight-operand Bits h = tt
tight-operand Bxor h = tt
tight-operand Band h = tt
tight-operand Shift h = tt
tight-operand Sum h = tt
tight-operand Prod h = tt

pub begins : {p : Part} {k rest : Terminals} {c : Condition} → Reads p k c rest → IsTight p → Begins k
unfolding sees same_sign string_at count_at negates_at
begins (one {l = l} r) h = begins r (tight-operand l h)
begins (chain {l = l} e r rs) h = begins r (tight-operand l h)
begins (pair {l = l} e r e' r') h = begins r (tight-operand l h)
begins (matches r) h = begins r tt
begins (negated r) h = absurd h
begins (is_defined r) h = absurd h
begins (plain r) h = absurd h
begins (found r) h = absurd h
begins (of r s p) h = absurd h
begins (for_of r s p) h = absurd h
begins (for_in r s p) h = absurd h
begins (compared r) h = absurd h
begins (minus r) h = record { no_string = refl; no_for = refl; no_count = refl; no_negation = refl; no_of = refl; no_close = refl }
begins (flip r) h = record { no_string = refl; no_for = refl; no_count = refl; no_negation = refl; no_of = refl; no_close = refl }
begins (bare r) h = begins r tt
begins (brackets r) h = record { no_string = refl; no_for = refl; no_count = refl; no_negation = refl; no_of = refl; no_close = refl }
begins number h = record { no_string = refl; no_for = refl; no_count = refl; no_negation = refl; no_of = refl; no_close = refl }
begins text h = record { no_string = refl; no_for = refl; no_count = refl; no_negation = refl; no_of = refl; no_close = refl }
begins truth h = record { no_string = refl; no_for = refl; no_count = refl; no_negation = refl; no_of = refl; no_close = refl }
begins file_size h = record { no_string = refl; no_for = refl; no_count = refl; no_negation = refl; no_of = refl; no_close = refl }
begins (reads r) h = record { no_string = refl; no_for = refl; no_count = refl; no_negation = refl; no_of = refl; no_close = refl }
begins count h = record { no_string = refl; no_for = refl; no_count = refl; no_negation = refl; no_of = refl; no_close = refl }
begins (count_in r) h = record { no_string = refl; no_for = refl; no_count = refl; no_negation = refl; no_of = refl; no_close = refl }
begins offset h = record { no_string = refl; no_for = refl; no_count = refl; no_negation = refl; no_of = refl; no_close = refl }
begins (offset_at r) h = record { no_string = refl; no_for = refl; no_count = refl; no_negation = refl; no_of = refl; no_close = refl }
begins len h = record { no_string = refl; no_for = refl; no_count = refl; no_negation = refl; no_of = refl; no_close = refl }
begins (len_at r) h = record { no_string = refl; no_for = refl; no_count = refl; no_negation = refl; no_of = refl; no_close = refl }
begins (path r) h = record { no_string = refl; no_for = refl; no_count = refl; no_negation = refl; no_of = refl; no_close = refl }

pub primary-begins : {k rest : Terminals} {c : Condition} → Reads primary k c rest → prefix_at k ≡ None
unfolding prefix_at
primary-begins (brackets r) = refl
primary-begins number = refl
primary-begins text = refl
primary-begins truth = refl
primary-begins file_size = refl
primary-begins (reads r) = refl
primary-begins count = refl
primary-begins (count_in r) = refl
primary-begins offset = refl
primary-begins (offset_at r) = refl
primary-begins len = refl
primary-begins (len_at r) = refl
primary-begins (path r) = refl

pub test-begins : {k rest : Terminals} {c : Condition} → Reads test k c rest → negates_at k ≡ None
unfolding negates_at
test-begins (found r) = refl
test-begins (of (counts every) s p) = refl
test-begins (of (counts some) s p) = refl
test-begins (of (counts none) s p) = refl
test-begins (of (counts (at_least r)) s p) = (begins r tt).no_negation
test-begins (of (percent r) s p) = (begins r tt).no_negation
test-begins (for_of r s p) = refl
test-begins (for_in r s p) = refl
test-begins (compared r) = (begins r tt).no_negation

-- an operator of the part, and then its operand, are no count
operator-no_count : {p : Part} {k rest : Terminals} {c : Condition} (o : Infix) → Reads p k c rest → IsTight p → NoCount (Operator o ∷ k)
unfolding sees sees_percent_of
operator-no_count {k = k} o r h = record { no_of = refl; no_percent = go (sees_operator op.Remainder (Operator o ∷ k)) }
  where
    go : (b : Bool) → (if b then sees sign.Of k else false) ≡ false
    go true = (begins r h).no_of
    go false = refl

pub Links-no_count : {l : Level} {k rest : Terminals} {ls : List OneLink} → IsTight (level l) → Links l k ls rest → NoCount k
Links-no_count {l = l} h (last {o = o} e r) = operator-no_count o r (tight-operand l h)
Links-no_count {l = l} h (next {o = o} e r rs) = operator-no_count o r (tight-operand l h)

pub pair-no_count : (l : Level) {k rest : Terminals} {c : Condition} (o : Infix) → IsTight (level l) → Reads (operand l) k c rest → NoCount (Operator o ∷ k)
pair-no_count l o h r = operator-no_count o r (tight-operand l h)

pub matches-no_count : (k : Terminals) → NoCount (Sign sign.Matches ∷ k)
unfolding sees sees_percent_of sees_operator same_sign
matches-no_count k = record { no_of = refl; no_percent = refl }
