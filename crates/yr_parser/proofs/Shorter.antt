-- What is left is shorter, and nests no deeper.
use Rattle.std.proofs.Common.{ℕ, suc, ◌<◌, ◌≤◌, List, length, arith}
use Rattle.yr_syntax.specs.Condition.{Condition, Where, Asked, Domain, SetTree, ItemTree, OneLink, OneStep}
use Rattle.yr_parser.specs.declared.level.Level.{Level}
use Rattle.yr_parser.specs.Terminals.{Terminals}
use Rattle.yr_parser.specs.Levels.{Part}
use Rattle.yr_parser.specs.Shallow.{Shallow}
use Rattle.yr_parser.specs.Conditions.{StringItems, one_string, one_wild, string_then, wild_then, RuleItems, one_rule, one_front, rule_then, front_then, Sets, them, strings, rules, Reads, one, chain, pair, matches, negated, is_defined, plain, found, of, for_of, for_in, compared, minus, flip, bare, brackets, number, text, truth, file_size, reads, count, count_in, offset, offset_at, len, len_at, path, Links, last, next, Counts, every, some, none, at_least, Quants, counts, percent, Places, anywhere, at, within, Ranges, from_to, Overs, over_range, over_list, over_path, ReadsItems, one_item, item_then, ReadsSteps, no_step, name_step, index_step, empty_call, call_step}

pub StringItems-shorter : {k rest : Terminals} {v : List ItemTree} → StringItems k v rest → length rest < length k
StringItems-shorter one_string = omega arith
StringItems-shorter one_wild = omega arith
StringItems-shorter (string_then x0) = let h0 = StringItems-shorter x0 in omega arith
StringItems-shorter (wild_then x0) = let h0 = StringItems-shorter x0 in omega arith

pub RuleItems-shorter : {k rest : Terminals} {v : List ItemTree} → RuleItems k v rest → length rest < length k
RuleItems-shorter one_rule = omega arith
RuleItems-shorter one_front = omega arith
RuleItems-shorter (rule_then x0) = let h0 = RuleItems-shorter x0 in omega arith
RuleItems-shorter (front_then x0) = let h0 = RuleItems-shorter x0 in omega arith

pub Sets-shorter : {k rest : Terminals} {v : SetTree} → Sets k v rest → length rest < length k
Sets-shorter them = omega arith
Sets-shorter (strings x0) = let h0 = StringItems-shorter x0 in omega arith
Sets-shorter (rules x0) = let h0 = RuleItems-shorter x0 in omega arith

mutual
  pub Reads-shorter : {p : Part} {k rest : Terminals} {v : Condition} → Reads p k v rest → length rest < length k
  Reads-shorter (one x0) = let h0 = Reads-shorter x0 in omega arith
  Reads-shorter (chain x0 x1 x2) = let h1 = Reads-shorter x1 in let h2 = Links-shorter x2 in omega arith
  Reads-shorter (pair x0 x1 x2 x3) = let h1 = Reads-shorter x1 in let h3 = Reads-shorter x3 in omega arith
  Reads-shorter (matches x0) = let h0 = Reads-shorter x0 in omega arith
  Reads-shorter (negated x0) = let h0 = Reads-shorter x0 in omega arith
  Reads-shorter (is_defined x0) = let h0 = Reads-shorter x0 in omega arith
  Reads-shorter (plain x0) = let h0 = Reads-shorter x0 in omega arith
  Reads-shorter (found x0) = let h0 = Places-shorter x0 in omega arith
  Reads-shorter (of x0 x1 x2) = let h0 = Quants-shorter x0 in let h1 = Sets-shorter x1 in let h2 = Places-shorter x2 in omega arith
  Reads-shorter (for_of x0 x1 x2) = let h0 = Counts-shorter x0 in let h1 = Sets-shorter x1 in let h2 = Reads-shorter x2 in omega arith
  Reads-shorter (for_in x0 x1 x2) = let h0 = Counts-shorter x0 in let h1 = Overs-shorter x1 in let h2 = Reads-shorter x2 in omega arith
  Reads-shorter (compared x0) = let h0 = Reads-shorter x0 in omega arith
  Reads-shorter (minus x0) = let h0 = Reads-shorter x0 in omega arith
  Reads-shorter (flip x0) = let h0 = Reads-shorter x0 in omega arith
  Reads-shorter (bare x0) = let h0 = Reads-shorter x0 in omega arith
  Reads-shorter (brackets x0) = let h0 = Reads-shorter x0 in omega arith
  Reads-shorter number = omega arith
  Reads-shorter text = omega arith
  Reads-shorter truth = omega arith
  Reads-shorter file_size = omega arith
  Reads-shorter (reads x0) = let h0 = Reads-shorter x0 in omega arith
  Reads-shorter count = omega arith
  Reads-shorter (count_in x0) = let h0 = Ranges-shorter x0 in omega arith
  Reads-shorter offset = omega arith
  Reads-shorter (offset_at x0) = let h0 = Reads-shorter x0 in omega arith
  Reads-shorter len = omega arith
  Reads-shorter (len_at x0) = let h0 = Reads-shorter x0 in omega arith
  Reads-shorter (path x0) = let h0 = ReadsSteps-shorter x0 in omega arith

  pub Links-shorter : {p : Level} {k rest : Terminals} {v : List OneLink} → Links p k v rest → length rest < length k
  Links-shorter (last x0 x1) = let h1 = Reads-shorter x1 in omega arith
  Links-shorter (next x0 x1 x2) = let h1 = Reads-shorter x1 in let h2 = Links-shorter x2 in omega arith

  pub Counts-shorter : {k rest : Terminals} {v : Asked} → Counts k v rest → length rest < length k
  Counts-shorter every = omega arith
  Counts-shorter some = omega arith
  Counts-shorter none = omega arith
  Counts-shorter (at_least x0) = let h0 = Reads-shorter x0 in omega arith

  pub Quants-shorter : {k rest : Terminals} {v : Asked} → Quants k v rest → length rest < length k
  Quants-shorter (counts x0) = let h0 = Counts-shorter x0 in omega arith
  Quants-shorter (percent x0) = let h0 = Reads-shorter x0 in omega arith

  pub Places-shorter : {k rest : Terminals} {v : Where} → Places k v rest → length rest ≤ length k
  Places-shorter anywhere = omega arith
  Places-shorter (at x0) = let h0 = Reads-shorter x0 in omega arith
  Places-shorter (within x0) = let h0 = Ranges-shorter x0 in omega arith

  pub Ranges-shorter : {k rest : Terminals} {v w : Condition} → Ranges k v w rest → length rest < length k
  Ranges-shorter (from_to x0 x1) = let h0 = Reads-shorter x0 in let h1 = Reads-shorter x1 in omega arith

  pub Overs-shorter : {k rest : Terminals} {v : Domain} → Overs k v rest → length rest < length k
  Overs-shorter (over_range x0) = let h0 = Ranges-shorter x0 in omega arith
  Overs-shorter (over_list x0) = let h0 = ReadsItems-shorter x0 in omega arith
  Overs-shorter (over_path x0) = let h0 = ReadsSteps-shorter x0 in omega arith

  pub ReadsItems-shorter : {k rest : Terminals} {v : List Condition} → ReadsItems k v rest → length rest < length k
  ReadsItems-shorter (one_item x0) = let h0 = Reads-shorter x0 in omega arith
  ReadsItems-shorter (item_then x0 x1) = let h0 = Reads-shorter x0 in let h1 = ReadsItems-shorter x1 in omega arith

  pub ReadsSteps-shorter : {k rest : Terminals} {v : List OneStep} → ReadsSteps k v rest → length rest ≤ length k
  ReadsSteps-shorter no_step = omega arith
  ReadsSteps-shorter (name_step x0) = let h0 = ReadsSteps-shorter x0 in omega arith
  ReadsSteps-shorter (index_step x0 x1) = let h0 = Reads-shorter x0 in let h1 = ReadsSteps-shorter x1 in omega arith
  ReadsSteps-shorter (empty_call x0) = let h0 = ReadsSteps-shorter x0 in omega arith
  ReadsSteps-shorter (call_step x0 x1) = let h0 = ReadsItems-shorter x0 in let h1 = ReadsSteps-shorter x1 in omega arith

pub StringItems-shallow : {k rest : Terminals} {v : List ItemTree} → StringItems k v rest → (m o : ℕ) → Shallow m o k → Shallow m o rest
StringItems-shallow one_string m o s = s.1
StringItems-shallow one_wild m o s = s.1
StringItems-shallow (string_then x0) m o s = StringItems-shallow x0 m o s.1.1
StringItems-shallow (wild_then x0) m o s = StringItems-shallow x0 m o s.1.1

pub RuleItems-shallow : {k rest : Terminals} {v : List ItemTree} → RuleItems k v rest → (m o : ℕ) → Shallow m o k → Shallow m o rest
RuleItems-shallow one_rule m o s = s.1
RuleItems-shallow one_front m o s = s.1.1
RuleItems-shallow (rule_then x0) m o s = RuleItems-shallow x0 m o s.1.1
RuleItems-shallow (front_then x0) m o s = RuleItems-shallow x0 m o s.1.1.1

pub Sets-shallow : {k rest : Terminals} {v : SetTree} → Sets k v rest → (m o : ℕ) → Shallow m o k → Shallow m o rest
Sets-shallow them m o s = s.1
Sets-shallow (strings x0) m o s = (StringItems-shallow x0 m (suc o) s.1).1
Sets-shallow (rules x0) m o s = (RuleItems-shallow x0 m (suc o) s.1).1

mutual
  pub Reads-shallow : {p : Part} {k rest : Terminals} {v : Condition} → Reads p k v rest → (m o : ℕ) → Shallow m o k → Shallow m o rest
  Reads-shallow (one x0) m o s = Reads-shallow x0 m o s
  Reads-shallow (chain e0 x1 x2) m o s = Links-shallow x2 m o (Reads-shallow x1 m o s)
  Reads-shallow (pair e0 x1 e2 x3) m o s = Reads-shallow x3 m o ((Reads-shallow x1 m o s).1)
  Reads-shallow (matches x0) m o s = ((Reads-shallow x0 m o s).1).1
  Reads-shallow (negated x0) m o s = Reads-shallow x0 m o s.1
  Reads-shallow (is_defined x0) m o s = Reads-shallow x0 m o s.1
  Reads-shallow (plain x0) m o s = Reads-shallow x0 m o s
  Reads-shallow (found x0) m o s = Places-shallow x0 m o s.1
  Reads-shallow (of x0 x1 x2) m o s = Places-shallow x2 m o (Sets-shallow x1 m o ((Quants-shallow x0 m o s).1))
  Reads-shallow (for_of x0 x1 x2) m o s = (Reads-shallow x2 m (suc o) (((Sets-shallow x1 m o ((Counts-shallow x0 m o s.1).1)).1).1)).1
  Reads-shallow (for_in x0 x1 x2) m o s = (Reads-shallow x2 m (suc o) (((Overs-shallow x1 m o (((Counts-shallow x0 m o s.1).1).1)).1).1)).1
  Reads-shallow (compared x0) m o s = Reads-shallow x0 m o s
  Reads-shallow (minus x0) m o s = Reads-shallow x0 m o s.1
  Reads-shallow (flip x0) m o s = Reads-shallow x0 m o s.1
  Reads-shallow (bare x0) m o s = Reads-shallow x0 m o s
  Reads-shallow (brackets x0) m o s = (Reads-shallow x0 m (suc o) s.1).1
  Reads-shallow number m o s = s.1
  Reads-shallow text m o s = s.1
  Reads-shallow truth m o s = s.1
  Reads-shallow file_size m o s = s.1
  Reads-shallow (reads x0) m o s = (Reads-shallow x0 m (suc o) s.1.1).1
  Reads-shallow count m o s = s.1
  Reads-shallow (count_in x0) m o s = Ranges-shallow x0 m o s.1.1
  Reads-shallow offset m o s = s.1
  Reads-shallow (offset_at x0) m o s = (Reads-shallow x0 m (suc o) s.1.1).1
  Reads-shallow len m o s = s.1
  Reads-shallow (len_at x0) m o s = (Reads-shallow x0 m (suc o) s.1.1).1
  Reads-shallow (path x0) m o s = ReadsSteps-shallow x0 m o s.1

  pub Links-shallow : {p : Level} {k rest : Terminals} {v : List OneLink} → Links p k v rest → (m o : ℕ) → Shallow m o k → Shallow m o rest
  Links-shallow (last e0 x1) m o s = Reads-shallow x1 m o s.1
  Links-shallow (next e0 x1 x2) m o s = Links-shallow x2 m o (Reads-shallow x1 m o s.1)

  pub Counts-shallow : {k rest : Terminals} {v : Asked} → Counts k v rest → (m o : ℕ) → Shallow m o k → Shallow m o rest
  Counts-shallow every m o s = s.1
  Counts-shallow some m o s = s.1
  Counts-shallow none m o s = s.1
  Counts-shallow (at_least x0) m o s = Reads-shallow x0 m o s

  pub Quants-shallow : {k rest : Terminals} {v : Asked} → Quants k v rest → (m o : ℕ) → Shallow m o k → Shallow m o rest
  Quants-shallow (counts x0) m o s = Counts-shallow x0 m o s
  Quants-shallow (percent x0) m o s = (Reads-shallow x0 m o s).1

  pub Places-shallow : {k rest : Terminals} {v : Where} → Places k v rest → (m o : ℕ) → Shallow m o k → Shallow m o rest
  Places-shallow anywhere m o s = s
  Places-shallow (at x0) m o s = Reads-shallow x0 m o s.1
  Places-shallow (within x0) m o s = Ranges-shallow x0 m o s.1

  pub Ranges-shallow : {k rest : Terminals} {v w : Condition} → Ranges k v w rest → (m o : ℕ) → Shallow m o k → Shallow m o rest
  Ranges-shallow (from_to x0 x1) m o s = (Reads-shallow x1 m (suc o) ((Reads-shallow x0 m (suc o) s.1).1)).1

  pub Overs-shallow : {k rest : Terminals} {v : Domain} → Overs k v rest → (m o : ℕ) → Shallow m o k → Shallow m o rest
  Overs-shallow (over_range x0) m o s = Ranges-shallow x0 m o s
  Overs-shallow (over_list x0) m o s = (ReadsItems-shallow x0 m (suc o) s.1).1
  Overs-shallow (over_path x0) m o s = ReadsSteps-shallow x0 m o s.1

  pub ReadsItems-shallow : {k rest : Terminals} {v : List Condition} → ReadsItems k v rest → (m o : ℕ) → Shallow m o k → Shallow m o rest
  ReadsItems-shallow (one_item x0) m o s = Reads-shallow x0 m o s
  ReadsItems-shallow (item_then x0 x1) m o s = ReadsItems-shallow x1 m o ((Reads-shallow x0 m o s).1)

  pub ReadsSteps-shallow : {k rest : Terminals} {v : List OneStep} → ReadsSteps k v rest → (m o : ℕ) → Shallow m o k → Shallow m o rest
  ReadsSteps-shallow no_step m o s = s
  ReadsSteps-shallow (name_step x0) m o s = ReadsSteps-shallow x0 m o s.1.1
  ReadsSteps-shallow (index_step x0 x1) m o s = ReadsSteps-shallow x1 m o ((Reads-shallow x0 m (suc o) s.1).1)
  ReadsSteps-shallow (empty_call x0) m o s = ReadsSteps-shallow x0 m o s.1.1
  ReadsSteps-shallow (call_step x0 x1) m o s = ReadsSteps-shallow x1 m o ((ReadsItems-shallow x0 m (suc o) s.1).1)
