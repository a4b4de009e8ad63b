-- What a regular expression is: a pattern with its greed, no expression, one with a bad place, or one of both greeds.
use Rattle.std.specs.Prelude.{◌≡◌, ℕ, ◌+◌, ◌≤◌, Bool, true, false, not, ◌&&◌, length, Result, Ok, Err}
use Rattle.yr_pattern.specs.Tree.{Tree, tree_of}
use Rattle.yr_regex.specs.declared.fault.RegexFault.{RegexFault}
use Rattle.yr_regex.specs.declared.fault.RegexFault.TheVariants.{RegexSyntax, RegexRange, MixedGreed, NoMemory}
use Rattle.yr_regex.specs.declared.regex.Regex.{Regex}
use Rattle.yr_regex.specs.Escapes.{Text}
use Rattle.yr_regex.specs.Expressions.{Branches}
use Rattle.yr_regex.specs.Grammar.{SpellsRegex}
use Rattle.yr_regex.specs.Faults.{HasBadBranch, has_lazy, has_eager}
use Rattle.yr_regex.specs.Meaning.{meaning}

-- the text has a reading with nothing bad and quantifiers of one greed; the tree is its pattern, and it is greedy unless a quantifier has a `?`
pub record IsRegex (t : Text) (nocase dot_all : Bool) (tree : Tree) (greedy : Bool) : Type 0 where
  pub branches : Branches
  pub spells : SpellsRegex t branches
  pub good : (left : ℕ) → ¬ HasBadBranch branches left
  pub one_greed : (has_lazy branches && has_eager branches) ≡ false
  pub means : tree ≡ meaning nocase dot_all branches
  pub greed : greedy ≡ not (has_lazy branches)

-- the text has no reading
abbrev pub HasNoReading : Text → Type 0
HasNoReading t = (branches : Branches) → ¬ SpellsRegex t branches

-- the text has a reading, and at the place stands its first bad quantifier or range
pub record IsFirstBad (t : Text) (place : ℕ) : Type 0 where
  pub branches : Branches
  pub left : ℕ
  pub spells : SpellsRegex t branches
  pub bad : HasBadBranch branches left
  pub first : (other : ℕ) → HasBadBranch branches other → other ≤ left
  pub at : place + left ≡ length t

-- the text has a reading with nothing bad, and quantifiers of both greeds
pub record HasMixedGreed (t : Text) : Type 0 where
  pub branches : Branches
  pub spells : SpellsRegex t branches
  pub good : (left : ℕ) → ¬ HasBadBranch branches left
  pub mixed : (has_lazy branches && has_eager branches) ≡ true

-- the answer is the one that the text has, unless there was no memory
abbrev pub Answers : Text → (nocase dot_all : Bool) → Result Regex RegexFault → Type 0
Answers t nocase dot_all (Ok regex) = IsRegex t nocase dot_all (tree_of regex.pattern) regex.greedy
Answers t nocase dot_all (Err RegexSyntax) = HasNoReading t
Answers t nocase dot_all (Err (RegexRange place)) = IsFirstBad t place
Answers t nocase dot_all (Err MixedGreed) = HasMixedGreed t
Answers t nocase dot_all (Err NoMemory) = Unit {0}

-- two answers are the same, where neither is for want of memory
abbrev pub Agree : Result Regex RegexFault → Result Regex RegexFault → Type 0
Agree (Ok a) (Ok b) = (tree_of a.pattern ≡ tree_of b.pattern) × (a.greedy ≡ b.greedy)
Agree (Ok a) (Err RegexSyntax) = ⊥
Agree (Ok a) (Err (RegexRange q)) = ⊥
Agree (Ok a) (Err MixedGreed) = ⊥
Agree (Ok a) (Err NoMemory) = Unit {0}
Agree (Err RegexSyntax) (Ok b) = ⊥
Agree (Err RegexSyntax) (Err RegexSyntax) = Unit {0}
Agree (Err RegexSyntax) (Err (RegexRange q)) = ⊥
Agree (Err RegexSyntax) (Err MixedGreed) = ⊥
Agree (Err RegexSyntax) (Err NoMemory) = Unit {0}
Agree (Err (RegexRange p)) (Ok b) = ⊥
Agree (Err (RegexRange p)) (Err RegexSyntax) = ⊥
Agree (Err (RegexRange p)) (Err (RegexRange q)) = p ≡ q
Agree (Err (RegexRange p)) (Err MixedGreed) = ⊥
Agree (Err (RegexRange p)) (Err NoMemory) = Unit {0}
Agree (Err MixedGreed) (Ok b) = ⊥
Agree (Err MixedGreed) (Err RegexSyntax) = ⊥
Agree (Err MixedGreed) (Err (RegexRange q)) = ⊥
Agree (Err MixedGreed) (Err MixedGreed) = Unit {0}
Agree (Err MixedGreed) (Err NoMemory) = Unit {0}
Agree (Err NoMemory) s = Unit {0}
