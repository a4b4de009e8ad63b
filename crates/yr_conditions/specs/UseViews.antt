-- What the code keeps of meanings, open loops, uses and what stands round a rule, as plain data.
use Rattle.std.specs.Prelude.{ℕ, Bool, true, false, List, [], ◌∷◌, ◌++◌, map, filter, Option, Some, None, if◌then◌else◌, bytes_eq}
use Rattle.yr_syntax.specs.Condition.{regex_of}
use Rattle.yr_values.specs.Names.{NamedModule, module_shown}
use Rattle.yr_rules.specs.Rules.{external_of}
use Rattle.yr_name_tables.specs.Names.{Name, has}
use Rattle.yr_conditions.specs.Meanings.{Around, EarlierRule, Scope, Members, Numbers, Entries, Index, NoIndex, OfLoop, Written, Meaning, Unknown, Wrong, Module, Array, Entry, Function, Constant, Field, Result, Variable, External, RuleTruth}
use Rattle.yr_conditions.specs.Uses as use'
use Rattle.yr_conditions.specs.Uses.{Use}
use Rattle.yr_conditions.specs.declared.meaning.Index.{Index as IndexType}
use Rattle.yr_conditions.specs.declared.meaning.Index.TheVariants as index
use Rattle.yr_conditions.specs.declared.meaning.Meaning.{Meaning as MeaningType}
use Rattle.yr_conditions.specs.declared.meaning.Meaning.TheVariants as meaning
use Rattle.yr_conditions.specs.declared.scopes.Scope.{Scope as ScopeType}
use Rattle.yr_conditions.specs.declared.scopes.Scope.TheVariants as scope
use Rattle.yr_conditions.specs.declared.uses.Use.{Use as UseType}
use Rattle.yr_conditions.specs.declared.uses.Use.TheVariants as code

abbrev pub index_of : IndexType → Index
index_of index.None = NoIndex
index_of (index.OfLoop k) = OfLoop k
index_of index.Written = Written

abbrev pub shown : MeaningType → Meaning
shown meaning.Unknown = Unknown
shown meaning.Wrong = Wrong
shown (meaning.Module m) = Module (module_shown m.now)
shown (meaning.Array m path count) = Array (module_shown m.now) path.now count
shown (meaning.Entry m path i) = Entry (module_shown m.now) path.now (index_of i)
shown (meaning.Function id kind) = Function id kind
shown (meaning.Constant n) = Constant n
shown (meaning.Field id kind i) = Field id kind (index_of i)
shown (meaning.Result id kind) = Result id kind
shown (meaning.Variable k) = Variable k
shown (meaning.External k) = External k
shown (meaning.RuleTruth k) = RuleTruth k

abbrev pub scope_of : ScopeType → Scope
scope_of scope.Members = Members
scope_of (scope.Numbers v) = Numbers v.now
scope_of (scope.Entries v m path) = Entries v.now (module_shown m.now) path.now

-- the list turned round
abbrev pub innermost_first : {A : Type 0} → List A → List A
innermost_first [] = []
innermost_first (x ∷ xs) = innermost_first xs ++ x ∷ []

abbrev pub use_of : UseType → Use
use_of (code.String sign n) = use'.String sign n.now
use_of (code.Nameless sign) = use'.Nameless sign
use_of (code.Member n wild) = use'.Member n.now wild
use_of code.Everything = use'.Everything
use_of (code.Earlier n wild) = use'.Earlier n.now wild
use_of (code.Unknown w) = use'.Unknown w.now
use_of (code.Expression r) = use'.Expression (regex_of r.now)
use_of (code.Loop round) = use'.Loop round
use_of (code.Listed items) = use'.Listed items

-- names with their numbers
abbrev pub earlier_rules : List Name → List ℕ → List EarlierRule
earlier_rules [] numbers = []
earlier_rules (n ∷ ns) [] = []
earlier_rules (n ∷ ns) (k ∷ ks) = record { name = n; number = k } ∷ earlier_rules ns ks

-- the modules with one of these names
abbrev pub imported_modules : List Name → List NamedModule → List NamedModule
imported_modules names modules = filter (λ m. has m.name names) modules

-- what the word means as the variable of one loop, by how many stand round it
abbrev pub own_meaning : Name → ℕ → Scope → Option Meaning
own_meaning w round Members = None
own_meaning w round (Numbers v) = if bytes_eq w v then Some (Variable round) else None
own_meaning w round (Entries v m path) = if bytes_eq w v then Some (Entry m path (OfLoop round)) else None

abbrev pub is_over_members : Scope → Bool
is_over_members Members = true
is_over_members (Numbers v) = false
is_over_members (Entries v m path) = false
