-- What a word means, and what a path leads to.
use Rattle.std.specs.Prelude.{ℕ, ℤ, ◌+◌, ◌==◌, List, [], ◌∷◌, ◌++◌, length, map, codes, if◌then◌else◌, Option, Some, None, bytes_eq}
use Rattle.std.specs.Option.{option_map, option_or, unwrap_or}
use Rattle.yr_base.specs.declared.value.Kind.{Kind}
use Rattle.yr_syntax.specs.Condition.{Steps, Items, Domain, no_step, name_step, index_step, call_step, no_item, item, OverRange, OverList, OverPath}
use Rattle.yr_values.specs.declared.names.ModuleEntry.{ModuleEntry}
use Rattle.yr_values.specs.declared.names.ModuleEntry.TheVariants as row
use Rattle.yr_values.specs.Names.{NamedRow, NamedModule}
use Rattle.yr_rules.specs.Rules.{PlainExternal}
use Rattle.yr_name_tables.specs.Names.{Name, place_of}

-- an earlier rule by its name, and its number in source order
pub record EarlierRule : Type 0 where
  pub name : Name
  pub number : ℕ

-- what a rule's names are looked up in: the imported modules, the externals, the earlier rules of its namespace and its own strings
pub record Around : Type 0 where
  pub modules : List NamedModule
  pub externals : List PlainExternal
  pub rules : List EarlierRule
  pub strings : List Name
  pub first_string : ℕ

-- an open loop: over the members of a set, over numbers by a variable, or by a variable over the entries of a module's array
pub data Scope : Type 0 where
  Members : Scope
  Numbers : Name → Scope
  Entries : Name → NamedModule → (path : Name) → Scope

-- whether a field is one of an entry, and of which: the one at which the loop of this number stands, or the one of the written index
pub data Index : Type 0 where
  NoIndex : Index
  OfLoop : ℕ → Index
  Written : Index

-- what a word means, or what a path leads to
pub data Meaning : Type 0 where
  -- a word without a meaning, a field that its module lacks
  Unknown : Meaning
  -- a path that is not allowed
  Wrong : Meaning
  Module : NamedModule → Meaning
  Array : NamedModule → (path : Name) → (count : ℕ) → Meaning
  Entry : NamedModule → (path : Name) → Index → Meaning
  Function : ℕ → Kind → Meaning
  Constant : ℤ → Meaning
  Field : ℕ → Kind → Index → Meaning
  Result : ℕ → Kind → Meaning
  Variable : ℕ → Meaning
  External : ℕ → Meaning
  RuleTruth : ℕ → Meaning

-- the innermost loop variable of that name; a loop's number is how many loops stand round it
abbrev pub variable_meaning : Name → List Scope → Option Meaning
variable_meaning w [] = None
variable_meaning w (Members ∷ scopes) = variable_meaning w scopes
variable_meaning w (Numbers v ∷ scopes) = if bytes_eq w v then Some (Variable (length scopes)) else variable_meaning w scopes
variable_meaning w (Entries v m path ∷ scopes) =
    if bytes_eq w v then Some (Entry m path (OfLoop (length scopes))) else variable_meaning w scopes

-- the first module of that name
abbrev pub module_named : List NamedModule → Name → Option NamedModule
module_named [] w = None
module_named (m ∷ ms) w = if bytes_eq w m.name then Some m else module_named ms w

-- the number of the earlier rule of that name
abbrev pub rule_named : List EarlierRule → Name → Option ℕ
rule_named [] w = None
rule_named (r ∷ rs) w = if bytes_eq w r.name then Some r.number else rule_named rs w

-- a word means, in this order, the innermost loop variable, an imported module, an external, an earlier rule of the namespace
abbrev pub meaning_of : Around → Name → List Scope → Meaning
meaning_of around w scopes =
    unwrap_or
    (option_or (variable_meaning w scopes)
    (option_or (option_map Module (module_named around.modules w))
    (option_or (option_map External (place_of w (map (λ e. e.name) around.externals)))
    (option_map RuleTruth (rule_named around.rules w)))))
    Unknown

-- what the first row with a path names
abbrev pub row_named : List NamedRow → Name → Option ModuleEntry
row_named [] path = None
row_named (r ∷ rs) path = if bytes_eq path r.path then Some r.entry else row_named rs path

-- what a row of a module means, or that it is not there
abbrev pub row_meaning : NamedModule → Name → Index → Option ModuleEntry → Meaning
row_meaning m path index None = Unknown
row_meaning m path index (Some (row.Constant n)) = Constant n
row_meaning m path index (Some (row.Field id kind)) = Field id kind index
row_meaning m path index (Some (row.Array count)) = Array m path count
row_meaning m path index (Some (row.Call id kind)) = Function id kind

-- what a path of a module leads to
abbrev pub member_meaning : NamedModule → Name → Index → Meaning
member_meaning m path index = row_meaning m path index (row_named m.rows path)

-- a name behind: a field of a module, or of an entry
abbrev pub then_name : Meaning → Name → Meaning
then_name (Module m) w = member_meaning m w NoIndex
then_name (Entry m path index) w = member_meaning m (path ++ codes "[]." ++ w) index
then_name other w = Wrong

-- an index behind: an entry of an array
abbrev pub then_index : Meaning → Meaning
then_index (Array m path count) = Entry m path Written
then_index other = Wrong

-- so many arguments behind: a call has two
abbrev pub then_call : Meaning → ℕ → Meaning
then_call (Function id kind) n = if n == 2 then Result id kind else Wrong
then_call other n = Wrong

-- how many conditions a list has
abbrev pub count_of : Items → ℕ
count_of no_item = 0
count_of (item c rest) = count_of rest + 1

-- what the steps of a path lead to from here
abbrev pub steps_meaning : Steps → Meaning → Meaning
steps_meaning no_step m = m
steps_meaning (name_step w rest) m = steps_meaning rest (then_name m w)
steps_meaning (index_step c rest) m = steps_meaning rest (then_index m)
steps_meaning (call_step arguments rest) m = steps_meaning rest (then_call m (count_of arguments))

-- a path begins with a word
abbrev pub path_meaning : Around → Steps → List Scope → Meaning
path_meaning around (name_step w rest) scopes = steps_meaning rest (meaning_of around w scopes)
path_meaning around no_step scopes = Wrong
path_meaning around (index_step c rest) scopes = Wrong
path_meaning around (call_step arguments rest) scopes = Wrong

-- a loop over an array has an entry as its variable, every other loop a number
abbrev pub scope_of : Name → Meaning → Scope
scope_of v (Array m path count) = Entries v m path
scope_of v other = Numbers v

-- the loop that a variable goes through
abbrev pub opened : Around → Name → Domain → List Scope → Scope
opened around v (OverRange low high) scopes = Numbers v
opened around v (OverList items) scopes = Numbers v
opened around v (OverPath steps) scopes = scope_of v (path_meaning around steps scopes)

-- the number of the innermost loop over members
abbrev pub current_of : List Scope → Option ℕ
current_of [] = None
current_of (Members ∷ scopes) = Some (length scopes)
current_of (Numbers v ∷ scopes) = current_of scopes
current_of (Entries v m path ∷ scopes) = current_of scopes
