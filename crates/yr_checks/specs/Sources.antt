-- The rules of all units in source order, each with what stands before it.
use Rattle.std.specs.Prelude.{ℕ, ◌+◌, Bool, true, false, List, [], ◌∷◌, ◌++◌, length, map, filter, if◌then◌else◌, bytes_eq}
use Rattle.std.specs.List.{flat_map}
use Rattle.yr_syntax.specs.Declaration.{Declaration, RuleTree, declarations_of}
use Rattle.yr_syntax.specs.Declaration as declaration
use Rattle.yr_rules.specs.Weight.{total}
use Rattle.yr_checks.specs.declared.unit.Unit.{Unit}
use Rattle.yr_name_tables.specs.Names.{Name}

-- the declarations of a rule file, and their namespace
pub record UnitTree : Type 0 where
  pub space : Name
  pub declarations : List Declaration

-- the plain unit
abbrev pub unit_of : Unit → UnitTree
unit_of u = record { space = u.namespace.items; declarations = declarations_of u.decls }

-- an import, with the number and the namespace of its unit
pub record PlacedImport : Type 0 where
  pub unit : ℕ
  pub space : Name
  pub name : Name
  pub file : ℕ
  pub line : ℕ

-- an import, or a rule with the number and the namespace of its unit
pub data Item : Type 0 where
  Import : PlacedImport → Item
  Rule : (unit : ℕ) → (space : Name) → RuleTree → Item

-- a declaration in its unit and its namespace
abbrev pub item_of : ℕ → Name → Declaration → Item
item_of unit space (declaration.Import name file line) = Import (record { unit = unit; space = space; name = name; file = file; line = line })
item_of unit space (declaration.Rule r) = Rule unit space r

-- source order is unit after unit, from the number on
abbrev pub items_from : ℕ → List UnitTree → List Item
items_from k [] = []
items_from k (u ∷ us) = map (item_of k u.space) u.declarations ++ items_from (k + 1) us

-- all declarations in source order
abbrev pub items_of : List UnitTree → List Item
items_of units = items_from 0 units

-- a rule with all that stands before it
pub record PlacedRule : Type 0 where
  pub before : List Item
  pub unit : ℕ
  pub space : Name
  pub rule : RuleTree

-- the rules among these items, where those stand before
abbrev pub placed_after : List Item → List Item → List PlacedRule
placed_after before [] = []
placed_after before (Import i ∷ items) = placed_after (before ++ Import i ∷ []) items
placed_after before (Rule unit space r ∷ items) =
    record { before = before; unit = unit; space = space; rule = r } ∷ placed_after (before ++ Rule unit space r ∷ []) items

-- the rules in source order
abbrev pub rules_in : List Item → List PlacedRule
rules_in items = placed_after [] items

-- how many rules stand before it
abbrev pub number_of : PlacedRule → ℕ
number_of p = length (rules_in p.before)

-- how many strings the rules have
abbrev pub strings_in : List PlacedRule → ℕ
strings_in rules = total (λ p. length p.rule.strings) rules

-- how many strings the rules before it have
abbrev pub first_string_of : PlacedRule → ℕ
first_string_of p = strings_in (rules_in p.before)

-- the rule stands in the namespace
abbrev pub is_in : Name → PlacedRule → Bool
is_in space p = bytes_eq p.space space

-- the earlier rules of its namespace
abbrev pub earlier : PlacedRule → List PlacedRule
earlier p = filter (is_in p.space) (rules_in p.before)

-- the name that an item imports into a namespace
abbrev pub imported : Name → Item → List Name
imported space (Import i) = if bytes_eq i.space space then i.name ∷ [] else []
imported space (Rule unit own r) = []

-- the names that stand imported in its namespace
abbrev pub imports : PlacedRule → List Name
imports p = flat_map (imported p.space) p.before

-- some item is a rule
abbrev pub has_rule : List Item → Bool
has_rule [] = false
has_rule (Import i ∷ items) = has_rule items
has_rule (Rule unit space r ∷ items) = true

-- the imports after the last rule
abbrev pub last_imports : List Item → List PlacedImport
last_imports [] = []
last_imports (Import i ∷ items) = if has_rule items then last_imports items else i ∷ last_imports items
last_imports (Rule unit space r ∷ items) = last_imports items

-- where the checks stand: at a rule, or past the last rule
pub data Place : Type 0 where
  AtRule : PlacedRule → Place
  AtEnd : List Item → Place

-- the rules in source order, and the end
abbrev pub places : List Item → List Place
places items = map AtRule (rules_in items) ++ AtEnd items ∷ []

-- what stands before a place
abbrev pub before : Place → List Item
before (AtRule p) = p.before
before (AtEnd items) = items

-- the same, with the rule itself
abbrev pub up_to : Place → List Item
up_to (AtRule p) = p.before ++ Rule p.unit p.space p.rule ∷ []
up_to (AtEnd items) = items
