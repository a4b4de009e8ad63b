-- Small rule files, on which the checks are tried.
use Rattle.std.specs.Prelude.{ℕ, pos, true, false, List, [], ◌∷◌, map, codes, Option, Err}
use Rattle.std.specs.Option.{option_map}
use Rattle.yr_base.specs.declared.value.Kind.TheVariants as kind
use Rattle.yr_syntax.specs.declared.operator.Infix.TheVariants as op
use Rattle.yr_syntax.specs.Condition as tree
use Rattle.yr_syntax.specs.Condition.{Condition, Steps}
use Rattle.yr_syntax.specs.Declaration as declaration
use Rattle.yr_syntax.specs.Declaration.{Declaration, StringTree, BodyTree}
use Rattle.yr_values.specs.declared.names.ModuleEntry.TheVariants as row
use Rattle.yr_values.specs.Names.{NamedModule}
use Rattle.yr_values.specs.Values as value
use Rattle.yr_rules.specs.NodeTree.{NodeTree}
use Rattle.yr_name_tables.specs.Names.{Name}
use Rattle.yr_checks.specs.Sources.{UnitTree, items_of}
use Rattle.yr_conditions.specs.Readers.{Readers, Jump, Mixed}
use Rattle.yr_checks.specs.Given.{Given}
use Rattle.yr_checks.specs.Checked.{checked_rules}
use Rattle.yr_checks.specs.Refusals.{PlainRefusal, first_fault}

-- readers that find a bad jump and quantifiers of both greeds everywhere
abbrev pub bad_readers : Readers
bad_readers = record { hex = λ t. Err (Jump 4); regex = λ t nocase dot_all. Err Mixed }

-- two small modules
abbrev pub elf : NamedModule
elf = record {
  name = codes "elf";
  rows = record { path = codes "type"; entry = row.Field 1 kind.Number } ∷ record { path = codes "sections"; entry = row.Array 4 }
      ∷ record { path = codes "sections[].name"; entry = row.Field 16 kind.Text } ∷ record { path = codes "ET_EXEC"; entry = row.Constant (pos 2) } ∷ [];
}

abbrev pub hash : NamedModule
hash = record { name = codes "hash"; rows = record { path = codes "md5"; entry = row.Call 64 kind.Text } ∷ [] }

abbrev pub given : Given
given = record { readers = bad_readers; modules = elf ∷ hash ∷ []; externals = record { name = codes "n"; value = value.Number (pos 5) } ∷ [] }

-- an import and a rule, on the first line of the first file
abbrev pub import_of : Name → Declaration
import_of name = declaration.Import name 0 1

abbrev pub rule_with : Name → List StringTree → Condition → Declaration
rule_with name strings condition = declaration.Rule (record {
  name = name;
  global = false;
  hidden = false;
  tags = [];
  meta = [];
  strings = strings;
  condition = condition;
  file = 0;
  line = 1;
})

abbrev pub rule_of : Condition → List Declaration
rule_of condition = rule_with (codes "x") [] condition ∷ []

abbrev pub string_of : Name → BodyTree → StringTree
string_of name body = record { name = name; body = body; modifiers = []; line = 1 }

-- a rule file in a namespace
abbrev pub unit_with : Name → List Declaration → UnitTree
unit_with space declarations = record { space = space; declarations = declarations }

abbrev pub one_unit : List Declaration → List UnitTree
one_unit declarations = unit_with (codes "default") declarations ∷ []

-- which check fails, at which rule, and what is named
pub record Short : Type 0 where
  pub check : ℕ
  pub rule : Option ℕ
  pub named : Name

abbrev pub short : PlainRefusal → Short
short r = record { check = r.check; rule = r.rule; named = r.named }

abbrev pub refused : List UnitTree → Option Short
refused units = option_map short (first_fault given units)

-- the conditions of the checked rules
abbrev pub conditions : List UnitTree → List NodeTree
conditions units = map (λ r. r.condition) (checked_rules given (items_of units)).rules

abbrev pub word : Name → Steps → Condition
word w rest = tree.Path (tree.name_step w rest)

abbrev pub one : Condition
one = tree.Number (pos 1)

-- a == b
abbrev pub equal : Condition → Condition → Condition
equal a b = tree.Chain a (tree.link op.Equal b tree.no_link)

-- hash.md5("abc") == "x"
abbrev pub one_argument : Condition
one_argument =
    equal (word (codes "hash") (tree.name_step (codes "md5") (tree.call_step (tree.item (tree.Text (codes "abc")) tree.no_item) tree.no_step)))
    (tree.Text (codes "x"))

-- for any s in elf.sections : ( s.FIELD == ".text" )
abbrev pub over_sections : Name → Condition
over_sections field =
    tree.ForIn tree.Any (codes "s") (tree.OverPath (tree.name_step (codes "elf") (tree.name_step (codes "sections") tree.no_step)))
    (equal (word (codes "s") (tree.name_step field tree.no_step)) (tree.Text (codes ".text")))

-- for any i in (1..i) : ( i == 1 )
abbrev pub own_bound : Condition
own_bound = tree.ForIn tree.Any (codes "i") (tree.OverRange one (word (codes "i") tree.no_step)) (equal (word (codes "i") tree.no_step) one)

-- for any i in (1..2) : ( for any of them : ( @ == i ) )
abbrev pub nested : Condition
nested =
    tree.ForIn tree.Any (codes "i") (tree.OverRange one (tree.Number (pos 2)))
    (tree.ForOf tree.Any tree.Them (equal (tree.Offset []) (word (codes "i") tree.no_step)))

-- for # of them : ( $ )
abbrev pub nameless_count : Condition
nameless_count = tree.ForOf (tree.AtLeast (tree.Count [])) tree.Them (tree.Found [] tree.Anywhere)

-- any of (p*)
abbrev pub any_of_p : Condition
any_of_p = tree.Of tree.Any (tree.Rules (record { name = codes "p"; wild = true } ∷ [])) tree.Anywhere

abbrev pub yes : Condition
yes = tree.Flag true

abbrev pub text_string : List StringTree
text_string = string_of (codes "a") (declaration.Text (codes "ab")) ∷ []

abbrev pub hex_string : List StringTree
hex_string = string_of (codes "a") (declaration.Hex (codes " 01 [2-] ")) ∷ []

abbrev pub found : Condition
found = tree.Found (codes "a") tree.Anywhere
