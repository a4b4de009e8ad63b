-- Declarations as plain trees.
use Rattle.std.specs.Prelude.{ℕ, ℤ, Bool, List, map, Option, option_map, Vec}
use Rattle.std.specs.declared.alloc.Global.{Global}
use Rattle.yr_syntax.specs.declared.modifier.Modifier.{Modifier}
use Rattle.yr_syntax.specs.declared.modifier.Modifier.TheVariants as modifier
use Rattle.yr_syntax.specs.declared.modifier.StringKind.{StringKind}
use Rattle.yr_syntax.specs.declared.modifier.StringKind.TheVariants as kind
use Rattle.yr_syntax.specs.declared.string.StringBody.{StringBody}
use Rattle.yr_syntax.specs.declared.string.StringBody.TheVariants as body
use Rattle.yr_syntax.specs.declared.string.StringDecl.{StringDecl}
use Rattle.yr_syntax.specs.declared.declaration.MetaValue.{MetaValue}
use Rattle.yr_syntax.specs.declared.declaration.MetaValue.TheVariants as value
use Rattle.yr_syntax.specs.declared.declaration.Meta.{Meta}
use Rattle.yr_syntax.specs.declared.declaration.Rule.{Rule as RuleType}
use Rattle.yr_syntax.specs.declared.declaration.Decl.{Decl}
use Rattle.yr_syntax.specs.declared.declaration.Decl.TheVariants as decl
use Rattle.yr_syntax.specs.Condition.{Condition, RegexTree, regex_of, tree_of}

-- the items of a list of bytes
abbrev pub bytes_of : Vec ℕ Global → List ℕ
bytes_of v = v.items

-- a modifier
pub data ModifierTree : Type 0 where
  NoCase : ModifierTree
  Wide : ModifierTree
  Ascii : ModifierTree
  FullWord : ModifierTree
  Hidden : ModifierTree
  Xor : (low high : ℤ) → ModifierTree
  Base64 : (alphabet : Option (List ℕ)) → ModifierTree
  Base64Wide : (alphabet : Option (List ℕ)) → ModifierTree

abbrev pub modifier_of : Modifier → ModifierTree
modifier_of modifier.NoCase = NoCase
modifier_of modifier.Wide = Wide
modifier_of modifier.Ascii = Ascii
modifier_of modifier.FullWord = FullWord
modifier_of modifier.Hidden = Hidden
modifier_of (modifier.Xor low high) = Xor low high
modifier_of (modifier.Base64 alphabet) = Base64 (option_map bytes_of alphabet)
modifier_of (modifier.Base64Wide alphabet) = Base64Wide (option_map bytes_of alphabet)

-- what a string looks for
pub data BodyTree : Type 0 where
  Text : List ℕ → BodyTree
  Hex : List ℕ → BodyTree
  Regex : RegexTree → BodyTree

abbrev pub body_of : StringBody → BodyTree
body_of (body.Text t) = Text t.items
body_of (body.Hex t) = Hex t.items
body_of (body.Regex r) = Regex (regex_of r)

-- whether it is a text, a hex string or an expression
abbrev pub kind_of : BodyTree → StringKind
kind_of (Text t) = kind.Text
kind_of (Hex t) = kind.Hex
kind_of (Regex r) = kind.Regex

-- a string
pub record StringTree : Type 0 where
  pub name : List ℕ
  pub body : BodyTree
  pub modifiers : List ModifierTree
  pub line : ℕ

abbrev pub string_of : StringDecl → StringTree
string_of s = record { name = s.name.items; body = body_of s.body; modifiers = map modifier_of s.modifiers.items; line = s.line }

-- the value of an entry of meta
pub data ValueTree : Type 0 where
  TextValue : List ℕ → ValueTree
  NumberValue : ℤ → ValueTree
  FlagValue : Bool → ValueTree

abbrev pub value_of : MetaValue → ValueTree
value_of (value.Text t) = TextValue t.items
value_of (value.Number n) = NumberValue n
value_of (value.Flag b) = FlagValue b

-- an entry of meta
pub record MetaTree : Type 0 where
  pub key : List ℕ
  pub value : ValueTree

abbrev pub meta_of : Meta → MetaTree
meta_of m = record { key = m.key.items; value = value_of m.value }

-- a rule
pub record RuleTree : Type 0 where
  pub name : List ℕ
  pub global : Bool
  pub hidden : Bool
  pub tags : List (List ℕ)
  pub meta : List MetaTree
  pub strings : List StringTree
  pub condition : Condition
  pub file : ℕ
  pub line : ℕ

abbrev pub rule_of : RuleType → RuleTree
rule_of r = record {
  name = r.name.items;
  global = r.global;
  hidden = r.hidden;
  tags = map bytes_of r.tags.items;
  meta = map meta_of r.meta.items;
  strings = map string_of r.strings.items;
  condition = tree_of r.condition;
  file = r.file;
  line = r.line;
}

-- an import, by the name of its module, or a rule
pub data Declaration : Type 0 where
  Import : (name : List ℕ) → (file line : ℕ) → Declaration
  Rule : RuleTree → Declaration

abbrev pub declaration_of : Decl → Declaration
declaration_of (decl.Import name file line) = Import name.items file line
declaration_of (decl.Rule r) = Rule (rule_of r)

abbrev pub declarations_of : Vec Decl Global → List Declaration
declarations_of v = map declaration_of v.items
