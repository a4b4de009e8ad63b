-- A condition as a plain tree, with no vectors and no pointers: the tree that the grammar, the checks and the meaning speak of.
use Rattle.std.specs.Prelude.{ℕ, ℤ, Bool, List, [], ◌∷◌, map, Option, Some, None, Box}
use Rattle.std.specs.declared.alloc.Global.{Global}
use Rattle.yr_syntax.specs.declared.operator.PrefixOp.{PrefixOp}
use Rattle.yr_syntax.specs.declared.operator.Infix.{Infix}
use Rattle.yr_syntax.specs.declared.operator.Reader.{Reader}
use Rattle.yr_syntax.specs.declared.string.RegexText.{RegexText}
use Rattle.yr_syntax.specs.declared.condition.SetItem.{SetItem}
use Rattle.yr_syntax.specs.declared.condition.SetRef.{SetRef}
use Rattle.yr_syntax.specs.declared.condition.SetRef.TheVariants as refs
use Rattle.yr_syntax.specs.declared.condition.Cond.{Cond}
use Rattle.yr_syntax.specs.declared.condition.PathStep.{PathStep}
use Rattle.yr_syntax.specs.declared.condition.Link.{Link}
use Rattle.yr_syntax.specs.declared.condition.Place.{Place}
use Rattle.yr_syntax.specs.declared.condition.Range.{Range}
use Rattle.yr_syntax.specs.declared.condition.Quant.{Quant}
use Rattle.yr_syntax.specs.declared.condition.Over.{Over}
use Rattle.yr_syntax.specs.declared.condition.Cond.TheOpen.{Cond-F, PathStep-F, Link-F, Place-F, Range-F, Quant-F, Over-F}
use Rattle.yr_syntax.specs.declared.condition.Cond.TheFolds.{fold-Cond, fold-PathStep, fold-Link, fold-Place, fold-Range, fold-Quant, fold-Over}

-- a regular expression, and its flags
pub record RegexTree : Type 0 where
  pub text : List ℕ
  pub nocase : Bool
  pub dot_all : Bool

-- a name of a set, or with `wild` the beginning of names
pub record ItemTree : Type 0 where
  pub name : List ℕ
  pub wild : Bool

-- a set of strings or of rules
pub data SetTree : Type 0 where
  Them : SetTree
  Strings : List ItemTree → SetTree
  Rules : List ItemTree → SetTree

mutual
  -- a condition
  pub data Condition : Type 0 where
    Number : ℤ → Condition
    Text : List ℕ → Condition
    Flag : Bool → Condition
    FileSize : Condition
    Path : Steps → Condition
    Found : List ℕ → Where → Condition
    Count : List ℕ → Condition
    CountIn : List ℕ → (low high : Condition) → Condition
    Offset : List ℕ → Condition
    OffsetAt : List ℕ → (index : Condition) → Condition
    Length : List ℕ → Condition
    LengthAt : List ℕ → (index : Condition) → Condition
    Read : Reader → Condition → Condition
    Prefix : PrefixOp → Condition → Condition
    Chain : Condition → Links → Condition
    Matches : Condition → RegexTree → Condition
    Of : Asked → SetTree → Where → Condition
    ForOf : Asked → SetTree → (body : Condition) → Condition
    ForIn : Asked → List ℕ → Domain → (body : Condition) → Condition

  -- operators, each with its right operand
  pub data Links : Type 0 where
    no_link : Links
    link : Infix → Condition → Links → Links

  -- the parts of a path
  pub data Steps : Type 0 where
    no_step : Steps
    name_step : List ℕ → Steps → Steps
    index_step : Condition → Steps → Steps
    call_step : Items → Steps → Steps

  -- the conditions of a list
  pub data Items : Type 0 where
    no_item : Items
    item : Condition → Items → Items

  -- where a string is looked for
  pub data Where : Type 0 where
    Anywhere : Where
    At : Condition → Where
    Within : (low high : Condition) → Where

  -- how many are asked for
  pub data Asked : Type 0 where
    All : Asked
    Any : Asked
    Nil : Asked
    AtLeast : Condition → Asked
    Percent : Condition → Asked

  -- what a loop goes over
  pub data Domain : Type 0 where
    OverRange : (low high : Condition) → Domain
    OverList : Items → Domain
    OverPath : Steps → Domain

-- an operator with its right operand
pub record OneLink : Type 0 where
  pub op : Infix
  pub operand : Condition

-- the ends of a range
pub record Bounds : Type 0 where
  pub low : Condition
  pub high : Condition

-- a part of a path
pub data OneStep : Type 0 where
  Name : List ℕ → OneStep
  Index : Condition → OneStep
  Call : List Condition → OneStep

abbrev pub links_of : List OneLink → Links
links_of [] = no_link
links_of (l ∷ ls) = link l.op l.operand (links_of ls)

abbrev pub items_of : List Condition → Items
items_of [] = no_item
items_of (c ∷ cs) = item c (items_of cs)

abbrev pub steps_of : List OneStep → Steps
steps_of [] = no_step
steps_of (Name w ∷ ss) = name_step w (steps_of ss)
steps_of (Index c ∷ ss) = index_step c (steps_of ss)
steps_of (Call cs ∷ ss) = call_step (items_of cs) (steps_of ss)

abbrev pub count_of : List ℕ → Option Bounds → Condition
count_of name None = Count name
count_of name (Some r) = CountIn name r.low r.high

abbrev pub offset_of : List ℕ → Option Condition → Condition
offset_of name None = Offset name
offset_of name (Some i) = OffsetAt name i

abbrev pub length_of : List ℕ → Option Condition → Condition
length_of name None = Length name
length_of name (Some i) = LengthAt name i

-- what a box holds, if there is one
abbrev pub boxed : {A : Type 0} → Option (Box A Global) → Option A
boxed None = None
boxed (Some b) = Some b.value

abbrev pub regex_of : RegexText → RegexTree
regex_of r = record { text = r.text.items; nocase = r.nocase; dot_all = r.dot_all }

abbrev pub item_of : SetItem → ItemTree
item_of i = record { name = i.name.items; wild = i.wild }

abbrev pub set_of : SetRef → SetTree
set_of refs.Them = Them
set_of (refs.Strings items) = Strings (map item_of items.items)
set_of (refs.Rules items) = Rules (map item_of items.items)

-- what the parts of a cycle become, one result for each type
abbrev pub cond_step : Cond-F Condition Domain OneStep Where Asked OneLink Bounds → Condition
cond_step (Cond-F.Cond::Number n) = Number n
cond_step (Cond-F.Text t) = Text t.items
cond_step (Cond-F.Flag b) = Flag b
cond_step Cond-F.FileSize = FileSize
cond_step (Cond-F.Cond::Path steps) = Path (steps_of steps.items)
cond_step (Cond-F.Found name place) = Found name.items place
cond_step (Cond-F.Count name range) = count_of name.items range
cond_step (Cond-F.Offset name index) = offset_of name.items (boxed index)
cond_step (Cond-F.Length name index) = length_of name.items (boxed index)
cond_step (Cond-F.Read reader at) = Read reader at.value
cond_step (Cond-F.Prefix op inner) = Prefix op inner.value
cond_step (Cond-F.Chain first rest) = Chain first.value (links_of rest.items)
cond_step (Cond-F.Matches text regex) = Matches text.value (regex_of regex)
cond_step (Cond-F.Of quant set place) = Of quant (set_of set) place
cond_step (Cond-F.ForOf quant set body) = ForOf quant (set_of set) body.value
cond_step (Cond-F.ForIn quant name over body) = ForIn quant name.items over body.value

abbrev pub path_step : PathStep-F Condition Domain OneStep Where Asked OneLink Bounds → OneStep
path_step (PathStep-F.Name name) = Name name.items
path_step (PathStep-F.Index c) = Index c
path_step (PathStep-F.Call arguments) = Call arguments.items

abbrev pub link_step : Link-F Condition Domain OneStep Where Asked OneLink Bounds → OneLink
link_step l = record { op = l.op; operand = l.operand }

abbrev pub place_step : Place-F Condition Domain OneStep Where Asked OneLink Bounds → Where
place_step Place-F.Anywhere = Anywhere
place_step (Place-F.At c) = At c.value
place_step (Place-F.Within r) = Within r.low r.high

abbrev pub range_step : Range-F Condition Domain OneStep Where Asked OneLink Bounds → Bounds
range_step r = record { low = r.low.value; high = r.high.value }

abbrev pub quant_step : Quant-F Condition Domain OneStep Where Asked OneLink Bounds → Asked
quant_step Quant-F.All = All
quant_step Quant-F.Any = Any
quant_step Quant-F.Nil = Nil
quant_step (Quant-F.Quant::Number c) = AtLeast c.value
quant_step (Quant-F.Percent c) = Percent c.value

abbrev pub over_step : Over-F Condition Domain OneStep Where Asked OneLink Bounds → Domain
over_step (Over-F.Range r) = OverRange r.low r.high
over_step (Over-F.List items) = OverList (items_of items.items)
over_step (Over-F.Over::Path steps) = OverPath (steps_of steps.items)

-- the tree that a condition stands for
abbrev pub tree_of : Cond → Condition
tree_of = fold-Cond Condition Domain OneStep Where Asked OneLink Bounds cond_step over_step path_step place_step quant_step link_step range_step

-- the same for its parts
abbrev pub step_of : PathStep → OneStep
step_of = fold-PathStep Condition Domain OneStep Where Asked OneLink Bounds cond_step over_step path_step place_step quant_step link_step range_step

abbrev pub link_of : Link → OneLink
link_of = fold-Link Condition Domain OneStep Where Asked OneLink Bounds cond_step over_step path_step place_step quant_step link_step range_step

abbrev pub where_of : Place → Where
where_of = fold-Place Condition Domain OneStep Where Asked OneLink Bounds cond_step over_step path_step place_step quant_step link_step range_step

abbrev pub bounds_of : Range → Bounds
bounds_of = fold-Range Condition Domain OneStep Where Asked OneLink Bounds cond_step over_step path_step place_step quant_step link_step range_step

abbrev pub asked_of : Quant → Asked
asked_of = fold-Quant Condition Domain OneStep Where Asked OneLink Bounds cond_step over_step path_step place_step quant_step link_step range_step

abbrev pub domain_of : Over → Domain
domain_of = fold-Over Condition Domain OneStep Where Asked OneLink Bounds cond_step over_step path_step place_step quant_step link_step range_step
