-- What is kept of trees that are read from a rule file: the forms of names, the lengths of hex strings and expressions, and the height of conditions.
use Rattle.std.specs.Prelude.{◌≡◌, ℕ, ◌≤◌, ◌<◌, ◌^◌, true, List, [], ◌∷◌, length}
use Rattle.yr_base.specs.Bytes.{is_word_byte}
use Rattle.yr_base.specs.Words.{IsReserved, IsWord, name_limit}
use Rattle.yr_syntax.specs.Condition.{Condition, Links, Steps, Items, Where, Asked, Domain, SetTree, ItemTree, Number, Text, Flag, FileSize, Path, Found, Count, CountIn, Offset, OffsetAt, Length, LengthAt, Read, Prefix, Chain, Matches, Of, ForOf, ForIn, no_link, link, no_step, name_step, index_step, call_step, no_item, item, Anywhere, At, Within, All, Any, Nil, AtLeast, Percent, OverRange, OverList, OverPath, Them, Strings, Rules}
use Rattle.yr_syntax.specs.Height.{height}
use Rattle.yr_syntax.specs.Declaration.{BodyTree, StringTree, MetaTree, RuleTree, Declaration}
use Rattle.yr_syntax.specs.Declaration as declaration

-- each item of a list has the property
abbrev pub Each : {A : Type 0} → (A → Type 0) → List A → Type 0
Each P [] = Unit {0}
Each P (x ∷ xs) = P x × Each P xs

-- a word that is not reserved and not too long
abbrev pub IsWordName : List ℕ → Type 0
IsWordName w = IsWord w × (¬ IsReserved w) × (length w ≤ name_limit)

-- letters, digits and `_`, possibly none, and not too many
abbrev pub IsName : List ℕ → Type 0
IsName w = Each (λ b. is_word_byte b ≡ true) w × (length w ≤ name_limit)

-- a hex string or an expression whose places are numbers of 32 bits
abbrev pub IsShortText : List ℕ → Type 0
IsShortText t = length t < 2 ^ 32

-- an item of a set of strings, and of a set of rules
abbrev pub IsStringItem : ItemTree → Type 0
IsStringItem i = IsName i.name

abbrev pub IsRuleItem : ItemTree → Type 0
IsRuleItem i = IsWordName i.name

abbrev pub SetHasForms : SetTree → Type 0
SetHasForms Them = Unit {0}
SetHasForms (Strings items) = Each IsStringItem items
SetHasForms (Rules items) = Each IsRuleItem items

abbrev mutual
  pub HasForms : Condition → Type 0
  HasForms (Number n) = Unit {0}
  HasForms (Text t) = Unit {0}
  HasForms (Flag b) = Unit {0}
  HasForms FileSize = Unit {0}
  HasForms (Path steps) = StepsHaveForms steps
  HasForms (Found name place) = IsName name × PlaceHasForms place
  HasForms (Count name) = IsName name
  HasForms (CountIn name low high) = IsName name × HasForms low × HasForms high
  HasForms (Offset name) = IsName name
  HasForms (OffsetAt name index) = IsName name × HasForms index
  HasForms (Length name) = IsName name
  HasForms (LengthAt name index) = IsName name × HasForms index
  HasForms (Read reader at) = HasForms at
  HasForms (Prefix op inner) = HasForms inner
  HasForms (Chain first rest) = HasForms first × LinksHaveForms rest
  HasForms (Matches text regex) = HasForms text × IsShortText regex.text
  HasForms (Of asked set place) = AskedHasForms asked × SetHasForms set × PlaceHasForms place
  HasForms (ForOf asked set body) = AskedHasForms asked × SetHasForms set × HasForms body
  HasForms (ForIn asked name domain body) = AskedHasForms asked × IsWordName name × DomainHasForms domain × HasForms body

  pub LinksHaveForms : Links → Type 0
  LinksHaveForms no_link = Unit {0}
  LinksHaveForms (link op operand rest) = HasForms operand × LinksHaveForms rest

  pub StepsHaveForms : Steps → Type 0
  StepsHaveForms no_step = Unit {0}
  StepsHaveForms (name_step name rest) = IsWordName name × StepsHaveForms rest
  StepsHaveForms (index_step index rest) = HasForms index × StepsHaveForms rest
  StepsHaveForms (call_step arguments rest) = ItemsHaveForms arguments × StepsHaveForms rest

  pub ItemsHaveForms : Items → Type 0
  ItemsHaveForms no_item = Unit {0}
  ItemsHaveForms (item c rest) = HasForms c × ItemsHaveForms rest

  pub PlaceHasForms : Where → Type 0
  PlaceHasForms Anywhere = Unit {0}
  PlaceHasForms (At c) = HasForms c
  PlaceHasForms (Within low high) = HasForms low × HasForms high

  pub AskedHasForms : Asked → Type 0
  AskedHasForms All = Unit {0}
  AskedHasForms Any = Unit {0}
  AskedHasForms Nil = Unit {0}
  AskedHasForms (AtLeast c) = HasForms c
  AskedHasForms (Percent c) = HasForms c

  pub DomainHasForms : Domain → Type 0
  DomainHasForms (OverRange low high) = HasForms low × HasForms high
  DomainHasForms (OverList items) = ItemsHaveForms items
  DomainHasForms (OverPath steps) = StepsHaveForms steps

abbrev pub BodyHasForms : BodyTree → Type 0
BodyHasForms (declaration.Text t) = Unit {0}
BodyHasForms (declaration.Hex t) = IsShortText t
BodyHasForms (declaration.Regex r) = IsShortText r.text

abbrev pub StringHasForms : StringTree → Type 0
StringHasForms s = IsName s.name × BodyHasForms s.body

abbrev pub MetaHasForms : MetaTree → Type 0
MetaHasForms m = IsWordName m.key

-- the most nodes other than prefix operators on a way through a condition
abbrev pub height_limit : ℕ
height_limit = 1024

pub record RuleHasForms (r : RuleTree) : Type 0 where
  pub named : IsWordName r.name
  pub tagged : Each IsWordName r.tags
  pub described : Each MetaHasForms r.meta
  pub listed : Each StringHasForms r.strings
  pub condition : HasForms r.condition
  pub low : height r.condition ≤ height_limit

abbrev pub DeclarationHasForms : Declaration → Type 0
DeclarationHasForms (declaration.Import name file line) = Unit {0}
DeclarationHasForms (declaration.Rule r) = RuleHasForms r

-- each declaration has its forms
abbrev pub HaveForms : List Declaration → Type 0
HaveForms ds = Each DeclarationHasForms ds
