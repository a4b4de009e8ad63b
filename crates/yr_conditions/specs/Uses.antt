-- What a condition uses, in the order of its text.
use Rattle.std.specs.Prelude.{ℕ, Bool, List, [], ◌∷◌, ◌++◌, length, map, Option, Some, None}
use Rattle.yr_syntax.specs.Condition.{Condition, Links, Steps, Items, Where, Asked, Domain, SetTree, ItemTree, RegexTree, Number, Text, Flag, FileSize, Path, Found, Count, CountIn, Offset, OffsetAt, Length, LengthAt, Read, Prefix, Chain, Matches, Of, ForOf, ForIn, no_link, link, no_step, name_step, index_step, call_step, no_item, item, Anywhere, At, Within, All, Any, Nil, AtLeast, Percent, OverRange, OverList, OverPath, Them, Strings, Rules}
use Rattle.yr_name_tables.specs.Names.{Name}
use Rattle.yr_conditions.specs.Meanings as meaning
use Rattle.yr_conditions.specs.Meanings.{Around, Scope, Meaning, meaning_of, then_name, then_index, then_call, count_of, opened, current_of}

-- one thing that a condition uses
pub data Use : Type 0 where
  -- a string by its sign and its name, or a sign alone where no loop gives it a string
  String : (sign : ℕ) → Name → Use
  Nameless : (sign : ℕ) → Use
  -- an item of a set of strings, all strings, an item of a set of rules
  Member : Name → (wild : Bool) → Use
  Everything : Use
  Earlier : Name → (wild : Bool) → Use
  -- a word without a meaning, or a field that its module lacks
  Unknown : Name → Use
  -- the expression of a `matches`
  Expression : RegexTree → Use
  -- a loop, with how many stand round it; a loop's list, with how many items it has
  Loop : ℕ → Use
  Listed : ℕ → Use

-- a sign alone means the string at which a loop stands
abbrev pub nameless_uses : ℕ → Option ℕ → List Use
nameless_uses sign None = Nameless sign ∷ []
nameless_uses sign (Some loop) = []

-- a string by its name, or by its sign alone
abbrev pub string_uses : ℕ → Name → List Scope → List Use
string_uses sign [] scopes = nameless_uses sign (current_of scopes)
string_uses sign (b ∷ bs) scopes = String sign (b ∷ bs) ∷ []

-- an item of a set of strings
abbrev pub member_use : ItemTree → Use
member_use i = Member i.name i.wild

-- an item of a set of rules
abbrev pub earlier_use : ItemTree → Use
earlier_use i = Earlier i.name i.wild

-- what a set uses
abbrev pub set_uses : SetTree → List Use
set_uses Them = Everything ∷ []
set_uses (Strings items) = map member_use items
set_uses (Rules items) = map earlier_use items

-- a word, where it has no meaning
abbrev pub word_uses : Name → Meaning → List Use
word_uses w meaning.Unknown = Unknown w ∷ []
word_uses w other = []

module _ (around : Around) where
  abbrev mutual
    -- where these loops are open, the innermost first
    pub uses_of : Condition → List Scope → List Use
    uses_of (Number n) scopes = []
    uses_of (Text t) scopes = []
    uses_of (Flag b) scopes = []
    uses_of FileSize scopes = []
    uses_of (Path steps) scopes = path_uses steps scopes
    uses_of (Found name place) scopes = string_uses 36 name scopes ++ place_uses place scopes
    uses_of (Count name) scopes = string_uses 35 name scopes
    uses_of (CountIn name low high) scopes = string_uses 35 name scopes ++ uses_of low scopes ++ uses_of high scopes
    uses_of (Offset name) scopes = string_uses 64 name scopes
    uses_of (OffsetAt name index) scopes = string_uses 64 name scopes ++ uses_of index scopes
    uses_of (Length name) scopes = string_uses 33 name scopes
    uses_of (LengthAt name index) scopes = string_uses 33 name scopes ++ uses_of index scopes
    uses_of (Read reader at) scopes = uses_of at scopes
    uses_of (Prefix op inner) scopes = uses_of inner scopes
    uses_of (Chain first rest) scopes = uses_of first scopes ++ link_uses rest scopes
    uses_of (Matches text regex) scopes = uses_of text scopes ++ Expression regex ∷ []
    uses_of (Of asked set place) scopes = asked_uses asked scopes ++ set_uses set ++ place_uses place scopes
    uses_of (ForOf asked set body) scopes =
        Loop (length scopes) ∷ (asked_uses asked scopes ++ set_uses set ++ uses_of body (meaning.Members ∷ scopes))
    uses_of (ForIn asked name domain body) scopes =
        Loop (length scopes) ∷ (asked_uses asked scopes ++ domain_uses domain scopes ++ uses_of body (opened around name domain scopes ∷ scopes))

    pub link_uses : Links → List Scope → List Use
    link_uses no_link scopes = []
    link_uses (link op operand rest) scopes = uses_of operand scopes ++ link_uses rest scopes

    pub path_uses : Steps → List Scope → List Use
    path_uses no_step scopes = []
    path_uses (name_step w rest) scopes = word_uses w (meaning_of around w scopes) ++ step_uses rest (meaning_of around w scopes) scopes
    path_uses (index_step index rest) scopes = uses_of index scopes ++ step_uses rest meaning.Wrong scopes
    path_uses (call_step arguments rest) scopes = item_uses arguments scopes ++ step_uses rest meaning.Wrong scopes

    -- behind a path that means this
    pub step_uses : Steps → Meaning → List Scope → List Use
    step_uses no_step m scopes = []
    step_uses (name_step w rest) m scopes = word_uses w (then_name m w) ++ step_uses rest (then_name m w) scopes
    step_uses (index_step index rest) m scopes = uses_of index scopes ++ step_uses rest (then_index m) scopes
    step_uses (call_step arguments rest) m scopes = item_uses arguments scopes ++ step_uses rest (then_call m (count_of arguments)) scopes

    pub item_uses : Items → List Scope → List Use
    item_uses no_item scopes = []
    item_uses (item c rest) scopes = uses_of c scopes ++ item_uses rest scopes

    pub place_uses : Where → List Scope → List Use
    place_uses Anywhere scopes = []
    place_uses (At at) scopes = uses_of at scopes
    place_uses (Within low high) scopes = uses_of low scopes ++ uses_of high scopes

    pub asked_uses : Asked → List Scope → List Use
    asked_uses All scopes = []
    asked_uses Any scopes = []
    asked_uses Nil scopes = []
    asked_uses (AtLeast c) scopes = uses_of c scopes
    asked_uses (Percent c) scopes = uses_of c scopes

    pub domain_uses : Domain → List Scope → List Use
    domain_uses (OverRange low high) scopes = uses_of low scopes ++ uses_of high scopes
    domain_uses (OverList items) scopes = Listed (count_of items) ∷ item_uses items scopes
    domain_uses (OverPath steps) scopes = path_uses steps scopes
