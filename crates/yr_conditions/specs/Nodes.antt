-- The checked condition that a condition stands for: each name is its number. There is none where a name has no number or a path leads to no value.
use Rattle.std.specs.Prelude.{ℕ, ◌+◌, List, [], ◌∷◌, length, Option, Some, None, Result, Ok, Err, if◌then◌else◌}
use Rattle.std.specs.Option.{option_map}
use Rattle.std.specs.List.{range_with_len}
use Rattle.yr_base.specs.declared.value.Kind.{Kind}
use Rattle.yr_pattern.specs.Tree as pattern
use Rattle.yr_syntax.specs.Condition as tree
use Rattle.yr_syntax.specs.Condition.{Condition, Links, Steps, Items, Where, Asked, Domain, SetTree, ItemTree, RegexTree}
use Rattle.yr_rules.specs.declared.members.StringRef.{StringRef}
use Rattle.yr_rules.specs.declared.members.StringRef.TheVariants as ref
use Rattle.yr_rules.specs.NodeTree.{NodeTree, NodeLinks, NodeItems, NodeWhere, NodeAsked, NodeDomain, NodeSet, Number, Text, Flag, FileSize, External, RuleTruth, Var, Field, FieldAt, Call, Found, Count, CountIn, Offset, OffsetAt, Length, LengthAt, Read, Prefix, Chain, Matches, Of, ForOf, ForIn, no_link, link, no_item, item, Anywhere, At, Within, All, Any, Nil, AtLeast, Percent, OverRange, OverList, OverEntries, Strings, Rules}
use Rattle.yr_name_tables.specs.Names.{Name, place_of, is_meant, numbers_meant}
use Rattle.yr_conditions.specs.Readers.{Readers, Expression, RegexRefusal, expression_of}
use Rattle.yr_conditions.specs.Meanings as meaning
use Rattle.yr_conditions.specs.Meanings.{Around, EarlierRule, Scope, Meaning, Index, meaning_of, path_meaning, then_name, then_index, then_call, count_of, opened, current_of}

-- what is made of two parts, where both are there
abbrev pub of_two : {A B C : Type 0} → (A → B → C) → Option A → Option B → Option C
of_two f None b = None
of_two f (Some a) b = option_map (f a) b

-- what is made of three parts, where all are there
abbrev pub of_three : {A B C D : Type 0} → (A → B → C → D) → Option A → Option B → Option C → Option D
of_three f None b c = None
of_three f (Some a) b c = of_two (f a) b c

-- the numbers of the earlier rules that the items mean
abbrev pub rules_meant : List ItemTree → List EarlierRule → List ℕ
rules_meant items [] = []
rules_meant items (r ∷ rs) = if is_meant items r.name then r.number ∷ rules_meant items rs else rules_meant items rs

-- a set has each member once, in the order of declaration
abbrev pub set_node : Around → SetTree → NodeSet
set_node around tree.Them = Strings (range_with_len around.first_string (length around.strings))
set_node around (tree.Strings items) = Strings (numbers_meant items around.first_string around.strings)
set_node around (tree.Rules items) = Rules (rules_meant items around.rules)

-- a string by its name, or the one at which the innermost loop over members stands
abbrev pub string_ref : Around → Name → List Scope → Option StringRef
string_ref around [] scopes = option_map ref.Current (current_of scopes)
string_ref around (b ∷ bs) scopes = option_map (λ k. ref.Known (around.first_string + k)) (place_of (b ∷ bs) around.strings)

-- the pattern of an expression
abbrev pub regex_node : Result Expression RegexRefusal → Option pattern.Tree
regex_node (Ok e) = Some e.pattern
regex_node (Err refusal) = None

-- a field of an entry takes the index that is written last
abbrev pub written_field : ℕ → Kind → List (Option NodeTree) → Option NodeTree
written_field id kind [] = None
written_field id kind (index ∷ rest) = option_map (FieldAt id kind) index

-- a field with no index, with the entry of a loop, or with the written index
abbrev pub field_node : ℕ → Kind → Index → List (Option NodeTree) → Option NodeTree
field_node id kind meaning.NoIndex written = Some (Field id kind)
field_node id kind (meaning.OfLoop k) written = Some (FieldAt id kind (Var k))
field_node id kind meaning.Written written = written_field id kind written

-- a call takes its two arguments
abbrev pub call_node : ℕ → Kind → List (Option NodeTree) → Option NodeTree
call_node id kind (from ∷ size ∷ []) = of_two (Call id kind) from size
call_node id kind other = None

-- the value that a path leads to, with the index or the arguments that are written last
abbrev pub value_node : Meaning → List (Option NodeTree) → Option NodeTree
value_node (meaning.Constant n) written = Some (Number n)
value_node (meaning.Field id kind index) written = field_node id kind index written
value_node (meaning.Result id kind) written = call_node id kind written
value_node (meaning.Variable k) written = Some (Var k)
value_node (meaning.External k) written = Some (External k)
value_node (meaning.RuleTruth k) written = Some (RuleTruth k)
value_node other written = None

-- a loop over an array goes over its entries
abbrev pub entries_node : Meaning → Option NodeDomain
entries_node (meaning.Array m path count) = Some (OverEntries count)
entries_node other = None

-- conditions that are all there, as a list
abbrev pub items_node : List (Option NodeTree) → Option NodeItems
items_node [] = Some no_item
items_node (n ∷ ns) = of_two item n (items_node ns)

module _ (readers : Readers) (around : Around) where
  abbrev mutual
    -- where these loops are open, the innermost first
    pub node_of : Condition → List Scope → Option NodeTree
    node_of (tree.Number n) scopes = Some (Number n)
    node_of (tree.Text t) scopes = Some (Text t)
    node_of (tree.Flag b) scopes = Some (Flag b)
    node_of tree.FileSize scopes = Some FileSize
    node_of (tree.Path steps) scopes = path_node steps scopes
    node_of (tree.Found name place) scopes = of_two Found (string_ref around name scopes) (place_node place scopes)
    node_of (tree.Count name) scopes = option_map Count (string_ref around name scopes)
    node_of (tree.CountIn name low high) scopes = of_three CountIn (string_ref around name scopes) (node_of low scopes) (node_of high scopes)
    node_of (tree.Offset name) scopes = option_map Offset (string_ref around name scopes)
    node_of (tree.OffsetAt name index) scopes = of_two OffsetAt (string_ref around name scopes) (node_of index scopes)
    node_of (tree.Length name) scopes = option_map Length (string_ref around name scopes)
    node_of (tree.LengthAt name index) scopes = of_two LengthAt (string_ref around name scopes) (node_of index scopes)
    node_of (tree.Read reader at) scopes = option_map (Read reader) (node_of at scopes)
    node_of (tree.Prefix op inner) scopes = option_map (Prefix op) (node_of inner scopes)
    node_of (tree.Chain first rest) scopes = of_two Chain (node_of first scopes) (links_node rest scopes)
    node_of (tree.Matches text regex) scopes = of_two Matches (node_of text scopes) (regex_node (expression_of readers regex))
    node_of (tree.Of asked set place) scopes =
        of_two (λ q p. Of q (set_node around set) p) (asked_node asked scopes) (place_node place scopes)
    node_of (tree.ForOf asked set body) scopes =
        of_two (λ q b. ForOf q (set_node around set) b) (asked_node asked scopes) (node_of body (meaning.Members ∷ scopes))
    node_of (tree.ForIn asked name domain body) scopes =
        of_three (λ q d b. ForIn q name d b) (asked_node asked scopes) (domain_node domain scopes)
        (node_of body (opened around name domain scopes ∷ scopes))

    pub links_node : Links → List Scope → Option NodeLinks
    links_node tree.no_link scopes = Some no_link
    links_node (tree.link op operand rest) scopes = of_two (link op) (node_of operand scopes) (links_node rest scopes)

    pub path_node : Steps → List Scope → Option NodeTree
    path_node (tree.name_step w rest) scopes = steps_node rest (meaning_of around w scopes) [] scopes
    path_node tree.no_step scopes = None
    path_node (tree.index_step index rest) scopes = None
    path_node (tree.call_step arguments rest) scopes = None

    -- behind a path that means this, with the index or the arguments that are written last
    pub steps_node : Steps → Meaning → List (Option NodeTree) → List Scope → Option NodeTree
    steps_node tree.no_step m written scopes = value_node m written
    steps_node (tree.name_step w rest) m written scopes = steps_node rest (then_name m w) written scopes
    steps_node (tree.index_step index rest) m written scopes = steps_node rest (then_index m) (node_of index scopes ∷ []) scopes
    steps_node (tree.call_step arguments rest) m written scopes = steps_node rest (then_call m (count_of arguments)) (each_node arguments scopes) scopes

    pub each_node : Items → List Scope → List (Option NodeTree)
    each_node tree.no_item scopes = []
    each_node (tree.item c rest) scopes = node_of c scopes ∷ each_node rest scopes

    pub place_node : Where → List Scope → Option NodeWhere
    place_node tree.Anywhere scopes = Some Anywhere
    place_node (tree.At at) scopes = option_map At (node_of at scopes)
    place_node (tree.Within low high) scopes = of_two Within (node_of low scopes) (node_of high scopes)

    pub asked_node : Asked → List Scope → Option NodeAsked
    asked_node tree.All scopes = Some All
    asked_node tree.Any scopes = Some Any
    asked_node tree.Nil scopes = Some Nil
    asked_node (tree.AtLeast c) scopes = option_map AtLeast (node_of c scopes)
    asked_node (tree.Percent c) scopes = option_map Percent (node_of c scopes)

    pub domain_node : Domain → List Scope → Option NodeDomain
    domain_node (tree.OverRange low high) scopes = of_two OverRange (node_of low scopes) (node_of high scopes)
    domain_node (tree.OverList items) scopes = option_map OverList (items_node (each_node items scopes))
    domain_node (tree.OverPath steps) scopes = entries_node (path_meaning around steps scopes)
