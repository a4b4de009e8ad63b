-- The checked condition that the code makes: the one that a condition stands for, or where numbers are not wanted one of its shape,
-- in which each string has the number 0, each set is empty, and each external is a value of its kind.
use Rattle.std.specs.Prelude.{ℕ, pos, Bool, true, false, List, [], ◌∷◌, Option, Some, None}
use Rattle.std.specs.Option.{option_map}
use Rattle.yr_base.specs.declared.value.Kind.{Kind}
use Rattle.yr_base.specs.declared.value.Kind.TheVariants as kind
use Rattle.yr_rules.specs.Kinds.{external_kind}
use Rattle.yr_rules.specs.Rules.{PlainExternal}
use Rattle.yr_syntax.specs.Condition as tree
use Rattle.yr_syntax.specs.Condition.{Condition, Links, Steps, Items, Where, Asked, Domain}
use Rattle.yr_rules.specs.declared.members.StringRef.{StringRef}
use Rattle.yr_rules.specs.declared.members.StringRef.TheVariants as ref
use Rattle.yr_rules.specs.NodeTree.{NodeTree, NodeLinks, NodeWhere, NodeAsked, NodeDomain, NodeSet, Number, Text, Flag, FileSize, External, Found, Count, CountIn, Offset, OffsetAt, Length, LengthAt, Read, Prefix, Chain, Matches, Of, ForOf, ForIn, no_link, link, Anywhere, At, Within, All, Any, Nil, AtLeast, Percent, OverRange, OverList, Strings, Rules}
use Rattle.yr_conditions.specs.Nodes.{of_two, of_three, string_ref, set_node, regex_node, value_node, entries_node, items_node}
use Rattle.yr_conditions.specs.Readers.{Readers, expression_of}
use Rattle.yr_conditions.specs.Meanings as meaning
use Rattle.yr_conditions.specs.Meanings.{Around, Scope, Meaning, meaning_of, path_meaning, then_name, then_index, then_call, count_of, opened}

-- a string, or with the number 0
abbrev pub plain_ref : StringRef → StringRef
plain_ref (ref.Known k) = ref.Known 0
plain_ref (ref.Current k) = ref.Current k

-- a set, or an empty one of its sort
abbrev pub plain_set : NodeSet → NodeSet
plain_set (Strings numbers) = Strings []
plain_set (Rules numbers) = Rules []

abbrev pub kept_ref : Bool → Option StringRef → Option StringRef
kept_ref true r = r
kept_ref false r = option_map plain_ref r

abbrev pub kept_set : Bool → NodeSet → NodeSet
kept_set true s = s
kept_set false s = plain_set s

-- a value of the kind
abbrev pub constant_of : ℕ → Option Kind → NodeTree
constant_of k (Some kind.Number) = Number (pos 0)
constant_of k (Some kind.Flag) = Flag false
constant_of k (Some kind.Text) = Text []
constant_of k None = External k

-- an external, or a value of its kind
abbrev pub kept_external : Bool → List PlainExternal → ℕ → NodeTree
kept_external true externals k = External k
kept_external false externals k = constant_of k (external_kind externals k)

-- the value that a path leads to
abbrev pub value_shape : Bool → List PlainExternal → Meaning → List (Option NodeTree) → Option NodeTree
value_shape exact externals (meaning.External k) written = Some (kept_external exact externals k)
value_shape exact externals other written = value_node other written

module _ (exact : Bool) (readers : Readers) (around : Around) where
  abbrev mutual
    -- where these loops are open, the innermost first
    pub shape_of : Condition → List Scope → Option NodeTree
    shape_of (tree.Number n) scopes = Some (Number n)
    shape_of (tree.Text t) scopes = Some (Text t)
    shape_of (tree.Flag b) scopes = Some (Flag b)
    shape_of tree.FileSize scopes = Some FileSize
    shape_of (tree.Path steps) scopes = path_shape steps scopes
    shape_of (tree.Found name place) scopes = of_two Found (kept_ref exact (string_ref around name scopes)) (place_shape place scopes)
    shape_of (tree.Count name) scopes = option_map Count (kept_ref exact (string_ref around name scopes))
    shape_of (tree.CountIn name low high) scopes = of_three CountIn (kept_ref exact (string_ref around name scopes)) (shape_of low scopes) (shape_of high scopes)
    shape_of (tree.Offset name) scopes = option_map Offset (kept_ref exact (string_ref around name scopes))
    shape_of (tree.OffsetAt name index) scopes = of_two OffsetAt (kept_ref exact (string_ref around name scopes)) (shape_of index scopes)
    shape_of (tree.Length name) scopes = option_map Length (kept_ref exact (string_ref around name scopes))
    shape_of (tree.LengthAt name index) scopes = of_two LengthAt (kept_ref exact (string_ref around name scopes)) (shape_of index scopes)
    shape_of (tree.Read reader at) scopes = option_map (Read reader) (shape_of at scopes)
    shape_of (tree.Prefix op inner) scopes = option_map (Prefix op) (shape_of inner scopes)
    shape_of (tree.Chain first rest) scopes = of_two Chain (shape_of first scopes) (links_shape rest scopes)
    shape_of (tree.Matches text regex) scopes = of_two Matches (shape_of text scopes) (regex_node (expression_of readers regex))
    shape_of (tree.Of asked set place) scopes =
        of_two (λ q p. Of q (kept_set exact (set_node around set)) p) (asked_shape asked scopes) (place_shape place scopes)
    shape_of (tree.ForOf asked set body) scopes =
        of_two (λ q b. ForOf q (kept_set exact (set_node around set)) b) (asked_shape asked scopes) (shape_of body (meaning.Members ∷ scopes))
    shape_of (tree.ForIn asked name domain body) scopes =
        of_three (λ q d b. ForIn q name d b) (asked_shape asked scopes) (domain_shape domain scopes)
        (shape_of body (opened around name domain scopes ∷ scopes))

    pub links_shape : Links → List Scope → Option NodeLinks
    links_shape tree.no_link scopes = Some no_link
    links_shape (tree.link op operand rest) scopes = of_two (link op) (shape_of operand scopes) (links_shape rest scopes)

    pub path_shape : Steps → List Scope → Option NodeTree
    path_shape (tree.name_step w rest) scopes = steps_shape rest (meaning_of around w scopes) [] scopes
    path_shape tree.no_step scopes = None
    path_shape (tree.index_step index rest) scopes = None
    path_shape (tree.call_step arguments rest) scopes = None

    -- behind a path that means this, with the index or the arguments that are written last
    pub steps_shape : Steps → Meaning → List (Option NodeTree) → List Scope → Option NodeTree
    steps_shape tree.no_step m written scopes = value_shape exact around.externals m written
    steps_shape (tree.name_step w rest) m written scopes = steps_shape rest (then_name m w) written scopes
    steps_shape (tree.index_step index rest) m written scopes = steps_shape rest (then_index m) (shape_of index scopes ∷ []) scopes
    steps_shape (tree.call_step arguments rest) m written scopes = steps_shape rest (then_call m (count_of arguments)) (each_shape arguments scopes) scopes

    pub each_shape : Items → List Scope → List (Option NodeTree)
    each_shape tree.no_item scopes = []
    each_shape (tree.item c rest) scopes = shape_of c scopes ∷ each_shape rest scopes

    pub place_shape : Where → List Scope → Option NodeWhere
    place_shape tree.Anywhere scopes = Some Anywhere
    place_shape (tree.At at) scopes = option_map At (shape_of at scopes)
    place_shape (tree.Within low high) scopes = of_two Within (shape_of low scopes) (shape_of high scopes)

    pub asked_shape : Asked → List Scope → Option NodeAsked
    asked_shape tree.All scopes = Some All
    asked_shape tree.Any scopes = Some Any
    asked_shape tree.Nil scopes = Some Nil
    asked_shape (tree.AtLeast c) scopes = option_map AtLeast (shape_of c scopes)
    asked_shape (tree.Percent c) scopes = option_map Percent (shape_of c scopes)

    pub domain_shape : Domain → List Scope → Option NodeDomain
    domain_shape (tree.OverRange low high) scopes = of_two OverRange (shape_of low scopes) (shape_of high scopes)
    domain_shape (tree.OverList items) scopes = option_map OverList (items_node (each_shape items scopes))
    domain_shape (tree.OverPath steps) scopes = entries_node (path_meaning around steps scopes)
