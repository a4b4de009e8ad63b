-- What the code makes of a condition: the checked condition itself, or one of its shape, which has the same kinds.
use Rattle.std.proofs.Common.{◌≡◌, ℕ, Bool, true, false, List, [], ◌∷◌, map, refl, ap, ◌∙◌, Some, None, Option}
use Rattle.std.specs.Option.{option_map, option_or, option_and_then}
use Rattle.yr_base.specs.declared.value.Kind.{Kind}
use Rattle.yr_base.specs.declared.value.Kind.TheVariants as kind
use Rattle.yr_syntax.specs.Condition as tree
use Rattle.yr_syntax.specs.Condition.{Condition, Links, Steps, Items, Where, Asked, Domain}
use Rattle.yr_rules.specs.Kinds.{kind_of, links_kind, place_kind, asked_kind, loop_asked_kind, domain_kind, items_kind, external_kind, own_index, place_fits, loop_fits, of_number, of_numbers, of_text, of_value, both, where_true, prefix_kind, infix_kind}
use Rattle.yr_rules.specs.Loops as loop
use Rattle.yr_rules.specs.Loops.{Loop, loop_over}
use Rattle.yr_rules.specs.NodeTree.{NodeTree, NodeLinks, NodeItems, NodeWhere, NodeAsked, NodeDomain, NodeSet, Number, Text, Flag, FileSize, External, RuleTruth, Var, Field, FieldAt, Call, Found, Count, CountIn, Offset, OffsetAt, Length, LengthAt, Read, Prefix, Chain, Matches, Of, ForOf, ForIn, no_link, link, no_item, item, Anywhere, At, Within, All, Any, Nil, AtLeast, Percent, OverRange, OverList, OverEntries, Strings, Rules}
use Rattle.yr_rules.specs.Rules.{PlainExternal}
use Rattle.yr_conditions.specs.Meanings as meaning
use Rattle.yr_conditions.specs.Meanings.{Around, Scope, Meaning, Index, NoIndex, OfLoop, Written, meaning_of, path_meaning, then_name, then_index, then_call, count_of, opened}
use Rattle.yr_conditions.specs.Readers.{Readers, expression_of}
use Rattle.yr_conditions.specs.Nodes.{of_two, of_three, string_ref, set_node, regex_node, field_node, written_field, call_node, value_node, entries_node, items_node, node_of, links_node, path_node, steps_node, each_node, place_node, asked_node, domain_node}
use Rattle.yr_conditions.specs.Shapes.{plain_ref, plain_set, constant_of, value_shape, shape_of, links_shape, path_shape, steps_shape, each_shape, place_shape, asked_shape, domain_shape}

-- ---- where numbers are wanted

value-exact : (externals : List PlainExternal) (m : Meaning) (written : List (Option NodeTree)) → value_shape true externals m written ≡ value_node m written
value-exact externals meaning.Unknown written = refl
value-exact externals meaning.Wrong written = refl
value-exact externals (meaning.Module m) written = refl
value-exact externals (meaning.Array m path count) written = refl
value-exact externals (meaning.Entry m path i) written = refl
value-exact externals (meaning.Function id k) written = refl
value-exact externals (meaning.Constant n) written = refl
value-exact externals (meaning.Field id k i) written = refl
value-exact externals (meaning.Result id k) written = refl
value-exact externals (meaning.Variable k) written = refl
value-exact externals (meaning.External k) written = refl
value-exact externals (meaning.RuleTruth k) written = refl

two-same : {A B C : Type 0} (f : A → B → C) (a a' : Option A) (b b' : Option B) → a ≡ a' → b ≡ b' → of_two f a b ≡ of_two f a' b'
two-same f a a' b b' d e = ap (λ x. of_two f x b) d ∙ ap (of_two f a') e

three-same : {A B C D : Type 0} (f : A → B → C → D) (a a' : Option A) (b b' : Option B) (c c' : Option C) → a ≡ a' → b ≡ b' → c ≡ c' → of_three f a b c ≡ of_three f a' b' c'
three-same f a a' b b' c c' d e g = ap (λ x. of_three f x b c) d ∙ ap (λ y. of_three f a' y c) e ∙ ap (of_three f a' b') g

module _ (readers : Readers) (around : Around) where
  mutual
    pub shape-exact : (c : Condition) (scopes : List Scope) → shape_of true readers around c scopes ≡ node_of readers around c scopes
    shape-exact (tree.Number n) scopes = refl
    shape-exact (tree.Text t) scopes = refl
    shape-exact (tree.Flag b) scopes = refl
    shape-exact tree.FileSize scopes = refl
    shape-exact (tree.Path steps) scopes = path-exact steps scopes
    shape-exact (tree.Found name place) scopes = ap (of_two Found (string_ref around name scopes)) (place-exact place scopes)
    shape-exact (tree.Count name) scopes = refl
    shape-exact (tree.CountIn name low high) scopes = three-same CountIn _ _ _ _ _ _ refl (shape-exact low scopes) (shape-exact high scopes)
    shape-exact (tree.Offset name) scopes = refl
    shape-exact (tree.OffsetAt name index) scopes = ap (of_two OffsetAt (string_ref around name scopes)) (shape-exact index scopes)
    shape-exact (tree.Length name) scopes = refl
    shape-exact (tree.LengthAt name index) scopes = ap (of_two LengthAt (string_ref around name scopes)) (shape-exact index scopes)
    shape-exact (tree.Read reader at) scopes = ap (option_map (Read reader)) (shape-exact at scopes)
    shape-exact (tree.Prefix op inner) scopes = ap (option_map (Prefix op)) (shape-exact inner scopes)
    shape-exact (tree.Chain first rest) scopes = two-same Chain _ _ _ _ (shape-exact first scopes) (links-exact rest scopes)
    shape-exact (tree.Matches text regex) scopes = two-same Matches _ _ _ _ (shape-exact text scopes) refl
    shape-exact (tree.Of asked set place) scopes = two-same (λ q p. Of q (set_node around set) p) _ _ _ _ (asked-exact asked scopes) (place-exact place scopes)
    shape-exact (tree.ForOf asked set body) scopes = two-same (λ q b. ForOf q (set_node around set) b) _ _ _ _ (asked-exact asked scopes) (shape-exact body (meaning.Members ∷ scopes))
    shape-exact (tree.ForIn asked name domain body) scopes =
        three-same (λ q d b. ForIn q name d b) _ _ _ _ _ _ (asked-exact asked scopes) (domain-exact domain scopes) (shape-exact body (opened around name domain scopes ∷ scopes))

    links-exact : (ls : Links) (scopes : List Scope) → links_shape true readers around ls scopes ≡ links_node readers around ls scopes
    links-exact tree.no_link scopes = refl
    links-exact (tree.link op operand rest) scopes = two-same (link op) _ _ _ _ (shape-exact operand scopes) (links-exact rest scopes)

    path-exact : (s : Steps) (scopes : List Scope) → path_shape true readers around s scopes ≡ path_node readers around s scopes
    path-exact (tree.name_step w rest) scopes = steps-exact rest (meaning_of around w scopes) [] scopes
    path-exact tree.no_step scopes = refl
    path-exact (tree.index_step index rest) scopes = refl
    path-exact (tree.call_step arguments rest) scopes = refl

    steps-exact : (s : Steps) (m : Meaning) (written : List (Option NodeTree)) (scopes : List Scope) → steps_shape true readers around s m written scopes ≡ steps_node readers around s m written scopes
    steps-exact tree.no_step m written scopes = value-exact around.externals m written
    steps-exact (tree.name_step w rest) m written scopes = steps-exact rest (then_name m w) written scopes
    steps-exact (tree.index_step index rest) m written scopes =
        ap (λ n. steps_shape true readers around rest (then_index m) (n ∷ []) scopes) (shape-exact index scopes) ∙ steps-exact rest (then_index m) (node_of readers around index scopes ∷ []) scopes
    steps-exact (tree.call_step arguments rest) m written scopes =
        ap (λ ns. steps_shape true readers around rest (then_call m (count_of arguments)) ns scopes) (each-exact arguments scopes) ∙ steps-exact rest (then_call m (count_of arguments)) (each_node readers around arguments scopes) scopes

    each-exact : (is : Items) (scopes : List Scope) → each_shape true readers around is scopes ≡ each_node readers around is scopes
    each-exact tree.no_item scopes = refl
    each-exact (tree.item c rest) scopes = ap (λ n. n ∷ each_shape true readers around rest scopes) (shape-exact c scopes) ∙ ap (λ ns. node_of readers around c scopes ∷ ns) (each-exact rest scopes)

    place-exact : (w : Where) (scopes : List Scope) → place_shape true readers around w scopes ≡ place_node readers around w scopes
    place-exact tree.Anywhere scopes = refl
    place-exact (tree.At at) scopes = ap (option_map At) (shape-exact at scopes)
    place-exact (tree.Within low high) scopes = two-same Within _ _ _ _ (shape-exact low scopes) (shape-exact high scopes)

    asked-exact : (a : Asked) (scopes : List Scope) → asked_shape true readers around a scopes ≡ asked_node readers around a scopes
    asked-exact tree.All scopes = refl
    asked-exact tree.Any scopes = refl
    asked-exact tree.Nil scopes = refl
    asked-exact (tree.AtLeast c) scopes = ap (option_map AtLeast) (shape-exact c scopes)
    asked-exact (tree.Percent c) scopes = ap (option_map Percent) (shape-exact c scopes)

    domain-exact : (d : Domain) (scopes : List Scope) → domain_shape true readers around d scopes ≡ domain_node readers around d scopes
    domain-exact (tree.OverRange low high) scopes = two-same OverRange _ _ _ _ (shape-exact low scopes) (shape-exact high scopes)
    domain-exact (tree.OverList items) scopes = ap (λ ns. option_map OverList (items_node ns)) (each-exact items scopes)
    domain-exact (tree.OverPath steps) scopes = refl

-- ---- where they are not

module _ (externals : List PlainExternal) where
  abbrev mutual
    -- a condition of the same shape
    plain : NodeTree → NodeTree
    plain (Number n) = Number n
    plain (Text t) = Text t
    plain (Flag b) = Flag b
    plain FileSize = FileSize
    plain (External k) = constant_of k (external_kind externals k)
    plain (RuleTruth k) = RuleTruth k
    plain (Var k) = Var k
    plain (Field id k) = Field id k
    plain (FieldAt id k index) = FieldAt id k (plain index)
    plain (Call id k from size) = Call id k (plain from) (plain size)
    plain (Found string place) = Found (plain_ref string) (plain_where place)
    plain (Count string) = Count (plain_ref string)
    plain (CountIn string low high) = CountIn (plain_ref string) (plain low) (plain high)
    plain (Offset string) = Offset (plain_ref string)
    plain (OffsetAt string index) = OffsetAt (plain_ref string) (plain index)
    plain (Length string) = Length (plain_ref string)
    plain (LengthAt string index) = LengthAt (plain_ref string) (plain index)
    plain (Read reader at) = Read reader (plain at)
    plain (Prefix op inner) = Prefix op (plain inner)
    plain (Chain first rest) = Chain (plain first) (plain_links rest)
    plain (Matches text regex) = Matches (plain text) regex
    plain (Of asked set place) = Of (plain_asked asked) (plain_set set) (plain_where place)
    plain (ForOf asked set body) = ForOf (plain_asked asked) (plain_set set) (plain body)
    plain (ForIn asked name domain body) = ForIn (plain_asked asked) name (plain_domain domain) (plain body)

    plain_links : NodeLinks → NodeLinks
    plain_links no_link = no_link
    plain_links (link op operand rest) = link op (plain operand) (plain_links rest)

    plain_items : NodeItems → NodeItems
    plain_items no_item = no_item
    plain_items (item n rest) = item (plain n) (plain_items rest)

    plain_where : NodeWhere → NodeWhere
    plain_where Anywhere = Anywhere
    plain_where (At at) = At (plain at)
    plain_where (Within low high) = Within (plain low) (plain high)

    plain_asked : NodeAsked → NodeAsked
    plain_asked All = All
    plain_asked Any = Any
    plain_asked Nil = Nil
    plain_asked (AtLeast n) = AtLeast (plain n)
    plain_asked (Percent n) = Percent (plain n)

    plain_domain : NodeDomain → NodeDomain
    plain_domain (OverRange low high) = OverRange (plain low) (plain high)
    plain_domain (OverList items) = OverList (plain_items items)
    plain_domain (OverEntries id) = OverEntries id

  -- ---- it has the same kinds

  constant-kind : (k : ℕ) (o : Option Kind) (loops : List Loop) → external_kind externals k ≡ o → kind_of externals (constant_of k o) loops ≡ o
  constant-kind k (Some kind.Number) loops e = refl
  constant-kind k (Some kind.Flag) loops e = refl
  constant-kind k (Some kind.Text) loops e = refl
  constant-kind k None loops e = e

  constant-index : (k : ℕ) (o : Option Kind) (loops : List Loop) → own_index (constant_of k o) loops ≡ None
  constant-index k (Some kind.Number) loops = refl
  constant-index k (Some kind.Flag) loops = refl
  constant-index k (Some kind.Text) loops = refl
  constant-index k None loops = refl

  plain-index : (n : NodeTree) (loops : List Loop) → own_index (plain n) loops ≡ own_index n loops
  plain-index (Var k) loops = refl
  plain-index (External k) loops = constant-index k (external_kind externals k) loops
  plain-index (Number n) loops = refl
  plain-index (Text t) loops = refl
  plain-index (Flag b) loops = refl
  plain-index FileSize loops = refl
  plain-index (RuleTruth k) loops = refl
  plain-index (Field id k) loops = refl
  plain-index (FieldAt id k index) loops = refl
  plain-index (Call id k from size) loops = refl
  plain-index (Found string place) loops = refl
  plain-index (Count string) loops = refl
  plain-index (CountIn string low high) loops = refl
  plain-index (Offset string) loops = refl
  plain-index (OffsetAt string index) loops = refl
  plain-index (Length string) loops = refl
  plain-index (LengthAt string index) loops = refl
  plain-index (Read reader at) loops = refl
  plain-index (Prefix op inner) loops = refl
  plain-index (Chain first rest) loops = refl
  plain-index (Matches text regex) loops = refl
  plain-index (Of asked set place) loops = refl
  plain-index (ForOf asked set body) loops = refl
  plain-index (ForIn asked name domain body) loops = refl

  plain-place : (set : NodeSet) (place : NodeWhere) → place_fits (plain_set set) (plain_where place) ≡ place_fits set place
  plain-place (Strings numbers) place = refl
  plain-place (Rules numbers) Anywhere = refl
  plain-place (Rules numbers) (At at) = refl
  plain-place (Rules numbers) (Within low high) = refl

  plain-loop : (set : NodeSet) → loop_fits (plain_set set) ≡ loop_fits set
  plain-loop (Strings numbers) = refl
  plain-loop (Rules numbers) = refl

  plain-over : (d : NodeDomain) → loop_over (plain_domain d) ≡ loop_over d
  plain-over (OverRange low high) = refl
  plain-over (OverList items) = refl
  plain-over (OverEntries id) = refl

  numbers-same : (a b c d : Option Kind) (k : Kind) → a ≡ c → b ≡ d → of_numbers a b k ≡ of_numbers c d k
  numbers-same a b c d k e f = ap (λ x. of_numbers x b k) e ∙ ap (λ y. of_numbers c y k) f

  both-same : (a b c d : Option Kind) → a ≡ c → b ≡ d → both a b ≡ both c d
  both-same a b c d e f = ap (λ x. both x b) e ∙ ap (both c) f

  true-same : (a b : Bool) (c d : Option Kind) → a ≡ b → c ≡ d → where_true a c ≡ where_true b d
  true-same a b c d e f = ap (λ x. where_true x c) e ∙ ap (where_true b) f

  mutual
    plain-kind : (n : NodeTree) (loops : List Loop) → kind_of externals (plain n) loops ≡ kind_of externals n loops
    plain-kind (Number n) loops = refl
    plain-kind (Text t) loops = refl
    plain-kind (Flag b) loops = refl
    plain-kind FileSize loops = refl
    plain-kind (External k) loops = constant-kind k (external_kind externals k) loops refl
    plain-kind (RuleTruth k) loops = refl
    plain-kind (Var k) loops = refl
    plain-kind (Field id k) loops = refl
    plain-kind (FieldAt id k index) loops =
        ap (λ x. of_number (option_or x (kind_of externals (plain index) loops)) k) (plain-index index loops)
        ∙ ap (λ x. of_number (option_or (own_index index loops) x) k) (plain-kind index loops)
    plain-kind (Call id k from size) loops = numbers-same _ _ _ _ k (plain-kind from loops) (plain-kind size loops)
    plain-kind (Found string place) loops = ap (λ x. of_number x kind.Flag) (plain-where place loops)
    plain-kind (Count string) loops = refl
    plain-kind (CountIn string low high) loops = numbers-same _ _ _ _ kind.Number (plain-kind low loops) (plain-kind high loops)
    plain-kind (Offset string) loops = refl
    plain-kind (OffsetAt string index) loops = ap (λ x. of_number x kind.Number) (plain-kind index loops)
    plain-kind (Length string) loops = refl
    plain-kind (LengthAt string index) loops = ap (λ x. of_number x kind.Number) (plain-kind index loops)
    plain-kind (Read reader at) loops = ap (λ x. of_number x kind.Number) (plain-kind at loops)
    plain-kind (Prefix op inner) loops = ap (prefix_kind op) (plain-kind inner loops)
    plain-kind (Chain first rest) loops = ap (λ x. links_kind externals x (plain_links rest) loops) (plain-kind first loops) ∙ plain-links (kind_of externals first loops) rest loops
    plain-kind (Matches text regex) loops = ap (λ x. of_text x kind.Flag) (plain-kind text loops)
    plain-kind (Of asked set place) loops =
        true-same _ _ _ _ (plain-place set place) (numbers-same _ _ _ _ kind.Flag (plain-asked asked loops) (plain-where place loops))
    plain-kind (ForOf asked set body) loops =
        true-same _ _ _ _ (plain-loop set) (both-same _ _ _ _ (plain-loop-asked asked loops) (ap of_value (plain-kind body (loop.Members ∷ loops))))
    plain-kind (ForIn asked name domain body) loops =
        both-same _ _ _ _ (plain-loop-asked asked loops)
        (both-same _ _ _ _ (plain-domain domain loops)
        (ap (λ l. of_value (kind_of externals (plain body) (l ∷ loops))) (plain-over domain) ∙ ap of_value (plain-kind body (loop_over domain ∷ loops))))

    plain-links : (before : Option Kind) (ls : NodeLinks) (loops : List Loop) → links_kind externals before (plain_links ls) loops ≡ links_kind externals before ls loops
    plain-links before no_link loops = refl
    plain-links before (link op operand rest) loops =
        ap (λ x. links_kind externals (infix_kind op before x) (plain_links rest) loops) (plain-kind operand loops)
        ∙ plain-links (infix_kind op before (kind_of externals operand loops)) rest loops

    plain-where : (w : NodeWhere) (loops : List Loop) → place_kind externals (plain_where w) loops ≡ place_kind externals w loops
    plain-where Anywhere loops = refl
    plain-where (At at) loops = ap (λ x. of_number x kind.Number) (plain-kind at loops)
    plain-where (Within low high) loops = numbers-same _ _ _ _ kind.Number (plain-kind low loops) (plain-kind high loops)

    plain-asked : (a : NodeAsked) (loops : List Loop) → asked_kind externals (plain_asked a) loops ≡ asked_kind externals a loops
    plain-asked All loops = refl
    plain-asked Any loops = refl
    plain-asked Nil loops = refl
    plain-asked (AtLeast n) loops = ap (λ x. of_number x kind.Number) (plain-kind n loops)
    plain-asked (Percent n) loops = ap (λ x. of_number x kind.Number) (plain-kind n loops)

    plain-loop-asked : (a : NodeAsked) (loops : List Loop) → loop_asked_kind externals (plain_asked a) loops ≡ loop_asked_kind externals a loops
    plain-loop-asked All loops = refl
    plain-loop-asked Any loops = refl
    plain-loop-asked Nil loops = refl
    plain-loop-asked (AtLeast n) loops = ap (λ x. of_number x kind.Number) (plain-kind n loops)
    plain-loop-asked (Percent n) loops = refl

    plain-domain : (d : NodeDomain) (loops : List Loop) → domain_kind externals (plain_domain d) loops ≡ domain_kind externals d loops
    plain-domain (OverRange low high) loops = numbers-same _ _ _ _ kind.Number (plain-kind low loops) (plain-kind high loops)
    plain-domain (OverList no_item) loops = refl
    plain-domain (OverList (item first rest)) loops =
        both-same _ _ _ _ (ap (λ x. of_number x kind.Number) (plain-kind first loops)) (plain-items rest loops)
    plain-domain (OverEntries id) loops = refl

    plain-items : (is : NodeItems) (loops : List Loop) → items_kind externals (plain_items is) loops ≡ items_kind externals is loops
    plain-items no_item loops = refl
    plain-items (item first rest) loops =
        both-same _ _ _ _ (ap (λ x. of_number x kind.Number) (plain-kind first loops)) (plain-items rest loops)

-- ---- it is what is made

one-map : {A B C D : Type 0} (f : B → D) (g : A → C) (p : A → B) (r : C → D) (a : Option A) (a' : Option B) → ((x : A) → f (p x) ≡ r (g x))
    → a' ≡ option_map p a → option_map f a' ≡ option_map r (option_map g a)
one-map f g p r None a' h d = ap (option_map f) d
one-map f g p r (Some x) a' h d = ap (option_map f) d ∙ ap Some (h x)

two-map : {A B C A' B' C' : Type 0} (f : A' → B' → C') (g : A → B → C) (p : A → A') (q : B → B') (r : C → C') (a : Option A) (a' : Option A') (b : Option B) (b' : Option B')
    → ((x : A) (y : B) → f (p x) (q y) ≡ r (g x y)) → a' ≡ option_map p a → b' ≡ option_map q b → of_two f a' b' ≡ option_map r (of_two g a b)
two-map f g p q r None a' b b' h d e = ap (λ x. of_two f x b') d
two-map f g p q r (Some x) a' None b' h d e = ap (λ z. of_two f z b') d ∙ ap (option_map (f (p x))) e
two-map f g p q r (Some x) a' (Some y) b' h d e = ap (λ z. of_two f z b') d ∙ ap (option_map (f (p x))) e ∙ ap Some (h x y)

three-map : {A B C D A' B' C' D' : Type 0} (f : A' → B' → C' → D') (g : A → B → C → D) (p : A → A') (q : B → B') (s : C → C') (r : D → D')
    (a : Option A) (a' : Option A') (b : Option B) (b' : Option B') (c : Option C) (c' : Option C')
    → ((x : A) (y : B) (z : C) → f (p x) (q y) (s z) ≡ r (g x y z)) → a' ≡ option_map p a → b' ≡ option_map q b → c' ≡ option_map s c
    → of_three f a' b' c' ≡ option_map r (of_three g a b c)
three-map f g p q s r None a' b b' c c' h d e i = ap (λ x. of_three f x b' c') d
three-map f g p q s r (Some x) a' b b' c c' h d e i = ap (λ z. of_three f z b' c') d ∙ two-map (f (p x)) (g x) q s r b b' c c' (h x) e i

module _ (readers : Readers) (around : Around) where
  abbrev like : NodeTree → NodeTree
  like = plain around.externals

  same-map : {A : Type 0} (o : Option A) → o ≡ option_map (λ x. x) o
  same-map None = refl
  same-map (Some x) = refl

  written-plain : (id : ℕ) (k : Kind) (written : List (Option NodeTree))
      → written_field id k (map (option_map like) written) ≡ option_map like (written_field id k written)
  written-plain id k [] = refl
  written-plain id k (index ∷ rest) = one-map (FieldAt id k) (FieldAt id k) like like index (option_map like index) (λ x. refl) refl

  field-plain : (id : ℕ) (k : Kind) (i : Index) (written : List (Option NodeTree))
      → field_node id k i (map (option_map like) written) ≡ option_map like (field_node id k i written)
  field-plain id k NoIndex written = refl
  field-plain id k (OfLoop n) written = refl
  field-plain id k Written written = written-plain id k written

  call-plain : (id : ℕ) (k : Kind) (written : List (Option NodeTree)) → call_node id k (map (option_map like) written) ≡ option_map like (call_node id k written)
  call-plain id k [] = refl
  call-plain id k (from ∷ []) = refl
  call-plain id k (from ∷ size ∷ []) = two-map (Call id k) (Call id k) like like like from (option_map like from) size (option_map like size) (λ x y. refl) refl refl
  call-plain id k (from ∷ size ∷ more ∷ rest) = refl

  value-plain : (m : Meaning) (written written' : List (Option NodeTree)) → written' ≡ map (option_map like) written
      → value_shape false around.externals m written' ≡ option_map like (value_node m written)
  value-plain meaning.Unknown written written' e = refl
  value-plain meaning.Wrong written written' e = refl
  value-plain (meaning.Module m) written written' e = refl
  value-plain (meaning.Array m path count) written written' e = refl
  value-plain (meaning.Entry m path i) written written' e = refl
  value-plain (meaning.Function id k) written written' e = refl
  value-plain (meaning.Constant n) written written' e = refl
  value-plain (meaning.Field id k i) written written' e = ap (field_node id k i) e ∙ field-plain id k i written
  value-plain (meaning.Result id k) written written' e = ap (call_node id k) e ∙ call-plain id k written
  value-plain (meaning.Variable k) written written' e = refl
  value-plain (meaning.External k) written written' e = refl
  value-plain (meaning.RuleTruth k) written written' e = refl

  items-plain : (ns : List (Option NodeTree)) → items_node (map (option_map like) ns) ≡ option_map (plain_items around.externals) (items_node ns)
  items-plain [] = refl
  items-plain (n ∷ ns) =
      two-map item item like (plain_items around.externals) (plain_items around.externals) n (option_map like n) (items_node ns) (items_node (map (option_map like) ns)) (λ x y. refl) refl (items-plain ns)

  mutual
    shape-plain : (c : Condition) (scopes : List Scope) → shape_of false readers around c scopes ≡ option_map like (node_of readers around c scopes)
    shape-plain (tree.Number n) scopes = refl
    shape-plain (tree.Text t) scopes = refl
    shape-plain (tree.Flag b) scopes = refl
    shape-plain tree.FileSize scopes = refl
    shape-plain (tree.Path steps) scopes = path-plain steps scopes
    shape-plain (tree.Found name place) scopes = two-map Found Found plain_ref (plain_where around.externals) like _ _ _ _ (λ x y. refl) refl (where-plain place scopes)
    shape-plain (tree.Count name) scopes = one-map Count Count plain_ref like _ _ (λ x. refl) refl
    shape-plain (tree.CountIn name low high) scopes = three-map CountIn CountIn plain_ref like like like _ _ _ _ _ _ (λ x y z. refl) refl (shape-plain low scopes) (shape-plain high scopes)
    shape-plain (tree.Offset name) scopes = one-map Offset Offset plain_ref like _ _ (λ x. refl) refl
    shape-plain (tree.OffsetAt name index) scopes = two-map OffsetAt OffsetAt plain_ref like like _ _ _ _ (λ x y. refl) refl (shape-plain index scopes)
    shape-plain (tree.Length name) scopes = one-map Length Length plain_ref like _ _ (λ x. refl) refl
    shape-plain (tree.LengthAt name index) scopes = two-map LengthAt LengthAt plain_ref like like _ _ _ _ (λ x y. refl) refl (shape-plain index scopes)
    shape-plain (tree.Read reader at) scopes = one-map (Read reader) (Read reader) like like _ _ (λ x. refl) (shape-plain at scopes)
    shape-plain (tree.Prefix op inner) scopes = one-map (Prefix op) (Prefix op) like like _ _ (λ x. refl) (shape-plain inner scopes)
    shape-plain (tree.Chain first rest) scopes = two-map Chain Chain like (plain_links around.externals) like _ _ _ _ (λ x y. refl) (shape-plain first scopes) (links-plain rest scopes)
    shape-plain (tree.Matches text regex) scopes =
        two-map Matches Matches like (λ r. r) like _ _ _ _ (λ x y. refl) (shape-plain text scopes) (same-map (regex_node (expression_of readers regex)))
    shape-plain (tree.Of asked set place) scopes =
        two-map (λ q p. Of q (plain_set (set_node around set)) p) (λ q p. Of q (set_node around set) p) (plain_asked around.externals) (plain_where around.externals) like _ _ _ _
        (λ x y. refl) (asked-plain asked scopes) (where-plain place scopes)
    shape-plain (tree.ForOf asked set body) scopes =
        two-map (λ q b. ForOf q (plain_set (set_node around set)) b) (λ q b. ForOf q (set_node around set) b) (plain_asked around.externals) like like _ _ _ _
        (λ x y. refl) (asked-plain asked scopes) (shape-plain body (meaning.Members ∷ scopes))
    shape-plain (tree.ForIn asked name domain body) scopes =
        three-map (λ q d b. ForIn q name d b) (λ q d b. ForIn q name d b) (plain_asked around.externals) (plain_domain around.externals) like like _ _ _ _ _ _
        (λ x y z. refl) (asked-plain asked scopes) (domain-plain domain scopes) (shape-plain body (opened around name domain scopes ∷ scopes))

    links-plain : (ls : Links) (scopes : List Scope) → links_shape false readers around ls scopes ≡ option_map (plain_links around.externals) (links_node readers around ls scopes)
    links-plain tree.no_link scopes = refl
    links-plain (tree.link op operand rest) scopes =
        two-map (link op) (link op) like (plain_links around.externals) (plain_links around.externals) _ _ _ _ (λ x y. refl) (shape-plain operand scopes) (links-plain rest scopes)

    path-plain : (s : Steps) (scopes : List Scope) → path_shape false readers around s scopes ≡ option_map like (path_node readers around s scopes)
    path-plain (tree.name_step w rest) scopes = steps-plain rest (meaning_of around w scopes) [] [] scopes refl
    path-plain tree.no_step scopes = refl
    path-plain (tree.index_step index rest) scopes = refl
    path-plain (tree.call_step arguments rest) scopes = refl

    steps-plain : (s : Steps) (m : Meaning) (written written' : List (Option NodeTree)) (scopes : List Scope) → written' ≡ map (option_map like) written
        → steps_shape false readers around s m written' scopes ≡ option_map like (steps_node readers around s m written scopes)
    steps-plain tree.no_step m written written' scopes e = value-plain m written written' e
    steps-plain (tree.name_step w rest) m written written' scopes e = steps-plain rest (then_name m w) written written' scopes e
    steps-plain (tree.index_step index rest) m written written' scopes e =
        steps-plain rest (then_index m) (node_of readers around index scopes ∷ []) (shape_of false readers around index scopes ∷ []) scopes (ap (λ n. n ∷ []) (shape-plain index scopes))
    steps-plain (tree.call_step arguments rest) m written written' scopes e =
        steps-plain rest (then_call m (count_of arguments)) (each_node readers around arguments scopes) (each_shape false readers around arguments scopes) scopes (each-plain arguments scopes)

    each-plain : (is : Items) (scopes : List Scope) → each_shape false readers around is scopes ≡ map (option_map like) (each_node readers around is scopes)
    each-plain tree.no_item scopes = refl
    each-plain (tree.item c rest) scopes =
        ap (λ n. n ∷ each_shape false readers around rest scopes) (shape-plain c scopes) ∙ ap (λ ns. option_map like (node_of readers around c scopes) ∷ ns) (each-plain rest scopes)

    where-plain : (w : Where) (scopes : List Scope) → place_shape false readers around w scopes ≡ option_map (plain_where around.externals) (place_node readers around w scopes)
    where-plain tree.Anywhere scopes = refl
    where-plain (tree.At at) scopes = one-map At At like (plain_where around.externals) _ _ (λ x. refl) (shape-plain at scopes)
    where-plain (tree.Within low high) scopes = two-map Within Within like like (plain_where around.externals) _ _ _ _ (λ x y. refl) (shape-plain low scopes) (shape-plain high scopes)

    asked-plain : (a : Asked) (scopes : List Scope) → asked_shape false readers around a scopes ≡ option_map (plain_asked around.externals) (asked_node readers around a scopes)
    asked-plain tree.All scopes = refl
    asked-plain tree.Any scopes = refl
    asked-plain tree.Nil scopes = refl
    asked-plain (tree.AtLeast c) scopes = one-map AtLeast AtLeast like (plain_asked around.externals) _ _ (λ x. refl) (shape-plain c scopes)
    asked-plain (tree.Percent c) scopes = one-map Percent Percent like (plain_asked around.externals) _ _ (λ x. refl) (shape-plain c scopes)

    domain-plain : (d : Domain) (scopes : List Scope) → domain_shape false readers around d scopes ≡ option_map (plain_domain around.externals) (domain_node readers around d scopes)
    domain-plain (tree.OverRange low high) scopes = two-map OverRange OverRange like like (plain_domain around.externals) _ _ _ _ (λ x y. refl) (shape-plain low scopes) (shape-plain high scopes)
    domain-plain (tree.OverList items) scopes =
        one-map OverList OverList (plain_items around.externals) (plain_domain around.externals) _ _ (λ x. refl) (ap items_node (each-plain items scopes) ∙ items-plain (each_node readers around items scopes))
    domain-plain (tree.OverPath steps) scopes = entries-plain (path_meaning around steps scopes)
      where
        entries-plain : (m : Meaning) → entries_node m ≡ option_map (plain_domain around.externals) (entries_node m)
        entries-plain (meaning.Array m path count) = refl
        entries-plain meaning.Unknown = refl
        entries-plain meaning.Wrong = refl
        entries-plain (meaning.Module m) = refl
        entries-plain (meaning.Entry m path i) = refl
        entries-plain (meaning.Function id k) = refl
        entries-plain (meaning.Constant n) = refl
        entries-plain (meaning.Field id k i) = refl
        entries-plain (meaning.Result id k) = refl
        entries-plain (meaning.Variable k) = refl
        entries-plain (meaning.External k) = refl
        entries-plain (meaning.RuleTruth k) = refl

  kind-plain : (o : Option NodeTree) → option_and_then (λ n. kind_of around.externals n []) (option_map like o) ≡ option_and_then (λ n. kind_of around.externals n []) o
  kind-plain None = refl
  kind-plain (Some n) = plain-kind around.externals n []

  -- what is made of a condition has the kind of the checked condition
  pub shape-kind : (exact : Bool) (c : Condition)
      → option_and_then (λ n. kind_of around.externals n []) (shape_of exact readers around c []) ≡ option_and_then (λ n. kind_of around.externals n []) (node_of readers around c [])
  shape-kind true c = ap (option_and_then (λ n. kind_of around.externals n [])) (shape-exact readers around c [])
  shape-kind false c = ap (option_and_then (λ n. kind_of around.externals n [])) (shape-plain c []) ∙ kind-plain (node_of readers around c [])
