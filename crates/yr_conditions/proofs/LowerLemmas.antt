-- A checked condition weighs at least what its sets weigh.
use Rattle.std.proofs.Common.{◌≡◌, ℕ, ◌+◌, ◌≤◌, List, ◌∷◌, subst, arith, Some, None, Option}
use Rattle.std.specs.Option.{option_map}
use Rattle.yr_pattern.specs.Sizes.{size_of}
use Rattle.yr_syntax.specs.Condition as tree
use Rattle.yr_syntax.specs.Condition.{Condition, Links, Items, Where, Asked, Domain}
use Rattle.yr_rules.specs.Loops as loop
use Rattle.yr_rules.specs.Loops.{Loop, loop_over}
use Rattle.yr_rules.specs.NodeTree.{NodeTree, NodeLinks, NodeItems, NodeWhere, NodeAsked, NodeDomain, Found, Count, CountIn, Offset, OffsetAt, Length, LengthAt, Read, Prefix, Chain, Matches, Of, ForOf, ForIn, link, item, At, Within, AtLeast, Percent, OverRange, OverList}
use Rattle.yr_rules.specs.Weight.{node_weight, links_weight, items_weight, where_weight, asked_weight, domain_weight, pattern_weight, set_weight}
use Rattle.yr_conditions.specs.Meanings as meaning
use Rattle.yr_conditions.specs.Meanings.{Around, Scope, opened, path_meaning}
use Rattle.yr_conditions.specs.Readers.{Readers, expression_of}
use Rattle.yr_conditions.specs.Nodes.{of_two, of_three, string_ref, set_node, regex_node, entries_node, items_node, node_of, links_node, path_node, each_node, place_node, asked_node, domain_node}
use Rattle.yr_conditions.specs.SetWeights.{set_weights, link_sets, item_sets, where_sets, asked_sets, domain_sets}

-- ---- what holds of parts, holds of what is made of them

abbrev IfThere : {A : Type 0} → (A → Type 0) → Option A → Type 0
IfThere P None = Unit {0}
IfThere P (Some x) = P x

one-there : {A B : Type 0} (f : A → B) (P : A → Type 0) (R : B → Type 0) (a : Option A) → ((x : A) → P x → R (f x)) → IfThere P a → IfThere R (option_map f a)
one-there f P R None h p = tt
one-there f P R (Some x) h p = h x p

two-there : {A B C : Type 0} (f : A → B → C) (P : A → Type 0) (Q : B → Type 0) (R : C → Type 0) (a : Option A) (b : Option B)
    → ((x : A) (y : B) → P x → Q y → R (f x y)) → IfThere P a → IfThere Q b → IfThere R (of_two f a b)
two-there f P Q R None b h p q = tt
two-there f P Q R (Some x) None h p q = tt
two-there f P Q R (Some x) (Some y) h p q = h x y p q

three-there : {A B C D : Type 0} (f : A → B → C → D) (P : A → Type 0) (Q : B → Type 0) (S : C → Type 0) (R : D → Type 0) (a : Option A) (b : Option B) (c : Option C)
    → ((x : A) (y : B) (z : C) → P x → Q y → S z → R (f x y z)) → IfThere P a → IfThere Q b → IfThere S c → IfThere R (of_three f a b c)
three-there f P Q S R None b c h p q s = tt
three-there f P Q S R (Some x) b c h p q s = two-there (f x) Q S R b c (λ y z q s. h x y z p q s) q s

-- nothing is asked of a part
abbrev Any' : {A : Type 0} → A → Type 0
Any' x = Unit {0}

any-there : {A : Type 0} (o : Option A) → IfThere Any' o
any-there None = tt
any-there (Some x) = tt

-- ---- what a part weighs at least, whatever loops are open

abbrev NodeWeighs : ℕ → NodeTree → Type 0
NodeWeighs k n = (loops : List Loop) → k ≤ node_weight n loops

abbrev LinksWeigh : ℕ → NodeLinks → Type 0
LinksWeigh k ls = (loops : List Loop) → k ≤ links_weight ls loops

abbrev ItemsWeigh : ℕ → NodeItems → Type 0
ItemsWeigh k is = (loops : List Loop) → k ≤ items_weight is loops

abbrev WhereWeighs : ℕ → NodeWhere → Type 0
WhereWeighs k w = (loops : List Loop) → k ≤ where_weight w loops

abbrev AskedWeighs : ℕ → NodeAsked → Type 0
AskedWeighs k a = (loops : List Loop) → k ≤ asked_weight a loops

abbrev DomainWeighs : ℕ → NodeDomain → Type 0
DomainWeighs k d = (loops : List Loop) → k ≤ domain_weight d loops

none-weighs : (o : Option NodeTree) → IfThere (NodeWeighs 0) o
none-weighs None = tt
none-weighs (Some n) = λ loops. omega arith

no-entries : (o : Option NodeDomain) → IfThere (DomainWeighs 0) o
no-entries None = tt
no-entries (Some d) = λ loops. omega arith

-- ---- sums

behind : (k n : ℕ) → k ≤ n → k ≤ 16 + n
behind k n h = omega arith

both : (j k m n : ℕ) → j ≤ m → k ≤ n → j + k ≤ m + n
both j k m n h i = omega arith

behind-both : (j k m n : ℕ) → j ≤ m → k ≤ n → j + k ≤ 16 + m + n
behind-both j k m n h i = omega arith

behind-three : (i j k l m n : ℕ) → i ≤ l → j ≤ m → k ≤ n → i + j + k ≤ 16 + l + m + n
behind-three i j k l m n f g h = omega arith

with-set : (i s k l n : ℕ) → i ≤ l → k ≤ n → i + s + k ≤ 16 + l + s + n
with-set i s k l n f h = omega arith

and-pattern : (k n p : ℕ) → k ≤ n → k ≤ 16 + n + p
and-pattern k n p h = omega arith

module _ (readers : Readers) (around : Around) where
  mutual
    node-weighs : (c : Condition) (scopes : List Scope) → IfThere (NodeWeighs (set_weights around c)) (node_of readers around c scopes)
    node-weighs (tree.Number n) scopes = λ loops. omega arith
    node-weighs (tree.Text t) scopes = λ loops. omega arith
    node-weighs (tree.Flag b) scopes = λ loops. omega arith
    node-weighs tree.FileSize scopes = λ loops. omega arith
    node-weighs (tree.Path steps) scopes = none-weighs (path_node readers around steps scopes)
    node-weighs (tree.Found name place) scopes =
        two-there Found Any' (WhereWeighs (where_sets around place)) (NodeWeighs (where_sets around place)) (string_ref around name scopes) (place_node readers around place scopes)
        (λ x y p q loops. behind (where_sets around place) (where_weight y loops) (q loops)) (any-there (string_ref around name scopes)) (where-weighs place scopes)
    node-weighs (tree.Count name) scopes = none-weighs (option_map Count (string_ref around name scopes))
    node-weighs (tree.CountIn name low high) scopes =
        three-there CountIn Any' (NodeWeighs (set_weights around low)) (NodeWeighs (set_weights around high)) (NodeWeighs (set_weights around low + set_weights around high))
        (string_ref around name scopes) (node_of readers around low scopes) (node_of readers around high scopes)
        (λ x y z p q s loops. behind-both (set_weights around low) (set_weights around high) (node_weight y loops) (node_weight z loops) (q loops) (s loops))
        (any-there (string_ref around name scopes)) (node-weighs low scopes) (node-weighs high scopes)
    node-weighs (tree.Offset name) scopes = none-weighs (option_map Offset (string_ref around name scopes))
    node-weighs (tree.OffsetAt name index) scopes =
        two-there OffsetAt Any' (NodeWeighs (set_weights around index)) (NodeWeighs (set_weights around index)) (string_ref around name scopes) (node_of readers around index scopes)
        (λ x y p q loops. behind (set_weights around index) (node_weight y loops) (q loops)) (any-there (string_ref around name scopes)) (node-weighs index scopes)
    node-weighs (tree.Length name) scopes = none-weighs (option_map Length (string_ref around name scopes))
    node-weighs (tree.LengthAt name index) scopes =
        two-there LengthAt Any' (NodeWeighs (set_weights around index)) (NodeWeighs (set_weights around index)) (string_ref around name scopes) (node_of readers around index scopes)
        (λ x y p q loops. behind (set_weights around index) (node_weight y loops) (q loops)) (any-there (string_ref around name scopes)) (node-weighs index scopes)
    node-weighs (tree.Read reader at) scopes =
        one-there (Read reader) (NodeWeighs (set_weights around at)) (NodeWeighs (set_weights around at)) (node_of readers around at scopes)
        (λ x p loops. behind (set_weights around at) (node_weight x loops) (p loops)) (node-weighs at scopes)
    node-weighs (tree.Prefix op inner) scopes =
        one-there (Prefix op) (NodeWeighs (set_weights around inner)) (NodeWeighs (set_weights around inner)) (node_of readers around inner scopes)
        (λ x p loops. behind (set_weights around inner) (node_weight x loops) (p loops)) (node-weighs inner scopes)
    node-weighs (tree.Chain first rest) scopes =
        two-there Chain (NodeWeighs (set_weights around first)) (LinksWeigh (link_sets around rest)) (NodeWeighs (set_weights around first + link_sets around rest))
        (node_of readers around first scopes) (links_node readers around rest scopes)
        (λ x y p q loops. behind-both (set_weights around first) (link_sets around rest) (node_weight x loops) (links_weight y loops) (p loops) (q loops))
        (node-weighs first scopes) (links-weigh rest scopes)
    node-weighs (tree.Matches text regex) scopes =
        two-there Matches (NodeWeighs (set_weights around text)) Any' (NodeWeighs (set_weights around text)) (node_of readers around text scopes) (regex_node (expression_of readers regex))
        (λ x y p q loops. and-pattern (set_weights around text) (node_weight x loops) (pattern_weight (size_of y)) (p loops))
        (node-weighs text scopes) (any-there (regex_node (expression_of readers regex)))
    node-weighs (tree.Of asked set place) scopes =
        two-there (λ q p. Of q (set_node around set) p) (AskedWeighs (asked_sets around asked)) (WhereWeighs (where_sets around place))
        (NodeWeighs (asked_sets around asked + set_weight (set_node around set) + where_sets around place)) (asked_node readers around asked scopes) (place_node readers around place scopes)
        (λ x y p q loops. with-set (asked_sets around asked) (set_weight (set_node around set)) (where_sets around place) (asked_weight x loops) (where_weight y loops) (p loops) (q loops))
        (asked-weighs asked scopes) (where-weighs place scopes)
    node-weighs (tree.ForOf asked set body) scopes =
        two-there (λ q b. ForOf q (set_node around set) b) (AskedWeighs (asked_sets around asked)) (NodeWeighs (set_weights around body))
        (NodeWeighs (asked_sets around asked + set_weight (set_node around set) + set_weights around body)) (asked_node readers around asked scopes) (node_of readers around body (meaning.Members ∷ scopes))
        (λ x y p q loops.
        with-set (asked_sets around asked) (set_weight (set_node around set)) (set_weights around body) (asked_weight x loops) (node_weight y (loop.Members ∷ loops)) (p loops) (q (loop.Members ∷ loops)))
        (asked-weighs asked scopes) (node-weighs body (meaning.Members ∷ scopes))
    node-weighs (tree.ForIn asked name domain body) scopes =
        three-there (λ q d b. ForIn q name d b) (AskedWeighs (asked_sets around asked)) (DomainWeighs (domain_sets around domain)) (NodeWeighs (set_weights around body))
        (NodeWeighs (asked_sets around asked + domain_sets around domain + set_weights around body)) (asked_node readers around asked scopes) (domain_node readers around domain scopes)
        (node_of readers around body (opened around name domain scopes ∷ scopes))
        (λ x y z p q s loops.
        behind-three (asked_sets around asked) (domain_sets around domain) (set_weights around body) (asked_weight x loops) (domain_weight y loops) (node_weight z (loop_over y ∷ loops))
        (p loops) (q loops) (s (loop_over y ∷ loops)))
        (asked-weighs asked scopes) (domain-weighs domain scopes) (node-weighs body (opened around name domain scopes ∷ scopes))

    links-weigh : (ls : Links) (scopes : List Scope) → IfThere (LinksWeigh (link_sets around ls)) (links_node readers around ls scopes)
    links-weigh tree.no_link scopes = λ loops. omega arith
    links-weigh (tree.link op operand rest) scopes =
        two-there (link op) (NodeWeighs (set_weights around operand)) (LinksWeigh (link_sets around rest)) (LinksWeigh (set_weights around operand + link_sets around rest))
        (node_of readers around operand scopes) (links_node readers around rest scopes)
        (λ x y p q loops. both (set_weights around operand) (link_sets around rest) (node_weight x loops) (links_weight y loops) (p loops) (q loops))
        (node-weighs operand scopes) (links-weigh rest scopes)

    items-weigh : (is : Items) (scopes : List Scope) → IfThere (ItemsWeigh (item_sets around is)) (items_node (each_node readers around is scopes))
    items-weigh tree.no_item scopes = λ loops. omega arith
    items-weigh (tree.item c rest) scopes =
        two-there item (NodeWeighs (set_weights around c)) (ItemsWeigh (item_sets around rest)) (ItemsWeigh (set_weights around c + item_sets around rest))
        (node_of readers around c scopes) (items_node (each_node readers around rest scopes))
        (λ x y p q loops. both (set_weights around c) (item_sets around rest) (node_weight x loops) (items_weight y loops) (p loops) (q loops))
        (node-weighs c scopes) (items-weigh rest scopes)

    where-weighs : (w : Where) (scopes : List Scope) → IfThere (WhereWeighs (where_sets around w)) (place_node readers around w scopes)
    where-weighs tree.Anywhere scopes = λ loops. omega arith
    where-weighs (tree.At at) scopes =
        one-there At (NodeWeighs (set_weights around at)) (WhereWeighs (set_weights around at)) (node_of readers around at scopes) (λ x p. p) (node-weighs at scopes)
    where-weighs (tree.Within low high) scopes =
        two-there Within (NodeWeighs (set_weights around low)) (NodeWeighs (set_weights around high)) (WhereWeighs (set_weights around low + set_weights around high))
        (node_of readers around low scopes) (node_of readers around high scopes)
        (λ x y p q loops. both (set_weights around low) (set_weights around high) (node_weight x loops) (node_weight y loops) (p loops) (q loops))
        (node-weighs low scopes) (node-weighs high scopes)

    asked-weighs : (a : Asked) (scopes : List Scope) → IfThere (AskedWeighs (asked_sets around a)) (asked_node readers around a scopes)
    asked-weighs tree.All scopes = λ loops. omega arith
    asked-weighs tree.Any scopes = λ loops. omega arith
    asked-weighs tree.Nil scopes = λ loops. omega arith
    asked-weighs (tree.AtLeast c) scopes =
        one-there AtLeast (NodeWeighs (set_weights around c)) (AskedWeighs (set_weights around c)) (node_of readers around c scopes) (λ x p. p) (node-weighs c scopes)
    asked-weighs (tree.Percent c) scopes =
        one-there Percent (NodeWeighs (set_weights around c)) (AskedWeighs (set_weights around c)) (node_of readers around c scopes) (λ x p. p) (node-weighs c scopes)

    domain-weighs : (d : Domain) (scopes : List Scope) → IfThere (DomainWeighs (domain_sets around d)) (domain_node readers around d scopes)
    domain-weighs (tree.OverRange low high) scopes =
        two-there OverRange (NodeWeighs (set_weights around low)) (NodeWeighs (set_weights around high)) (DomainWeighs (set_weights around low + set_weights around high))
        (node_of readers around low scopes) (node_of readers around high scopes)
        (λ x y p q loops. both (set_weights around low) (set_weights around high) (node_weight x loops) (node_weight y loops) (p loops) (q loops))
        (node-weighs low scopes) (node-weighs high scopes)
    domain-weighs (tree.OverList items) scopes =
        one-there OverList (ItemsWeigh (item_sets around items)) (DomainWeighs (item_sets around items)) (items_node (each_node readers around items scopes)) (λ x p. p) (items-weigh items scopes)
    domain-weighs (tree.OverPath steps) scopes = no-entries (entries_node (path_meaning around steps scopes))

  -- the checked condition weighs at least what the sets weigh
  pub sets-weigh : (c : Condition) (n : NodeTree) (scopes : List Scope) (loops : List Loop) → node_of readers around c scopes ≡ Some n → set_weights around c ≤ node_weight n loops
  sets-weigh c n scopes loops e = subst (IfThere (NodeWeighs (set_weights around c))) e (node-weighs c scopes) loops
