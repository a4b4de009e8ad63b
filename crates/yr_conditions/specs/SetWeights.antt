-- What the sets of a condition weigh, each member of a set with what it adds to the weight of the checked condition. Sets in the indices and arguments of paths
-- are left out: a condition with a set is no number, and these must be numbers.
use Rattle.std.specs.Prelude.{ℕ, ◌+◌}
use Rattle.yr_syntax.specs.Condition.{Condition, Links, Items, Where, Asked, Domain, Number, Text, Flag, FileSize, Path, Found, Count, CountIn, Offset, OffsetAt, Length, LengthAt, Read, Prefix, Chain, Matches, Of, ForOf, ForIn, no_link, link, no_item, item, Anywhere, At, Within, All, Any, Nil, AtLeast, Percent, OverRange, OverList, OverPath}
use Rattle.yr_rules.specs.Weight.{set_weight}
use Rattle.yr_conditions.specs.Meanings.{Around}
use Rattle.yr_conditions.specs.Nodes.{set_node}

module _ (around : Around) where
  abbrev mutual
    pub set_weights : Condition → ℕ
    set_weights (Number n) = 0
    set_weights (Text t) = 0
    set_weights (Flag b) = 0
    set_weights FileSize = 0
    set_weights (Path steps) = 0
    set_weights (Found name place) = where_sets place
    set_weights (Count name) = 0
    set_weights (CountIn name low high) = set_weights low + set_weights high
    set_weights (Offset name) = 0
    set_weights (OffsetAt name index) = set_weights index
    set_weights (Length name) = 0
    set_weights (LengthAt name index) = set_weights index
    set_weights (Read reader at) = set_weights at
    set_weights (Prefix op inner) = set_weights inner
    set_weights (Chain first rest) = set_weights first + link_sets rest
    set_weights (Matches text regex) = set_weights text
    set_weights (Of asked set place) = asked_sets asked + set_weight (set_node around set) + where_sets place
    set_weights (ForOf asked set body) = asked_sets asked + set_weight (set_node around set) + set_weights body
    set_weights (ForIn asked name domain body) = asked_sets asked + domain_sets domain + set_weights body

    pub link_sets : Links → ℕ
    link_sets no_link = 0
    link_sets (link op operand rest) = set_weights operand + link_sets rest

    pub item_sets : Items → ℕ
    item_sets no_item = 0
    item_sets (item c rest) = set_weights c + item_sets rest

    pub where_sets : Where → ℕ
    where_sets Anywhere = 0
    where_sets (At at) = set_weights at
    where_sets (Within low high) = set_weights low + set_weights high

    pub asked_sets : Asked → ℕ
    asked_sets All = 0
    asked_sets Any = 0
    asked_sets Nil = 0
    asked_sets (AtLeast c) = set_weights c
    asked_sets (Percent c) = set_weights c

    pub domain_sets : Domain → ℕ
    domain_sets (OverRange low high) = set_weights low + set_weights high
    domain_sets (OverList items) = item_sets items
    domain_sets (OverPath steps) = 0
