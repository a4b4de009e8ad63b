-- Ids that are there among some are there among more.
use Rattle.std.proofs.Common.{ℕ, Bool, true, false, All}
use Rattle.std.proofs.lemmas.List.Elements.{All-weaker}
use Rattle.yr_base.specs.declared.value.Kind.{Kind}
use Rattle.yr_rules.specs.NodeTree.{NodeTree, NodeLinks, NodeItems, NodeWhere, NodeAsked, NodeDomain, Number, Text, Flag, FileSize, External, RuleTruth, Var, Field, FieldAt, Call, Found, Count, CountIn, Offset, OffsetAt, Length, LengthAt, Read, Prefix, Chain, Matches, Of, ForOf, ForIn, no_link, link, no_item, item, Anywhere, At, Within, All as Every, Any, Nil, AtLeast, Percent, OverRange, OverList, OverEntries}
use Rattle.yr_rules.specs.Rules.{PlainRule, PlainRules}
use Rattle.yr_rules.specs.Ids.{Ids, HasIds, LinksHaveIds, ItemsHaveIds, PlaceHasIds, AskedHasIds, DomainHasIds}

module _ (some more : Ids) (fields : (id : ℕ) (k : Kind) (x : Bool) → some.field id k x → more.field id k x)
    (calls : (id : ℕ) (k : Kind) → some.call id k → more.call id k) (entries : (id : ℕ) → some.entries id → more.entries id) where
  mutual
    pub carried : (c : NodeTree) → HasIds some c → HasIds more c
    carried (Number n) h = h
    carried (Text t) h = h
    carried (Flag b) h = h
    carried FileSize h = h
    carried (External k) h = h
    carried (RuleTruth k) h = h
    carried (Var k) h = h
    carried (Field id kind) h = fields id kind false h
    carried (FieldAt id kind index) h = (fields id kind true h.0, carried index h.1)
    carried (Call id kind from size) h = (calls id kind h.0, carried from h.1, carried size h.2)
    carried (Found string place) h = place_carried place h
    carried (Count string) h = h
    carried (CountIn string low high) h = (carried low h.0, carried high h.1)
    carried (Offset string) h = h
    carried (OffsetAt string index) h = carried index h
    carried (Length string) h = h
    carried (LengthAt string index) h = carried index h
    carried (Read reader at) h = carried at h
    carried (Prefix op inner) h = carried inner h
    carried (Chain first rest) h = (carried first h.0, links_carried rest h.1)
    carried (Matches text regex) h = carried text h
    carried (Of asked set place) h = (asked_carried asked h.0, place_carried place h.1)
    carried (ForOf asked set body) h = (asked_carried asked h.0, carried body h.1)
    carried (ForIn asked name domain body) h = (asked_carried asked h.0, domain_carried domain h.1, carried body h.2)

    links_carried : (l : NodeLinks) → LinksHaveIds some l → LinksHaveIds more l
    links_carried no_link h = h
    links_carried (link op operand rest) h = (carried operand h.0, links_carried rest h.1)

    items_carried : (l : NodeItems) → ItemsHaveIds some l → ItemsHaveIds more l
    items_carried no_item h = h
    items_carried (item n rest) h = (carried n h.0, items_carried rest h.1)

    place_carried : (p : NodeWhere) → PlaceHasIds some p → PlaceHasIds more p
    place_carried Anywhere h = h
    place_carried (At at) h = carried at h
    place_carried (Within low high) h = (carried low h.0, carried high h.1)

    asked_carried : (a : NodeAsked) → AskedHasIds some a → AskedHasIds more a
    asked_carried Every h = h
    asked_carried Any h = h
    asked_carried Nil h = h
    asked_carried (AtLeast n) h = carried n h
    asked_carried (Percent n) h = carried n h

    domain_carried : (d : NodeDomain) → DomainHasIds some d → DomainHasIds more d
    domain_carried (OverRange low high) h = (carried low h.0, carried high h.1)
    domain_carried (OverList items) h = items_carried items h
    domain_carried (OverEntries id) h = entries id h

  pub all_carried : (rules : PlainRules) → All (λ rule. HasIds some rule.condition) rules.rules → All (λ rule. HasIds more rule.condition) rules.rules
  all_carried rules h = All-weaker (λ (rule : PlainRule). HasIds some rule.condition) (λ (rule : PlainRule). HasIds more rule.condition) (λ rule g. carried rule.condition g) rules.rules h
