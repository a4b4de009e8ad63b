-- The height of a condition: the greatest number of nodes other than prefix operators on a way from its root to a leaf.
use Rattle.std.specs.Prelude.{ℕ, ◌+◌, max}
use Rattle.yr_syntax.specs.Condition.{Condition, Links, Steps, Items, Where, Asked, Domain, Number, Text, Flag, FileSize, Path, Found, Count, CountIn, Offset, OffsetAt, Length, LengthAt, Read, Prefix, Chain, Matches, Of, ForOf, ForIn, no_link, link, no_step, name_step, index_step, call_step, no_item, item, Anywhere, At, Within, All, Any, Nil, AtLeast, Percent, OverRange, OverList, OverPath}

abbrev mutual
  -- a prefix operator adds nothing, every other node one
  pub height : Condition → ℕ
  height (Number n) = 1
  height (Text t) = 1
  height (Flag b) = 1
  height FileSize = 1
  height (Path steps) = steps_height steps + 1
  height (Found name place) = where_height place + 1
  height (Count name) = 1
  height (CountIn name low high) = max (height low) (height high) + 1
  height (Offset name) = 1
  height (OffsetAt name index) = height index + 1
  height (Length name) = 1
  height (LengthAt name index) = height index + 1
  height (Read reader at) = height at + 1
  height (Prefix op inner) = height inner
  height (Chain first rest) = max (height first) (links_height rest) + 1
  height (Matches text regex) = height text + 1
  height (Of asked set place) = max (asked_height asked) (where_height place) + 1
  height (ForOf asked set body) = max (asked_height asked) (height body) + 1
  height (ForIn asked name domain body) = max (asked_height asked) (max (domain_height domain) (height body)) + 1

  pub links_height : Links → ℕ
  links_height no_link = 0
  links_height (link op operand rest) = max (height operand) (links_height rest)

  pub steps_height : Steps → ℕ
  steps_height no_step = 0
  steps_height (name_step name rest) = steps_height rest
  steps_height (index_step index rest) = max (height index) (steps_height rest)
  steps_height (call_step arguments rest) = max (items_height arguments) (steps_height rest)

  pub items_height : Items → ℕ
  items_height no_item = 0
  items_height (item c rest) = max (height c) (items_height rest)

  pub where_height : Where → ℕ
  where_height Anywhere = 0
  where_height (At c) = height c
  where_height (Within low high) = max (height low) (height high)

  pub asked_height : Asked → ℕ
  asked_height All = 0
  asked_height Any = 0
  asked_height Nil = 0
  asked_height (AtLeast c) = height c
  asked_height (Percent c) = height c

  pub domain_height : Domain → ℕ
  domain_height (OverRange low high) = max (height low) (height high)
  domain_height (OverList items) = items_height items
  domain_height (OverPath steps) = steps_height steps
