-- Reading a condition from left to right, one function for each part. It serves the proof; no public clause cites it.
use Rattle.std.specs.Prelude.{ℕ, zero, suc, Bool, true, false, List, [], ◌∷◌, length, Option, Some, None, if◌then◌else◌}
use denote.Enum.Bare.{sameb}
use Rattle.yr_syntax.specs.declared.operator.Infix.{Infix}
use Rattle.yr_syntax.specs.declared.operator.Infix.TheVariants as op
use Rattle.yr_syntax.specs.declared.operator.PrefixOp.{PrefixOp}
use Rattle.yr_syntax.specs.declared.operator.PrefixOp.TheVariants as prefix
use Rattle.yr_syntax.specs.declared.operator.Reader.{Reader}
use Rattle.yr_syntax.specs.Condition.{Condition, Where, Asked, Domain, Bounds, SetTree, ItemTree, RegexTree, OneLink, OneStep, links_of, items_of, steps_of}
use Rattle.yr_syntax.specs.Condition as tree
use Rattle.yr_parser.specs.declared.sign.Sign.{Sign as SignType}
use Rattle.yr_parser.specs.declared.sign.Sign.TheVariants as sign
use Rattle.yr_parser.specs.declared.level.Level.{Level}
use Rattle.yr_parser.specs.declared.level.Level.TheVariants.{Or, And, Equal, Rel, Bits, Bxor, Band, Shift, Sum, Prod}
use Rattle.yr_parser.specs.declared.level.Entry.{Entry}
use Rattle.yr_parser.specs.declared.level.Entry.TheVariants as entry
use Rattle.yr_parser.specs.contracts.level.Level.{the_type}
use Rattle.yr_syntax.specs.contracts.operator.Infix.{the_type as infix_type}
use Rattle.yr_parser.specs.Terminals.{Terminal, Terminals, Word, Number, Text, Regex, StringName, StringWild, CountName, PlaceName, LengthName, Read, Flag, Operator, Sign}
use Rattle.yr_parser.specs.Levels.{level_of, operand}
use Rattle.yr_parser.specs.Conditions.{one_link, named, named_by_front}
use Rattle.yr_parser.specs.Input.{Outcome, Parser, and_then, ◌>>=◌, ◌>>◌, ◌<$>◌, pure, first, tail, sees, eat, expect, many}

-- ---- what the next terminal is

-- `==` on levels
unfoldable pub same_level : Level → Level → Bool
same_level = sameb the_type

abbrev pub operator_in : Level → Option Terminal → Option Infix
operator_in l (Some (Operator o)) = if same_level (level_of o) l then Some o else None
operator_in l _ = None

-- the operator that comes next, if it is one of the level
unfoldable pub joins_at : Level → Terminals → Option Infix
joins_at l k = operator_in l (first k)

abbrev pub negation_in : Option Terminal → Option PrefixOp
negation_in (Some (Sign sign.Not)) = Some prefix.Not
negation_in (Some (Sign sign.Defined)) = Some prefix.Defined
negation_in _ = None

unfoldable pub negates_at : Terminals → Option PrefixOp
negates_at k = negation_in (first k)

abbrev pub prefix_in : Option Terminal → Option PrefixOp
prefix_in (Some (Operator op.Subtract)) = Some prefix.Minus
prefix_in (Some (Sign sign.Tilde)) = Some prefix.Flip
prefix_in _ = None

unfoldable pub prefix_at : Terminals → Option PrefixOp
prefix_at k = prefix_in (first k)

abbrev pub count_in : Option Terminal → Option Asked
count_in (Some (Sign sign.All)) = Some tree.All
count_in (Some (Sign sign.Any)) = Some tree.Any
count_in (Some (Sign sign.None)) = Some tree.Nil
count_in _ = None

unfoldable pub count_at : Terminals → Option Asked
count_at k = count_in (first k)

abbrev pub string_in : Option Terminal → Option (List ℕ)
string_in (Some (StringName w)) = Some w
string_in _ = None

unfoldable pub string_at : Terminals → Option (List ℕ)
string_at k = string_in (first k)

abbrev pub string_item_in : Option Terminal → Option ItemTree
string_item_in (Some (StringName w)) = Some (named w)
string_item_in (Some (StringWild w)) = Some (named_by_front w)
string_item_in _ = None

unfoldable pub string_item_at : Terminals → Option ItemTree
string_item_at k = string_item_in (first k)

abbrev pub regex_in : Option Terminal → Option RegexTree
regex_in (Some (Regex r)) = Some r
regex_in _ = None

unfoldable pub regex_at : Terminals → Option RegexTree
regex_at k = regex_in (first k)

-- `==` on operators
unfoldable pub same_operator : Infix → Infix → Bool
same_operator = sameb infix_type

abbrev pub is_operator : Infix → Option Terminal → Bool
is_operator o (Some (Operator p)) = same_operator p o
is_operator o _ = false

-- the next terminal is this operator
unfoldable pub sees_operator : Infix → Terminals → Bool
sees_operator o k = is_operator o (first k)

-- `%` and `of` come next
unfoldable pub sees_percent_of : Terminals → Bool
sees_percent_of k = if sees_operator op.Remainder k then sees sign.Of (tail k) else false

-- ---- words

abbrev pub word_by : Option Terminal → Parser (List ℕ)
word_by (Some (Word w)) k = Some (w, tail k)
word_by _ k = None

unfoldable pub read_word : Parser (List ℕ)
read_word k = word_by (first k) k

-- the value, and the next terminal left out
abbrev pub taken : {A : Type 0} → Option A → Parser A
taken None k = None
taken (Some a) k = Some (a, tail k)

-- ---- sets

abbrev pub no_more : {A : Type 0} → Parser (Option A)
no_more k = Some (None, k)

unfoldable pub read_string_item : Parser ItemTree
read_string_item k = taken (string_item_at k) k

unfoldable pub next_string_item : Parser (Option ItemTree)
next_string_item = do
  more ← eat sign.Comma
  if more then Some <$> read_string_item else no_more

unfoldable pub read_string_items : Parser (List ItemTree)
read_string_items = do
  x ← read_string_item
  xs ← λ k. many next_string_item (length k) k
  pure (x ∷ xs)

abbrev pub rule_item_from : List ℕ → Bool → Parser ItemTree
rule_item_from w true k = Some (named_by_front w, tail k)
rule_item_from w false k = Some (named w, k)

unfoldable pub read_rule_item : Parser ItemTree
read_rule_item = do
  w ← read_word
  λ k. rule_item_from w (sees_operator op.Multiply k) k

unfoldable pub next_rule_item : Parser (Option ItemTree)
next_rule_item = do
  more ← eat sign.Comma
  if more then Some <$> read_rule_item else no_more

unfoldable pub read_rule_items : Parser (List ItemTree)
read_rule_items = do
  x ← read_rule_item
  xs ← λ k. many next_rule_item (length k) k
  pure (x ∷ xs)

unfoldable pub read_strings : Parser SetTree
read_strings = do
  xs ← read_string_items
  expect sign.Close
  pure (tree.Strings xs)

unfoldable pub read_rules : Parser SetTree
read_rules = do
  xs ← read_rule_items
  expect sign.Close
  pure (tree.Rules xs)

abbrev pub members_by : Option ItemTree → Parser SetTree
members_by (Some x) = read_strings
members_by None = read_rules

-- the members of a set, after its bracket
unfoldable pub read_members : Parser SetTree
read_members k = members_by (string_item_at k) k

unfoldable pub read_set : Parser SetTree
read_set = do
  all ← eat sign.Them
  if all then pure tree.Them else (expect sign.Open >>= λ _. read_members)

-- ---- levels, where the argument `operand` reads an operand

abbrev pub link_by : Parser Condition → Option Infix → Parser (Option OneLink)
link_by operand None k = Some (None, k)
link_by operand (Some o) k = and_then (operand (tail k)) (λ c. pure (Some (one_link o c)))

unfoldable pub next_link : Level → Parser Condition → Parser (Option OneLink)
next_link l operand k = link_by operand (joins_at l k) k

abbrev pub chain_of : Condition → List OneLink → Condition
chain_of first [] = first
chain_of first (l ∷ ls) = tree.Chain first (links_of (l ∷ ls))

-- the rest of a level, after its first operand
unfoldable pub level_from : Level → Parser Condition → Condition → Parser Condition
level_from l operand first = do
  links ← λ k. many (next_link l operand) (length k) k
  pure (chain_of first links)

abbrev pub pair_of : Condition → Option OneLink → Condition
pair_of first None = first
pair_of first (Some l) = tree.Chain first (links_of (l ∷ []))

-- the rest of a level of comparisons
unfoldable pub pair_from : Level → Parser Condition → Condition → Parser Condition
pair_from l operand first = do
  link ← next_link l operand
  pure (pair_of first link)

unfoldable pub matches_from : Condition → Parser Condition
matches_from first = (λ k. taken (regex_at k) k) >>= λ r. pure (tree.Matches first r)

abbrev pub prefix_by : Option PrefixOp → Outcome Condition → Outcome Condition → Outcome Condition
prefix_by None inner other = other
prefix_by (Some o) inner other = and_then inner (λ c. pure (tree.Prefix o c))

-- ---- a run of prefix operators, where the argument `at` says which operator comes next

abbrev pub operators_by : Option PrefixOp → List PrefixOp → List PrefixOp
operators_by None more = []
operators_by (Some o) more = o ∷ more

-- the operators that follow one another
unfoldable pub run_of : (Terminals → Option PrefixOp) → Terminals → List PrefixOp
run_of at [] = []
run_of at (t ∷ k) = operators_by (at (t ∷ k)) (run_of at k)

abbrev pub rest_by : Option PrefixOp → Terminals → Terminals → Terminals
rest_by None here later = here
rest_by (Some o) here later = later

-- the terminals after them
unfoldable pub after_run : (Terminals → Option PrefixOp) → Terminals → Terminals
after_run at [] = []
after_run at (t ∷ k) = rest_by (at (t ∷ k)) (t ∷ k) (after_run at k)

-- an operand with these operators before it
abbrev pub prefixed : List PrefixOp → Condition → Condition
prefixed [] c = c
prefixed (o ∷ os) c = tree.Prefix o (prefixed os c)

-- ---- the parts, where `inner` reads what stands between brackets

module _ (inner : Entry → Parser Condition) where
  -- bits, and the sign that closes it
  unfoldable pub read_closed : Entry → SignType → Parser Condition
  read_closed e s = do
    c ← inner e
    expect s
    pure c

  -- the range, after its bracket
  unfoldable pub range_from : Condition → Parser Bounds
  range_from low = do
    high ← read_closed entry.Bits sign.Close
    pure (record { low = low; high = high })

  unfoldable pub read_range : Parser Bounds
  read_range = do
    expect sign.Open
    low ← read_closed entry.Bits sign.DotDot
    range_from low

  unfoldable pub next_item : Parser (Option Condition)
  next_item = do
    more ← eat sign.Comma
    if more then Some <$> inner entry.Bits else no_more

  -- the items after the first, and the bracket
  unfoldable pub items_from : Condition → Parser (List Condition)
  items_from c = do
    cs ← λ k. many next_item (length k) k
    expect sign.Close
    pure (c ∷ cs)

  unfoldable pub read_items : Parser (List Condition)
  read_items = inner entry.Bits >>= items_from

  unfoldable pub read_call : Parser (Option OneStep)
  read_call = do
    empty ← eat sign.Close
    if empty then pure (Some (tree.Call [])) else ((λ cs. Some (tree.Call cs)) <$> read_items)

  unfoldable pub read_index : Parser (Option OneStep)
  read_index = (λ c. Some (tree.Index c)) <$> read_closed entry.Bits sign.CloseBracket

  unfoldable pub read_field : Parser (Option OneStep)
  read_field = (λ w. Some (tree.Name w)) <$> read_word

  unfoldable pub step_other : Parser (Option OneStep)
  step_other = do
    is_call ← eat sign.Open
    if is_call then read_call else no_more

  unfoldable pub step_index : Parser (Option OneStep)
  step_index = do
    is_index ← eat sign.OpenBracket
    if is_index then read_index else step_other

  unfoldable pub next_step : Parser (Option OneStep)
  next_step = do
    is_name ← eat sign.Dot
    if is_name then read_field else step_index

  -- a path, after its first name
  unfoldable pub path_from : List ℕ → Parser (List OneStep)
  path_from w = do
    ss ← λ k. many next_step (length k) k
    pure (tree.Name w ∷ ss)

  unfoldable pub read_reader : Reader → Parser Condition
  read_reader r = do
    expect sign.Open
    c ← read_closed entry.Bits sign.Close
    pure (tree.Read r c)

  unfoldable pub count_from : List ℕ → Parser Condition
  count_from w = do
    ranged ← eat sign.In
    if ranged then ((λ r. tree.CountIn w r.low r.high) <$> read_range) else pure (tree.Count w)

  unfoldable pub offset_from : List ℕ → Parser Condition
  offset_from w = do
    indexed ← eat sign.OpenBracket
    if indexed then (tree.OffsetAt w <$> read_closed entry.Bits sign.CloseBracket) else pure (tree.Offset w)

  unfoldable pub length_from : List ℕ → Parser Condition
  length_from w = do
    indexed ← eat sign.OpenBracket
    if indexed then (tree.LengthAt w <$> read_closed entry.Bits sign.CloseBracket) else pure (tree.Length w)

  unfoldable pub read_path : List ℕ → Parser Condition
  read_path w = (λ ss. tree.Path (steps_of ss)) <$> path_from w

  -- `filesize`, or brackets
  unfoldable pub primary_sign : Parser Condition
  primary_sign = do
    is_size ← eat sign.FileSize
    if is_size then pure tree.FileSize else (expect sign.Open >>= λ _. read_closed entry.Or sign.Close)

  abbrev pub name_by : Option Terminal → Parser Condition
  name_by (Some (Word w)) k = read_path w (tail k)
  name_by (Some (CountName w)) k = count_from w (tail k)
  name_by (Some (PlaceName w)) k = offset_from w (tail k)
  name_by (Some (LengthName w)) k = length_from w (tail k)
  name_by _ k = None

  -- a primary that begins with a name
  unfoldable pub primary_name : Parser Condition
  primary_name k = name_by (first k) k

  abbrev pub primary_by : Option Terminal → Parser Condition
  primary_by (Some (Number n)) k = Some (tree.Number n, tail k)
  primary_by (Some (Text t)) k = Some (tree.Text t, tail k)
  primary_by (Some (Flag b)) k = Some (tree.Flag b, tail k)
  primary_by (Some (Read r)) k = read_reader r (tail k)
  primary_by (Some (Sign s)) k = primary_sign k
  primary_by _ k = primary_name k

  unfoldable pub read_primary : Parser Condition
  read_primary k = primary_by (first k) k

  unfoldable pub read_unary : Parser Condition
  read_unary [] = None
  read_unary (t ∷ k) = prefix_by (prefix_at (t ∷ k)) (read_unary k) (read_primary (t ∷ k))

  unfoldable pub prod_from : Condition → Parser Condition
  prod_from u = level_from Prod read_unary u

  unfoldable pub read_prod : Parser Condition
  read_prod = read_unary >>= prod_from

  unfoldable pub sum_from : Condition → Parser Condition
  sum_from u = prod_from u >>= level_from Sum read_prod

  unfoldable pub read_sum : Parser Condition
  read_sum = read_unary >>= sum_from

  unfoldable pub shift_from : Condition → Parser Condition
  shift_from u = sum_from u >>= level_from Shift read_sum

  unfoldable pub read_shift : Parser Condition
  read_shift = read_unary >>= shift_from

  unfoldable pub band_from : Condition → Parser Condition
  band_from u = shift_from u >>= level_from Band read_shift

  unfoldable pub read_band : Parser Condition
  read_band = read_unary >>= band_from

  unfoldable pub bxor_from : Condition → Parser Condition
  bxor_from u = band_from u >>= level_from Bxor read_band

  unfoldable pub read_bxor : Parser Condition
  read_bxor = read_unary >>= bxor_from

  unfoldable pub bits_from : Condition → Parser Condition
  bits_from u = bxor_from u >>= level_from Bits read_bxor

  unfoldable pub read_bits : Parser Condition
  read_bits = read_unary >>= bits_from

  unfoldable pub rel_from : Condition → Parser Condition
  rel_from u = bits_from u >>= pair_from Rel read_bits

  unfoldable pub read_rel : Parser Condition
  read_rel = read_unary >>= rel_from

  -- after the first operand of a comparison
  unfoldable pub equal_rest : Condition → Parser Condition
  equal_rest c = do
    is_regex ← eat sign.Matches
    if is_regex then matches_from c else pair_from Equal read_rel c

  unfoldable pub equal_from : Condition → Parser Condition
  equal_from u = rel_from u >>= equal_rest

  unfoldable pub place_at : Parser Where
  place_at = tree.At <$> read_bits

  unfoldable pub place_in : Parser Where
  place_in = do
    ranged ← eat sign.In
    if ranged then ((λ r. tree.Within r.low r.high) <$> read_range) else pure tree.Anywhere

  unfoldable pub read_place : Parser Where
  read_place = do
    placed ← eat sign.At
    if placed then place_at else place_in

  unfoldable pub found_from : List ℕ → Parser Condition
  found_from w = tree.Found w <$> read_place

  unfoldable pub of_from : Asked → Parser Condition
  of_from q = do
    s ← read_set
    p ← read_place
    pure (tree.Of q s p)

  abbrev pub count_by : Option Asked → Parser Asked
  count_by (Some q) k = Some (q, tail k)
  count_by None k = and_then (read_unary k) (λ c. pure (tree.AtLeast c))

  unfoldable pub read_count : Parser Asked
  read_count k = count_by (count_at k) k

  -- the body of a loop
  unfoldable pub read_body : Parser Condition
  read_body = do
    expect sign.Colon
    expect sign.Open
    read_closed entry.Or sign.Close

  unfoldable pub over_from : Condition → Parser Domain
  over_from c = do
    ranged ← eat sign.DotDot
    if ranged then ((λ r. tree.OverRange r.low r.high) <$> range_from c) else ((λ cs. tree.OverList (items_of cs)) <$> items_from c)

  unfoldable pub over_path : Parser Domain
  over_path = do
    w ← read_word
    ss ← path_from w
    pure (tree.OverPath (steps_of ss))

  unfoldable pub over_brackets : Parser Domain
  over_brackets = inner entry.Bits >>= over_from

  unfoldable pub read_over : Parser Domain
  read_over = do
    bracket ← eat sign.Open
    if bracket then over_brackets else over_path

  unfoldable pub for_of_from : Asked → Parser Condition
  for_of_from q = do
    s ← read_set
    c ← read_body
    pure (tree.ForOf q s c)

  unfoldable pub for_in_from : Asked → Parser Condition
  for_in_from q = do
    w ← read_word
    expect sign.In
    o ← read_over
    c ← read_body
    pure (tree.ForIn q w o c)

  unfoldable pub read_for : Parser Condition
  read_for = do
    q ← read_count
    of ← eat sign.Of
    if of then for_of_from q else for_in_from q

  abbrev pub percent_by : Bool → Condition → Parser Condition
  percent_by true u k = of_from (tree.Percent u) (tail (tail k))
  percent_by false u k = equal_from u k

  unfoldable pub percent_from : Condition → Parser Condition
  percent_from u k = percent_by (sees_percent_of k) u k

  -- after the first unary of a test
  unfoldable pub test_from : Condition → Parser Condition
  test_from u = do
    of ← eat sign.Of
    if of then of_from (tree.AtLeast u) else percent_from u

  abbrev pub counted_by : Option Asked → Parser Condition
  counted_by (Some q) k = and_then (expect sign.Of (tail k)) (λ _. of_from q)
  counted_by None k = and_then (read_unary k) test_from

  unfoldable pub test_count : Parser Condition
  test_count k = counted_by (count_at k) k

  unfoldable pub test_other : Parser Condition
  test_other = do
    is_for ← eat sign.For
    if is_for then read_for else test_count

  abbrev pub test_by : Option (List ℕ) → Parser Condition
  test_by (Some w) k = found_from w (tail k)
  test_by None k = test_other k

  unfoldable pub read_test : Parser Condition
  read_test k = test_by (string_at k) k

  unfoldable pub read_not : Parser Condition
  read_not [] = None
  read_not (t ∷ k) = prefix_by (negates_at (t ∷ k)) (read_not k) (read_test (t ∷ k))

  unfoldable pub read_and : Parser Condition
  read_and = read_not >>= level_from And read_not

  unfoldable pub read_or : Parser Condition
  read_or = read_and >>= level_from Or read_and

  abbrev pub read_entry : Entry → Parser Condition
  read_entry entry.Or = read_or
  read_entry entry.Bits = read_bits

-- with brackets nested no deeper than the number
unfoldable pub cond_at : ℕ → Entry → Parser Condition
cond_at zero e = λ k. None
cond_at (suc depth) e = read_entry (cond_at depth) e

-- an operand of the level
abbrev pub operand_at : ℕ → Level → Parser Condition
operand_at depth Or = read_and (cond_at depth)
operand_at depth And = read_not (cond_at depth)
operand_at depth Equal = read_rel (cond_at depth)
operand_at depth Rel = read_bits (cond_at depth)
operand_at depth Bits = read_bxor (cond_at depth)
operand_at depth Bxor = read_band (cond_at depth)
operand_at depth Band = read_shift (cond_at depth)
operand_at depth Shift = read_sum (cond_at depth)
operand_at depth Sum = read_prod (cond_at depth)
operand_at depth Prod = read_unary (cond_at depth)
