-- Reading declarations from left to right, one function for each part. It serves the proof; no public clause cites it.
use Rattle.std.specs.Prelude.{ℕ, ℤ, pos, ◌-ℤ◌, Bool, true, false, List, [], ◌∷◌, length, Option, Some, None, if◌then◌else◌}
use Rattle.yr_syntax.specs.declared.operator.Infix.TheVariants as op
use Rattle.yr_syntax.specs.Condition.{Condition}
use Rattle.yr_syntax.specs.Declaration.{ModifierTree, BodyTree, StringTree, ValueTree, MetaTree, RuleTree, Declaration}
use Rattle.yr_syntax.specs.Declaration as tree
use Rattle.yr_parser.specs.declared.sign.Sign.{Sign as SignType}
use Rattle.yr_parser.specs.declared.sign.Sign.TheVariants as sign
use Rattle.yr_parser.specs.declared.level.Entry.TheVariants as entries
use Rattle.yr_parser.specs.Terminals.{Terminal, Terminals, Word, Number, Text, Regex, Hex, Flag, Operator, Sign}
use Rattle.yr_parser.specs.Input.{Parser, and_then, ◌>>=◌, ◌>>◌, ◌<$>◌, pure, first, tail, sees, eat, expect, many}
use Rattle.yr_parser.specs.Reading.{no_more, taken, read_word, sees_operator, string_at, cond_at}
use Rattle.yr_parser.specs.Declarations.{Places, entry}

abbrev pub number_in : Option Terminal → Option ℤ
number_in (Some (Number n)) = Some n
number_in _ = None

unfoldable pub read_number : Parser ℤ
read_number k = taken (number_in (first k)) k

abbrev pub text_in : Option Terminal → Option (List ℕ)
text_in (Some (Text t)) = Some t
text_in _ = None

unfoldable pub read_text : Parser (List ℕ)
read_text k = taken (text_in (first k)) k

-- ---- meta

unfoldable pub negative_value : Parser ValueTree
negative_value = (λ n. tree.NumberValue (pos 0 -ℤ n)) <$> read_number

abbrev pub value_by : Option Terminal → Parser ValueTree
value_by (Some (Text t)) k = Some (tree.TextValue t, tail k)
value_by (Some (Number n)) k = Some (tree.NumberValue n, tail k)
value_by (Some (Flag b)) k = Some (tree.FlagValue b, tail k)
value_by (Some (Operator op.Subtract)) k = negative_value (tail k)
value_by _ k = None

unfoldable pub read_value : Parser ValueTree
read_value k = value_by (first k) k

unfoldable pub read_meta : Parser MetaTree
read_meta = do
  w ← read_word
  expect sign.Assign
  v ← read_value
  pure (entry w v)

abbrev pub is_word : Option Terminal → Bool
is_word (Some (Word w)) = true
is_word _ = false

unfoldable pub sees_word : Terminals → Bool
sees_word k = is_word (first k)

unfoldable pub next_meta : Parser (Option MetaTree)
next_meta k = (if sees_word k then Some <$> read_meta else no_more) k

unfoldable pub metas_from : Parser (List MetaTree)
metas_from = do
  expect sign.Colon
  m ← read_meta
  ms ← λ k. many next_meta (length k) k
  pure (m ∷ ms)

unfoldable pub meta_part : Parser (List MetaTree)
meta_part = do
  some ← eat sign.Meta
  if some then metas_from else pure []

-- ---- strings

unfoldable pub xor_range : ℤ → Parser ModifierTree
xor_range n = do
  m ← read_number
  expect sign.Close
  pure (tree.Xor n m)

unfoldable pub xor_one : ℤ → Parser ModifierTree
xor_one n = do
  expect sign.Close
  pure (tree.Xor n n)

abbrev pub xor_by : Bool → ℤ → Parser ModifierTree
xor_by true n k = xor_range n (tail k)
xor_by false n k = xor_one n k

unfoldable pub xor_keys : Parser ModifierTree
xor_keys = read_number >>= λ n k. xor_by (sees_operator op.Subtract k) n k

unfoldable pub xor_from : Parser ModifierTree
xor_from = do
  keys ← eat sign.Open
  if keys then xor_keys else pure (tree.Xor (pos 0) (pos 255))

unfoldable pub alphabet_text : Parser (Option (List ℕ))
alphabet_text = do
  t ← read_text
  expect sign.Close
  pure (Some t)

unfoldable pub alphabet_from : Parser (Option (List ℕ))
alphabet_from = do
  given ← eat sign.Open
  if given then alphabet_text else pure None

-- a modifier of one word
abbrev pub plain_modifier : SignType → Option ModifierTree
plain_modifier sign.NoCase = Some tree.NoCase
plain_modifier sign.Wide = Some tree.Wide
plain_modifier sign.Ascii = Some tree.Ascii
plain_modifier sign.FullWord = Some tree.FullWord
plain_modifier sign.Private = Some tree.Hidden
plain_modifier _ = None

abbrev pub plain_by : Option ModifierTree → Parser (Option ModifierTree)
plain_by None k = Some (None, k)
plain_by (Some m) k = Some (Some m, tail k)

abbrev pub modifier_by : Option Terminal → Parser (Option ModifierTree)
modifier_by (Some (Sign sign.Xor)) k = and_then (xor_from (tail k)) (λ m. pure (Some m))
modifier_by (Some (Sign sign.Base64)) k = and_then (alphabet_from (tail k)) (λ a. pure (Some (tree.Base64 a)))
modifier_by (Some (Sign sign.Base64Wide)) k = and_then (alphabet_from (tail k)) (λ a. pure (Some (tree.Base64Wide a)))
modifier_by (Some (Sign s)) k = plain_by (plain_modifier s) k
modifier_by _ k = Some (None, k)

unfoldable pub next_modifier : Parser (Option ModifierTree)
next_modifier k = modifier_by (first k) k

abbrev pub body_in : Option Terminal → Option BodyTree
body_in (Some (Text t)) = Some (tree.Text t)
body_in (Some (Regex r)) = Some (tree.Regex r)
body_in (Some (Hex t)) = Some (tree.Hex t)
body_in _ = None

unfoldable pub read_body_text : Parser BodyTree
read_body_text k = taken (body_in (first k)) k

-- ---- tags and flags

unfoldable pub next_word : Parser (Option (List ℕ))
next_word k = (if sees_word k then Some <$> read_word else no_more) k

unfoldable pub tags_from : Parser (List (List ℕ))
tags_from = do
  w ← read_word
  ws ← λ k. many next_word (length k) k
  pure (w ∷ ws)

unfoldable pub read_tags : Parser (List (List ℕ))
read_tags = do
  some ← eat sign.Colon
  if some then tags_from else pure []

abbrev pub with_flags : Bool → Bool → Parser (Bool × Bool)
with_flags global hidden k = Some ((global, hidden), k)

unfoldable pub global_flags : Parser (Bool × Bool)
global_flags = do
  hidden ← eat sign.Private
  if hidden then with_flags true true else with_flags true false

unfoldable pub hidden_flags : Parser (Bool × Bool)
hidden_flags = do
  global ← eat sign.Global
  if global then with_flags true true else with_flags false true

unfoldable pub private_flags : Parser (Bool × Bool)
private_flags = do
  hidden ← eat sign.Private
  if hidden then hidden_flags else with_flags false false

unfoldable pub read_flags : Parser (Bool × Bool)
read_flags = do
  global ← eat sign.Global
  if global then global_flags else private_flags

module _ (places : Places) where
  unfoldable pub string_from : ℕ → List ℕ → Parser StringTree
  string_from line w = do
    expect sign.Assign
    b ← read_body_text
    ms ← λ k. many next_modifier (length k) k
    pure (record { name = w; body = b; modifiers = ms; line = line })

  abbrev pub string_by : Option (List ℕ) → Parser StringTree
  string_by (Some w) k = string_from (places.line (length k)) w (tail k)
  string_by None k = None

  unfoldable pub read_string : Parser StringTree
  read_string k = string_by (string_at k) k

  abbrev pub next_string_by : Option (List ℕ) → Parser (Option StringTree)
  next_string_by (Some w) k = and_then (read_string k) (λ s. pure (Some s))
  next_string_by None k = Some (None, k)

  unfoldable pub next_string : Parser (Option StringTree)
  next_string k = next_string_by (string_at k) k

  unfoldable pub strings_from : Parser (List StringTree)
  strings_from = do
    expect sign.Colon
    s ← read_string
    ss ← λ k. many next_string (length k) k
    pure (s ∷ ss)

  unfoldable pub string_part : Parser (List StringTree)
  string_part = do
    some ← eat sign.Strings
    if some then strings_from else pure []

  -- ---- rules

  unfoldable pub rule_condition : ℕ → Parser Condition
  rule_condition depth = do
    expect sign.Condition
    expect sign.Colon
    c ← cond_at depth entries.Or
    expect sign.CloseBrace
    pure c

  unfoldable pub rule_from : ℕ → (file line : ℕ) → Bool × Bool → Parser RuleTree
  rule_from depth file line flags = do
    expect sign.Rule
    w ← read_word
    ts ← read_tags
    expect sign.OpenBrace
    ms ← meta_part
    ss ← string_part
    c ← rule_condition depth
    pure (record { name = w; global = flags.0; hidden = flags.1; tags = ts; meta = ms; strings = ss; condition = c; file = file; line = line })

  unfoldable pub read_rule : ℕ → Parser RuleTree
  read_rule depth k = (read_flags >>= rule_from depth (places.file (length k)) (places.line (length k))) k

  unfoldable pub import_from : (file line : ℕ) → Parser Declaration
  import_from file line = do
    t ← read_text
    pure (tree.Import t file line)

  abbrev pub declaration_by : Bool → ℕ → Parser Declaration
  declaration_by true depth k = import_from (places.file (length k)) (places.line (length k)) (tail k)
  declaration_by false depth k = and_then (read_rule depth k) (λ r. pure (tree.Rule r))

  unfoldable pub read_declaration : ℕ → Parser Declaration
  read_declaration depth k = declaration_by (sees sign.Import k) depth k
