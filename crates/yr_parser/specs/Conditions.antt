-- The grammar of conditions ('Writing YARA rules', Conditions). `Reads part k c rest` says that the terminals k begin with the part,
-- that its tree is c, and that the terminals rest follow it. There is one case for each alternative.
use Rattle.std.specs.Prelude.{◌≡◌, ℕ, ℤ, Bool, true, false, List, [], ◌∷◌}
use Rattle.yr_syntax.specs.declared.operator.Infix.{Infix}
use Rattle.yr_syntax.specs.declared.operator.Infix.TheVariants as op
use Rattle.yr_syntax.specs.declared.operator.PrefixOp.TheVariants as prefix
use Rattle.yr_syntax.specs.declared.operator.Reader.{Reader}
use Rattle.yr_syntax.specs.Condition.{Condition, Where, Asked, Domain, SetTree, ItemTree, RegexTree, OneLink, OneStep, links_of, items_of, steps_of}
use Rattle.yr_syntax.specs.Condition as tree
use Rattle.yr_parser.specs.declared.sign.Sign.TheVariants.{All, Any, At, Defined, FileSize, For, In, Matches, None, Not, Of, Them, Open, Close, OpenBracket, CloseBracket, Colon, Comma, Dot, DotDot, Tilde}
use Rattle.yr_parser.specs.declared.level.Level.{Level}
use Rattle.yr_parser.specs.declared.level.Level.TheVariants as levels
use Rattle.yr_parser.specs.Terminals.{Terminals, Word, Number, Text, Regex, StringName, StringWild, CountName, PlaceName, LengthName, Read, Flag, Operator, Sign}
use Rattle.yr_parser.specs.Levels.{Part, level, not, test, unary, primary, level_of, operand, repeats}

abbrev pub one_link : Infix → Condition → OneLink
one_link o c = record { op = o; operand = c }

abbrev pub named : List ℕ → ItemTree
named w = record { name = w; wild = false }

abbrev pub named_by_front : List ℕ → ItemTree
named_by_front w = record { name = w; wild = true }

-- sitem ("," sitem)*, where sitem = STRING / STRINGS
pub data StringItems : Terminals → List ItemTree → Terminals → Type 0 where
  one_string : {w : List ℕ} {rest : Terminals} → StringItems (StringName w ∷ rest) (named w ∷ []) rest
  one_wild : {w : List ℕ} {rest : Terminals} → StringItems (StringWild w ∷ rest) (named_by_front w ∷ []) rest
  string_then : {w : List ℕ} {k rest : Terminals} {xs : List ItemTree} → StringItems k xs rest
      → StringItems (StringName w ∷ Sign Comma ∷ k) (named w ∷ xs) rest
  wild_then : {w : List ℕ} {k rest : Terminals} {xs : List ItemTree} → StringItems k xs rest
      → StringItems (StringWild w ∷ Sign Comma ∷ k) (named_by_front w ∷ xs) rest

-- ritem ("," ritem)*, where ritem = WORD ["*"]
pub data RuleItems : Terminals → List ItemTree → Terminals → Type 0 where
  one_rule : {w : List ℕ} {rest : Terminals} → RuleItems (Word w ∷ rest) (named w ∷ []) rest
  one_front : {w : List ℕ} {rest : Terminals} → RuleItems (Word w ∷ Operator op.Multiply ∷ rest) (named_by_front w ∷ []) rest
  rule_then : {w : List ℕ} {k rest : Terminals} {xs : List ItemTree} → RuleItems k xs rest
      → RuleItems (Word w ∷ Sign Comma ∷ k) (named w ∷ xs) rest
  front_then : {w : List ℕ} {k rest : Terminals} {xs : List ItemTree} → RuleItems k xs rest
      → RuleItems (Word w ∷ Operator op.Multiply ∷ Sign Comma ∷ k) (named_by_front w ∷ xs) rest

-- set = "them" / "(" sitem ("," sitem)* ")" / "(" ritem ("," ritem)* ")"
pub data Sets : Terminals → SetTree → Terminals → Type 0 where
  them : {rest : Terminals} → Sets (Sign Them ∷ rest) tree.Them rest
  strings : {k rest : Terminals} {xs : List ItemTree} → StringItems k xs (Sign Close ∷ rest) → Sets (Sign Open ∷ k) (tree.Strings xs) rest
  rules : {k rest : Terminals} {xs : List ItemTree} → RuleItems k xs (Sign Close ∷ rest) → Sets (Sign Open ∷ k) (tree.Rules xs) rest

mutual
  pub data Reads : Part → Terminals → Condition → Terminals → Type 0 where
    -- one operand of a level gives no Chain
    one : {l : Level} {k rest : Terminals} {c : Condition} → Reads (operand l) k c rest → Reads (level l) k c rest
    -- or = and ("or" and)*, and = not ("and" not)*, bits = bxor ("|" bxor)*, .., prod = unary (("*" / "\" / "%") unary)*
    chain : {l : Level} {k more rest : Terminals} {first : Condition} {links : List OneLink} → repeats l ≡ true
        → Reads (operand l) k first more → Links l more links rest → Reads (level l) k (tree.Chain first (links_of links)) rest
    -- equal = rel [eqop rel], rel = bits [("<" / "<=" / ">" / ">=") bits]
    pair : {l : Level} {k more rest : Terminals} {o : Infix} {c d : Condition} → repeats l ≡ false
        → Reads (operand l) k c (Operator o ∷ more) → level_of o ≡ l → Reads (operand l) more d rest
        → Reads (level l) k (tree.Chain c (links_of (one_link o d ∷ []))) rest
    -- equal = rel "matches" REGEX
    matches : {k rest : Terminals} {c : Condition} {r : RegexTree} → Reads (level levels.Rel) k c (Sign Matches ∷ Regex r ∷ rest)
        → Reads (level levels.Equal) k (tree.Matches c r) rest
    -- not = ("not" / "defined") not / test
    negated : {k rest : Terminals} {c : Condition} → Reads not k c rest → Reads not (Sign Not ∷ k) (tree.Prefix prefix.Not c) rest
    is_defined : {k rest : Terminals} {c : Condition} → Reads not k c rest → Reads not (Sign Defined ∷ k) (tree.Prefix prefix.Defined c) rest
    plain : {k rest : Terminals} {c : Condition} → Reads test k c rest → Reads not k c rest
    -- test = STRING ["at" bits / "in" range]
    found : {w : List ℕ} {k rest : Terminals} {p : Where} → Places k p rest → Reads test (StringName w ∷ k) (tree.Found w p) rest
    -- test = quant "of" set ["at" bits / "in" range]
    of : {k more mid rest : Terminals} {q : Asked} {s : SetTree} {p : Where} → Quants k q (Sign Of ∷ more) → Sets more s mid → Places mid p rest
        → Reads test k (tree.Of q s p) rest
    -- test = "for" count "of" set ":" "(" or ")"
    for_of : {k more mid rest : Terminals} {q : Asked} {s : SetTree} {c : Condition} → Counts k q (Sign Of ∷ more)
        → Sets more s (Sign Colon ∷ Sign Open ∷ mid) → Reads (level levels.Or) mid c (Sign Close ∷ rest)
        → Reads test (Sign For ∷ k) (tree.ForOf q s c) rest
    -- test = "for" count WORD "in" over ":" "(" or ")"
    for_in : {w : List ℕ} {k more mid rest : Terminals} {q : Asked} {o : Domain} {c : Condition} → Counts k q (Word w ∷ Sign In ∷ more)
        → Overs more o (Sign Colon ∷ Sign Open ∷ mid) → Reads (level levels.Or) mid c (Sign Close ∷ rest)
        → Reads test (Sign For ∷ k) (tree.ForIn q w o c) rest
    -- test = equal
    compared : {k rest : Terminals} {c : Condition} → Reads (level levels.Equal) k c rest → Reads test k c rest
    -- unary = ("-" / "~") unary / primary
    minus : {k rest : Terminals} {c : Condition} → Reads unary k c rest → Reads unary (Operator op.Subtract ∷ k) (tree.Prefix prefix.Minus c) rest
    flip : {k rest : Terminals} {c : Condition} → Reads unary k c rest → Reads unary (Sign Tilde ∷ k) (tree.Prefix prefix.Flip c) rest
    bare : {k rest : Terminals} {c : Condition} → Reads primary k c rest → Reads unary k c rest
    -- primary = "(" or ")" / NUMBER / TEXT / "true" / "false" / "filesize"; brackets give no node
    brackets : {k rest : Terminals} {c : Condition} → Reads (level levels.Or) k c (Sign Close ∷ rest) → Reads primary (Sign Open ∷ k) c rest
    number : {n : ℤ} {rest : Terminals} → Reads primary (Number n ∷ rest) (tree.Number n) rest
    text : {t : List ℕ} {rest : Terminals} → Reads primary (Text t ∷ rest) (tree.Text t) rest
    truth : {b : Bool} {rest : Terminals} → Reads primary (Flag b ∷ rest) (tree.Flag b) rest
    file_size : {rest : Terminals} → Reads primary (Sign FileSize ∷ rest) tree.FileSize rest
    -- primary = reader "(" bits ")"
    reads : {r : Reader} {k rest : Terminals} {c : Condition} → Reads (level levels.Bits) k c (Sign Close ∷ rest)
        → Reads primary (Read r ∷ Sign Open ∷ k) (tree.Read r c) rest
    -- primary = COUNT ["in" range] / PLACE ["[" bits "]"] / LENGTH ["[" bits "]"]
    count : {w : List ℕ} {rest : Terminals} → Reads primary (CountName w ∷ rest) (tree.Count w) rest
    count_in : {w : List ℕ} {k rest : Terminals} {low high : Condition} → Ranges k low high rest
        → Reads primary (CountName w ∷ Sign In ∷ k) (tree.CountIn w low high) rest
    offset : {w : List ℕ} {rest : Terminals} → Reads primary (PlaceName w ∷ rest) (tree.Offset w) rest
    offset_at : {w : List ℕ} {k rest : Terminals} {c : Condition} → Reads (level levels.Bits) k c (Sign CloseBracket ∷ rest)
        → Reads primary (PlaceName w ∷ Sign OpenBracket ∷ k) (tree.OffsetAt w c) rest
    len : {w : List ℕ} {rest : Terminals} → Reads primary (LengthName w ∷ rest) (tree.Length w) rest
    len_at : {w : List ℕ} {k rest : Terminals} {c : Condition} → Reads (level levels.Bits) k c (Sign CloseBracket ∷ rest)
        → Reads primary (LengthName w ∷ Sign OpenBracket ∷ k) (tree.LengthAt w c) rest
    -- primary = path, where path = WORD ("." WORD / "[" bits "]" / "(" [bits ("," bits)*] ")")*
    path : {w : List ℕ} {k rest : Terminals} {ss : List OneStep} → ReadsSteps k ss rest
        → Reads primary (Word w ∷ k) (tree.Path (steps_of (tree.Name w ∷ ss))) rest

  -- one or more operators of a level, each with its right operand
  pub data Links : Level → Terminals → List OneLink → Terminals → Type 0 where
    last : {l : Level} {k rest : Terminals} {o : Infix} {c : Condition} → level_of o ≡ l → Reads (operand l) k c rest
        → Links l (Operator o ∷ k) (one_link o c ∷ []) rest
    next : {l : Level} {k more rest : Terminals} {o : Infix} {c : Condition} {links : List OneLink} → level_of o ≡ l → Reads (operand l) k c more
        → Links l more links rest → Links l (Operator o ∷ k) (one_link o c ∷ links) rest

  -- count = "all" / "any" / "none" / unary
  pub data Counts : Terminals → Asked → Terminals → Type 0 where
    every : {rest : Terminals} → Counts (Sign All ∷ rest) tree.All rest
    some : {rest : Terminals} → Counts (Sign Any ∷ rest) tree.Any rest
    none : {rest : Terminals} → Counts (Sign None ∷ rest) tree.Nil rest
    at_least : {k rest : Terminals} {c : Condition} → Reads unary k c rest → Counts k (tree.AtLeast c) rest

  -- quant = count / unary "%"
  pub data Quants : Terminals → Asked → Terminals → Type 0 where
    counts : {k rest : Terminals} {q : Asked} → Counts k q rest → Quants k q rest
    percent : {k rest : Terminals} {c : Condition} → Reads unary k c (Operator op.Remainder ∷ rest) → Quants k (tree.Percent c) rest

  -- ["at" bits / "in" range]
  pub data Places : Terminals → Where → Terminals → Type 0 where
    anywhere : {rest : Terminals} → Places rest tree.Anywhere rest
    at : {k rest : Terminals} {c : Condition} → Reads (level levels.Bits) k c rest → Places (Sign At ∷ k) (tree.At c) rest
    within : {k rest : Terminals} {low high : Condition} → Ranges k low high rest → Places (Sign In ∷ k) (tree.Within low high) rest

  -- range = "(" bits ".." bits ")"
  pub data Ranges : Terminals → (low high : Condition) → Terminals → Type 0 where
    from_to : {k more rest : Terminals} {c d : Condition} → Reads (level levels.Bits) k c (Sign DotDot ∷ more)
        → Reads (level levels.Bits) more d (Sign Close ∷ rest) → Ranges (Sign Open ∷ k) c d rest

  -- over = range / "(" bits ("," bits)* ")" / path
  pub data Overs : Terminals → Domain → Terminals → Type 0 where
    over_range : {k rest : Terminals} {low high : Condition} → Ranges k low high rest → Overs k (tree.OverRange low high) rest
    over_list : {k rest : Terminals} {cs : List Condition} → ReadsItems k cs (Sign Close ∷ rest) → Overs (Sign Open ∷ k) (tree.OverList (items_of cs)) rest
    over_path : {w : List ℕ} {k rest : Terminals} {ss : List OneStep} → ReadsSteps k ss rest
        → Overs (Word w ∷ k) (tree.OverPath (steps_of (tree.Name w ∷ ss))) rest

  -- bits ("," bits)*
  pub data ReadsItems : Terminals → List Condition → Terminals → Type 0 where
    one_item : {k rest : Terminals} {c : Condition} → Reads (level levels.Bits) k c rest → ReadsItems k (c ∷ []) rest
    item_then : {k more rest : Terminals} {c : Condition} {cs : List Condition} → Reads (level levels.Bits) k c (Sign Comma ∷ more)
        → ReadsItems more cs rest → ReadsItems k (c ∷ cs) rest

  -- ("." WORD / "[" bits "]" / "(" [bits ("," bits)*] ")")*
  pub data ReadsSteps : Terminals → List OneStep → Terminals → Type 0 where
    no_step : {rest : Terminals} → ReadsSteps rest [] rest
    name_step : {w : List ℕ} {k rest : Terminals} {ss : List OneStep} → ReadsSteps k ss rest
        → ReadsSteps (Sign Dot ∷ Word w ∷ k) (tree.Name w ∷ ss) rest
    index_step : {k more rest : Terminals} {c : Condition} {ss : List OneStep} → Reads (level levels.Bits) k c (Sign CloseBracket ∷ more)
        → ReadsSteps more ss rest → ReadsSteps (Sign OpenBracket ∷ k) (tree.Index c ∷ ss) rest
    empty_call : {k rest : Terminals} {ss : List OneStep} → ReadsSteps k ss rest
        → ReadsSteps (Sign Open ∷ Sign Close ∷ k) (tree.Call [] ∷ ss) rest
    call_step : {k more rest : Terminals} {cs : List Condition} {ss : List OneStep} → ReadsItems k cs (Sign Close ∷ more)
        → ReadsSteps more ss rest → ReadsSteps (Sign Open ∷ k) (tree.Call cs ∷ ss) rest
