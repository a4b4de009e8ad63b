-- The grammar of declarations ('Writing YARA rules'). Each relation says that the terminals k begin with the part, that its tree is the
-- one given, and that the terminals rest follow it. There is one case for each alternative.
use Rattle.std.specs.Prelude.{ℕ, ℤ, pos, ◌-ℤ◌, Bool, true, false, List, [], ◌∷◌, length, Some, None}
use Rattle.yr_syntax.specs.declared.operator.Infix.TheVariants as op
use Rattle.yr_syntax.specs.Condition.{Condition, RegexTree}
use Rattle.yr_syntax.specs.Declaration.{ModifierTree, BodyTree, StringTree, ValueTree, MetaTree, RuleTree, Declaration}
use Rattle.yr_syntax.specs.Declaration as tree
use Rattle.yr_parser.specs.declared.sign.Sign.TheVariants as sign
use Rattle.yr_parser.specs.declared.level.Level.TheVariants as levels
use Rattle.yr_parser.specs.Terminals.{Terminals, Word, Number, Text, Regex, Hex, StringName, Flag, Operator, Sign}
use Rattle.yr_parser.specs.Levels.{level}
use Rattle.yr_parser.specs.Conditions.{Reads}
use Rattle.yr_parser.specs.Depth.{IsTooDeep}

-- where a token stands: its file and its line, by the number of tokens from it to the end
pub record Places : Type 0 where
  pub file : ℕ → ℕ
  pub line : ℕ → ℕ

-- TEXT / NUMBER / "-" NUMBER / "true" / "false"
pub data Values : Terminals → ValueTree → Terminals → Type 0 where
  text : {t : List ℕ} {rest : Terminals} → Values (Text t ∷ rest) (tree.TextValue t) rest
  number : {n : ℤ} {rest : Terminals} → Values (Number n ∷ rest) (tree.NumberValue n) rest
  negative : {n : ℤ} {rest : Terminals} → Values (Operator op.Subtract ∷ Number n ∷ rest) (tree.NumberValue (pos 0 -ℤ n)) rest
  truth : {b : Bool} {rest : Terminals} → Values (Flag b ∷ rest) (tree.FlagValue b) rest

abbrev pub entry : List ℕ → ValueTree → MetaTree
entry w v = record { key = w; value = v }

-- meta meta*, where meta = WORD "=" value
pub data Metas : Terminals → List MetaTree → Terminals → Type 0 where
  one_meta : {w : List ℕ} {k rest : Terminals} {v : ValueTree} → Values k v rest → Metas (Word w ∷ Sign sign.Assign ∷ k) (entry w v ∷ []) rest
  meta_then : {w : List ℕ} {k more rest : Terminals} {v : ValueTree} {ms : List MetaTree} → Values k v more → Metas more ms rest
      → Metas (Word w ∷ Sign sign.Assign ∷ k) (entry w v ∷ ms) rest

-- ["meta" ":" meta meta*]
pub data MetaPart : Terminals → List MetaTree → Terminals → Type 0 where
  no_meta : {rest : Terminals} → MetaPart rest [] rest
  metas : {k rest : Terminals} {ms : List MetaTree} → Metas k ms rest → MetaPart (Sign sign.Meta ∷ Sign sign.Colon ∷ k) ms rest

-- one modifier
pub data OneModifier : Terminals → ModifierTree → Terminals → Type 0 where
  nocase : {rest : Terminals} → OneModifier (Sign sign.NoCase ∷ rest) tree.NoCase rest
  wide : {rest : Terminals} → OneModifier (Sign sign.Wide ∷ rest) tree.Wide rest
  ascii : {rest : Terminals} → OneModifier (Sign sign.Ascii ∷ rest) tree.Ascii rest
  fullword : {rest : Terminals} → OneModifier (Sign sign.FullWord ∷ rest) tree.FullWord rest
  hidden : {rest : Terminals} → OneModifier (Sign sign.Private ∷ rest) tree.Hidden rest
  -- "xor" ["(" NUMBER ["-" NUMBER] ")"]
  xor_all : {rest : Terminals} → OneModifier (Sign sign.Xor ∷ rest) (tree.Xor (pos 0) (pos 255)) rest
  xor_one : {n : ℤ} {rest : Terminals} → OneModifier (Sign sign.Xor ∷ Sign sign.Open ∷ Number n ∷ Sign sign.Close ∷ rest) (tree.Xor n n) rest
  xor_range : {n m : ℤ} {rest : Terminals}
      → OneModifier (Sign sign.Xor ∷ Sign sign.Open ∷ Number n ∷ Operator op.Subtract ∷ Number m ∷ Sign sign.Close ∷ rest) (tree.Xor n m) rest
  -- ("base64" / "base64wide") ["(" TEXT ")"]
  base64 : {rest : Terminals} → OneModifier (Sign sign.Base64 ∷ rest) (tree.Base64 None) rest
  base64_by : {t : List ℕ} {rest : Terminals}
      → OneModifier (Sign sign.Base64 ∷ Sign sign.Open ∷ Text t ∷ Sign sign.Close ∷ rest) (tree.Base64 (Some t)) rest
  base64wide : {rest : Terminals} → OneModifier (Sign sign.Base64Wide ∷ rest) (tree.Base64Wide None) rest
  base64wide_by : {t : List ℕ} {rest : Terminals}
      → OneModifier (Sign sign.Base64Wide ∷ Sign sign.Open ∷ Text t ∷ Sign sign.Close ∷ rest) (tree.Base64Wide (Some t)) rest

-- modifier*
pub data Modifiers : Terminals → List ModifierTree → Terminals → Type 0 where
  no_modifier : {rest : Terminals} → Modifiers rest [] rest
  modifier_then : {k more rest : Terminals} {m : ModifierTree} {ms : List ModifierTree} → OneModifier k m more → Modifiers more ms rest → Modifiers k (m ∷ ms) rest

-- TEXT / REGEX / HEX
pub data Bodies : Terminals → BodyTree → Terminals → Type 0 where
  text : {t : List ℕ} {rest : Terminals} → Bodies (Text t ∷ rest) (tree.Text t) rest
  regex : {r : RegexTree} {rest : Terminals} → Bodies (Regex r ∷ rest) (tree.Regex r) rest
  hex : {t : List ℕ} {rest : Terminals} → Bodies (Hex t ∷ rest) (tree.Hex t) rest

-- WORD WORD*
pub data Words : Terminals → List (List ℕ) → Terminals → Type 0 where
  one_word : {w : List ℕ} {rest : Terminals} → Words (Word w ∷ rest) (w ∷ []) rest
  word_then : {w : List ℕ} {k rest : Terminals} {ws : List (List ℕ)} → Words k ws rest → Words (Word w ∷ k) (w ∷ ws) rest

-- [":" WORD WORD*]
pub data Tags : Terminals → List (List ℕ) → Terminals → Type 0 where
  no_tag : {rest : Terminals} → Tags rest [] rest
  tags : {k rest : Terminals} {ws : List (List ℕ)} → Words k ws rest → Tags (Sign sign.Colon ∷ k) ws rest

-- nothing / "global" / "private" / "global" "private" / "private" "global"
pub data Flags : Terminals → (global hidden : Bool) → Terminals → Type 0 where
  no_flag : {rest : Terminals} → Flags rest false false rest
  global : {rest : Terminals} → Flags (Sign sign.Global ∷ rest) true false rest
  private : {rest : Terminals} → Flags (Sign sign.Private ∷ rest) false true rest
  global_private : {rest : Terminals} → Flags (Sign sign.Global ∷ Sign sign.Private ∷ rest) true true rest
  private_global : {rest : Terminals} → Flags (Sign sign.Private ∷ Sign sign.Global ∷ rest) true true rest

-- STRING "=" (TEXT / REGEX / HEX) modifier*
pub data OneString (places : Places) : Terminals → StringTree → Terminals → Type 0 where
  string : {w : List ℕ} {k more rest : Terminals} {b : BodyTree} {ms : List ModifierTree} → Bodies k b more → Modifiers more ms rest
      → OneString places (StringName w ∷ Sign sign.Assign ∷ k)
      (record { name = w; body = b; modifiers = ms; line = places.line (length (StringName w ∷ Sign sign.Assign ∷ k)) }) rest

-- string string*
pub data Strings (places : Places) : Terminals → List StringTree → Terminals → Type 0 where
  one_string : {k rest : Terminals} {s : StringTree} → OneString places k s rest → Strings places k (s ∷ []) rest
  string_then : {k more rest : Terminals} {s : StringTree} {ss : List StringTree} → OneString places k s more → Strings places more ss rest
      → Strings places k (s ∷ ss) rest

-- ["strings" ":" string string*]
pub data StringPart (places : Places) : Terminals → List StringTree → Terminals → Type 0 where
  no_string : {rest : Terminals} → StringPart places rest [] rest
  strings : {k rest : Terminals} {ss : List StringTree} → Strings places k ss rest → StringPart places (Sign sign.Strings ∷ Sign sign.Colon ∷ k) ss rest

-- rule = flags "rule" WORD tags "{" meta strings "condition" ":" or "}"
pub data OneRule (places : Places) : Terminals → RuleTree → Terminals → Type 0 where
  rule : {k named tagged described listed rest : Terminals} {g p : Bool} {w : List ℕ} {ts : List (List ℕ)} {ms : List MetaTree} {ss : List StringTree} {c : Condition}
      → Flags k g p (Sign sign.Rule ∷ Word w ∷ named) → Tags named ts (Sign sign.OpenBrace ∷ tagged) → MetaPart tagged ms described
      → StringPart places described ss (Sign sign.Condition ∷ Sign sign.Colon ∷ listed) → Reads (level levels.Or) listed c (Sign sign.CloseBrace ∷ rest)
      → OneRule places k
      (record { name = w; global = g; hidden = p; tags = ts; meta = ms; strings = ss; condition = c; file = places.file (length k); line = places.line (length k) })
      rest

-- import = "import" TEXT
pub data OneDeclaration (places : Places) : Terminals → Declaration → Terminals → Type 0 where
  import : {t : List ℕ} {rest : Terminals} → OneDeclaration places (Sign sign.Import ∷ Text t ∷ rest)
      (tree.Import t (places.file (length (Sign sign.Import ∷ Text t ∷ rest))) (places.line (length (Sign sign.Import ∷ Text t ∷ rest)))) rest
  a_rule : {k rest : Terminals} {r : RuleTree} → OneRule places k r rest → OneDeclaration places k (tree.Rule r) rest

-- (import / rule)*, up to the terminals rest, where nothing nests too deep
pub data ReadsDeclarations (places : Places) : Terminals → List Declaration → Terminals → Type 0 where
  end : {k : Terminals} → ReadsDeclarations places k [] k
  declaration_then : {k more rest : Terminals} {d : Declaration} {ds : List Declaration} → ¬ IsTooDeep k → OneDeclaration places k d more
      → ReadsDeclarations places more ds rest → ReadsDeclarations places k (d ∷ ds) rest

-- the terminals spell the declarations
abbrev pub Spells : Places → Terminals → List Declaration → Type 0
Spells places k ds = ReadsDeclarations places k ds []
