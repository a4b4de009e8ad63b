-- Declarations that are read are in the grammar.
use Rattle.std.proofs.Common.{◌≡◌, ℕ, suc, Bool, true, false, List, [], ◌∷◌, length, Option, Some, None, if◌then◌else◌, refl, sym, subst}
use Rattle.std.specs.Prelude.{ℤ, pos, ◌-ℤ◌}
use Rattle.yr_syntax.specs.declared.operator.Infix.TheVariants as op
use Rattle.yr_syntax.specs.Condition.{Condition}
use Rattle.yr_syntax.specs.Declaration.{ModifierTree, BodyTree, StringTree, ValueTree, MetaTree, RuleTree, Declaration}
use Rattle.yr_syntax.specs.Declaration as tree
use Rattle.yr_parser.specs.declared.sign.Sign.TheVariants as sign
use Rattle.yr_parser.specs.declared.level.Level.TheVariants as levels
use Rattle.yr_parser.specs.declared.level.Entry.TheVariants as entries
use Rattle.yr_parser.specs.Terminals.{Terminals, Word, Number, Text, Regex, Hex, StringName, Flag, Operator, Sign}
use Rattle.yr_parser.specs.Levels.{level}
use Rattle.yr_parser.specs.Conditions.{Reads}
use Rattle.yr_parser.specs.Input.{Parser, and_then, ◌>>=◌, ◌<$>◌, pure, tail, sees, expect, many}
use Rattle.yr_parser.specs.Reading.{no_more, read_word, sees_operator, string_at, cond_at}
use Rattle.yr_parser.specs.Declarations.{Places, entry, Values, negative, truth, Metas, one_meta, meta_then, MetaPart, no_meta, metas, OneModifier, nocase, wide, ascii, fullword, hidden, xor_all, base64, base64_by, base64wide, base64wide_by, Modifiers, no_modifier, modifier_then, Bodies, regex, hex, Words, one_word, word_then, Tags, no_tag, tags, Flags, no_flag, global, private, global_private, private_global, OneString, string, Strings, string_then, StringPart, no_string, strings, OneRule, rule, OneDeclaration, import, a_rule}
use Rattle.yr_parser.specs.Declarations as grammar
use Rattle.yr_parser.specs.Ruling.{read_number, read_text, negative_value, read_value, read_meta, sees_word, next_meta, metas_from, meta_part, xor_range, xor_one, xor_by, xor_keys, xor_from, alphabet_text, alphabet_from, next_modifier, read_body_text, next_word, tags_from, read_tags, with_flags, global_flags, hidden_flags, private_flags, read_flags, string_from, read_string, next_string, next_string_by, strings_from, string_part, rule_condition, rule_from, read_rule, import_from, declaration_by, read_declaration}
use Rattle.yr_parser.proofs.Outcomes.{bind-some, done, sees-true, sees_operator-true, expect-then, eat-then, expect-end, Chain, nothing, onward, many-chain}
use Rattle.yr_parser.proofs.SetSound.{some_some, no_some, no_none, none_rest}
use Rattle.yr_parser.proofs.Sound.{word-then, cond_at-sound}

number-then : {A : Type 0} (f : ℤ → Parser A) (x : A × Terminals) (Q : Terminals → Type 0) → ((n : ℤ) (rest : Terminals) → f n rest ≡ Some x → Q (Number n ∷ rest))
    → (k : Terminals) → and_then (read_number k) f ≡ Some x → Q k
unfolding read_number
number-then f x Q go [] e = absurd cc
number-then f x Q go (Number n ∷ k) e = go n k e
number-then f x Q go (_ ∷ k) e = absurd cc

text-then : {A : Type 0} (f : List ℕ → Parser A) (x : A × Terminals) (Q : Terminals → Type 0) → ((t : List ℕ) (rest : Terminals) → f t rest ≡ Some x → Q (Text t ∷ rest))
    → (k : Terminals) → and_then (read_text k) f ≡ Some x → Q k
unfolding read_text
text-then f x Q go [] e = absurd cc
text-then f x Q go (Text t ∷ k) e = go t k e
text-then f x Q go (_ ∷ k) e = absurd cc

-- ---- meta

value-sound : (k : Terminals) (x : ValueTree × Terminals) → read_value k ≡ Some x → Values k x.0 x.1
unfolding read_value negative_value
value-sound [] x e = absurd cc
value-sound (Text t ∷ k) x e = done (Values (Text t ∷ k)) (tree.TextValue t) k x e grammar.text
value-sound (Number n ∷ k) x e = done (Values (Number n ∷ k)) (tree.NumberValue n) k x e grammar.number
value-sound (Flag b ∷ k) x e = done (Values (Flag b ∷ k)) (tree.FlagValue b) k x e truth
value-sound (Operator op.Subtract ∷ k) x e =
    number-then (λ n. pure (tree.NumberValue (pos 0 -ℤ n))) x (λ t. Values (Operator op.Subtract ∷ t) x.0 x.1)
    (λ n rest h. done (Values (Operator op.Subtract ∷ Number n ∷ rest)) (tree.NumberValue (pos 0 -ℤ n)) rest x h negative) k e
value-sound (_ ∷ k) x e = absurd cc

data MetaOne : Terminals → MetaTree → Terminals → Type 0 where
  entered : {w : List ℕ} {k rest : Terminals} {v : ValueTree} → Values k v rest → MetaOne (Word w ∷ Sign sign.Assign ∷ k) (entry w v) rest

meta-sound : (k : Terminals) (x : MetaTree × Terminals) → read_meta k ≡ Some x → MetaOne k x.0 x.1
unfolding read_meta
meta-sound k x e =
    word-then (λ w. expect sign.Assign >>= λ _. read_value >>= λ v. pure (entry w v)) x (λ t. MetaOne t x.0 x.1)
    (λ w. expect-then sign.Assign (read_value >>= λ v. pure (entry w v)) x (λ t. MetaOne (Word w ∷ t) x.0 x.1)
    (λ rest h.
    let a = bind-some (read_value rest) (λ v. pure (entry w v)) x h in
    done (MetaOne (Word w ∷ Sign sign.Assign ∷ rest)) (entry w a.0.0) a.0.1 x a.2 (entered (value-sound rest a.0 a.1)))) k e

-- one more of a list, where a word comes next
module _ {A : Type 0} (item : Parser A) (one : Terminals → A → Terminals → Type 0) (sound : (k : Terminals) (x : A × Terminals) → item k ≡ Some x → one k x.0 x.1) where
  by_word-reads : (k mid : Terminals) (a : A) (b : Bool) → (if b then Some <$> item else no_more) k ≡ Some (Some a, mid) → one k a mid
  by_word-reads k mid a true e =
      let b = bind-some (item k) (λ y. pure (Some y)) (Some a, mid) e in
      let s = some_some b.0.0 a b.0.1 mid b.2 in
      subst (λ (y : A). one k y mid) s.0 (subst (λ (t : Terminals). one k b.0.0 t) s.1 (sound k b.0 b.1))
  by_word-reads k mid a false e = no_some a k mid (one k a mid) e

  by_word-stops : (k mid : Terminals) (b : Bool) → (if b then Some <$> item else no_more) k ≡ Some (None, mid) → k ≡ mid
  by_word-stops k mid true e = let b = bind-some (item k) (λ y. pure (Some y)) (None, mid) e in no_none b.0.0 b.0.1 mid _ b.2
  by_word-stops k mid false e = none_rest k mid e

join_metas : {k mid rest : Terminals} {m : MetaTree} {ms : List MetaTree} → MetaOne k m mid → Chain MetaOne mid ms rest → Metas k (m ∷ ms) rest
join_metas (entered v) nothing = one_meta v
join_metas (entered v) (onward i c) = meta_then v (join_metas i c)

metas_from-sound : (k : Terminals) (x : List MetaTree × Terminals) → metas_from k ≡ Some x → MetaPart (Sign sign.Meta ∷ k) x.0 x.1
unfolding metas_from next_meta
metas_from-sound k x e =
    expect-then sign.Colon (read_meta >>= λ m. (λ k. many next_meta (length k) k) >>= λ ms. pure (m ∷ ms)) x (λ t. MetaPart (Sign sign.Meta ∷ t) x.0 x.1)
    (λ rest h.
    let a = bind-some (read_meta rest) (λ m. (λ k. many next_meta (length k) k) >>= λ ms. pure (m ∷ ms)) x h in
    let b = bind-some (many next_meta (length a.0.1) a.0.1) (λ ms. pure (a.0.0 ∷ ms)) x a.2 in
    let c = many-chain next_meta MetaOne (λ t mid y. by_word-reads read_meta MetaOne meta-sound t mid y (sees_word t))
    (λ t mid. by_word-stops read_meta MetaOne meta-sound t mid (sees_word t)) (length a.0.1) a.0.1 b.0 b.1 in
    done (MetaPart (Sign sign.Meta ∷ Sign sign.Colon ∷ rest)) (a.0.0 ∷ b.0.0) b.0.1 x b.2 (metas (join_metas (meta-sound rest a.0 a.1) c))) k e

meta_part-sound : (k : Terminals) (x : List MetaTree × Terminals) → meta_part k ≡ Some x → MetaPart k x.0 x.1
unfolding meta_part
meta_part-sound k x e =
    eat-then sign.Meta metas_from (pure []) x (λ t. MetaPart t x.0 x.1) (λ rest h. metas_from-sound rest x h) (λ rest h. done (MetaPart rest) [] rest x h no_meta) k e

-- ---- modifiers

xor-sound : (n : ℤ) (k : Terminals) (b : Bool) (x : ModifierTree × Terminals) → sees_operator op.Subtract k ≡ b → xor_by b n k ≡ Some x
    → OneModifier (Sign sign.Xor ∷ Sign sign.Open ∷ Number n ∷ k) x.0 x.1
unfolding xor_one xor_range
xor-sound n k false x is e =
    let h = expect-end sign.Close (tree.Xor n n) x k e in
    subst (λ (m : ModifierTree). OneModifier (Sign sign.Xor ∷ Sign sign.Open ∷ Number n ∷ k) m x.1) h.1
    (subst (λ (t : Terminals). OneModifier (Sign sign.Xor ∷ Sign sign.Open ∷ Number n ∷ t) (tree.Xor n n) x.1) (sym h.0) grammar.xor_one)
xor-sound n k true x is e =
    subst (λ (t : Terminals). OneModifier (Sign sign.Xor ∷ Sign sign.Open ∷ Number n ∷ t) x.0 x.1) (sym (sees_operator-true op.Subtract k is))
    (number-then (λ m. expect sign.Close >>= λ _. pure (tree.Xor n m)) x (λ t. OneModifier (Sign sign.Xor ∷ Sign sign.Open ∷ Number n ∷ Operator op.Subtract ∷ t) x.0 x.1)
    (λ m. expect-then sign.Close (pure (tree.Xor n m)) x (λ t. OneModifier (Sign sign.Xor ∷ Sign sign.Open ∷ Number n ∷ Operator op.Subtract ∷ Number m ∷ t) x.0 x.1)
    (λ rest h. done (OneModifier (Sign sign.Xor ∷ Sign sign.Open ∷ Number n ∷ Operator op.Subtract ∷ Number m ∷ Sign sign.Close ∷ rest)) (tree.Xor n m) rest x h grammar.xor_range))
    (tail k) e)

xor_from-sound : (k : Terminals) (x : ModifierTree × Terminals) → xor_from k ≡ Some x → OneModifier (Sign sign.Xor ∷ k) x.0 x.1
unfolding xor_from xor_keys
xor_from-sound k x e =
    eat-then sign.Open xor_keys (pure (tree.Xor (pos 0) (pos 255))) x (λ t. OneModifier (Sign sign.Xor ∷ t) x.0 x.1)
    (number-then (λ n k. xor_by (sees_operator op.Subtract k) n k) x (λ t. OneModifier (Sign sign.Xor ∷ Sign sign.Open ∷ t) x.0 x.1)
    (λ n rest h. xor-sound n rest (sees_operator op.Subtract rest) x refl h))
    (λ rest h. done (OneModifier (Sign sign.Xor ∷ rest)) (tree.Xor (pos 0) (pos 255)) rest x h xor_all) k e

-- an alphabet, if there is one
data Alphabet : Terminals → Option (List ℕ) → Terminals → Type 0 where
  by_default : {rest : Terminals} → Alphabet rest None rest
  given : {t : List ℕ} {rest : Terminals} → Alphabet (Sign sign.Open ∷ Text t ∷ Sign sign.Close ∷ rest) (Some t) rest

alphabet-sound : (k : Terminals) (x : Option (List ℕ) × Terminals) → alphabet_from k ≡ Some x → Alphabet k x.0 x.1
unfolding alphabet_from alphabet_text
alphabet-sound k x e =
    eat-then sign.Open alphabet_text (pure None) x (λ t. Alphabet t x.0 x.1)
    (text-then (λ t. expect sign.Close >>= λ _. pure (Some t)) x (λ t. Alphabet (Sign sign.Open ∷ t) x.0 x.1)
    (λ t. expect-then sign.Close (pure (Some t)) x (λ u. Alphabet (Sign sign.Open ∷ Text t ∷ u) x.0 x.1)
    (λ rest h. done (Alphabet (Sign sign.Open ∷ Text t ∷ Sign sign.Close ∷ rest)) (Some t) rest x h given)))
    (λ rest h. done (Alphabet rest) None rest x h by_default) k e

base64-one : {k rest : Terminals} {a : Option (List ℕ)} → Alphabet k a rest → OneModifier (Sign sign.Base64 ∷ k) (tree.Base64 a) rest
base64-one by_default = base64
base64-one given = base64_by

base64wide-one : {k rest : Terminals} {a : Option (List ℕ)} → Alphabet k a rest → OneModifier (Sign sign.Base64Wide ∷ k) (tree.Base64Wide a) rest
base64wide-one by_default = base64wide
base64wide-one given = base64wide_by

-- what an answer says
abbrev ModifierSays : Terminals → Option ModifierTree → Terminals → Type 0
ModifierSays k None mid = k ≡ mid
ModifierSays k (Some m) mid = OneModifier k m mid

modifier-sound : (k : Terminals) (x : Option ModifierTree × Terminals) → next_modifier k ≡ Some x → ModifierSays k x.0 x.1
unfolding next_modifier
modifier-sound [] x e = done (ModifierSays []) None [] x e refl
modifier-sound (Sign sign.NoCase ∷ k) x e = done (ModifierSays (Sign sign.NoCase ∷ k)) (Some tree.NoCase) k x e nocase
modifier-sound (Sign sign.Wide ∷ k) x e = done (ModifierSays (Sign sign.Wide ∷ k)) (Some tree.Wide) k x e wide
modifier-sound (Sign sign.Ascii ∷ k) x e = done (ModifierSays (Sign sign.Ascii ∷ k)) (Some tree.Ascii) k x e ascii
modifier-sound (Sign sign.FullWord ∷ k) x e = done (ModifierSays (Sign sign.FullWord ∷ k)) (Some tree.FullWord) k x e fullword
modifier-sound (Sign sign.Private ∷ k) x e = done (ModifierSays (Sign sign.Private ∷ k)) (Some tree.Hidden) k x e hidden
modifier-sound (Sign sign.Xor ∷ k) x e =
    let a = bind-some (xor_from k) (λ m. pure (Some m)) x e in
    done (ModifierSays (Sign sign.Xor ∷ k)) (Some a.0.0) a.0.1 x a.2 (xor_from-sound k a.0 a.1)
modifier-sound (Sign sign.Base64 ∷ k) x e =
    let a = bind-some (alphabet_from k) (λ a. pure (Some (tree.Base64 a))) x e in
    done (ModifierSays (Sign sign.Base64 ∷ k)) (Some (tree.Base64 a.0.0)) a.0.1 x a.2 (base64-one (alphabet-sound k a.0 a.1))
modifier-sound (Sign sign.Base64Wide ∷ k) x e =
    let a = bind-some (alphabet_from k) (λ a. pure (Some (tree.Base64Wide a))) x e in
    done (ModifierSays (Sign sign.Base64Wide ∷ k)) (Some (tree.Base64Wide a.0.0)) a.0.1 x a.2 (base64wide-one (alphabet-sound k a.0 a.1))
modifier-sound (t ∷ k) x e = done (ModifierSays (t ∷ k)) None (t ∷ k) x e refl

join_modifiers : {k rest : Terminals} {ms : List ModifierTree} → Chain OneModifier k ms rest → Modifiers k ms rest
join_modifiers nothing = no_modifier
join_modifiers (onward i c) = modifier_then i (join_modifiers c)

body-sound : (k : Terminals) (x : BodyTree × Terminals) → read_body_text k ≡ Some x → Bodies k x.0 x.1
unfolding read_body_text
body-sound [] x e = absurd cc
body-sound (Text t ∷ k) x e = done (Bodies (Text t ∷ k)) (tree.Text t) k x e grammar.text
body-sound (Regex r ∷ k) x e = done (Bodies (Regex r ∷ k)) (tree.Regex r) k x e regex
body-sound (Hex t ∷ k) x e = done (Bodies (Hex t ∷ k)) (tree.Hex t) k x e hex
body-sound (_ ∷ k) x e = absurd cc

-- ---- tags and flags

data WordOne : Terminals → List ℕ → Terminals → Type 0 where
  worded : {w : List ℕ} {rest : Terminals} → WordOne (Word w ∷ rest) w rest

word-sound : (k : Terminals) (x : List ℕ × Terminals) → read_word k ≡ Some x → WordOne k x.0 x.1
unfolding read_word
word-sound [] x e = absurd cc
word-sound (Word w ∷ k) x e = done (WordOne (Word w ∷ k)) w k x e worded
word-sound (_ ∷ k) x e = absurd cc

join_words : {k mid rest : Terminals} {w : List ℕ} {ws : List (List ℕ)} → WordOne k w mid → Chain WordOne mid ws rest → Words k (w ∷ ws) rest
join_words worded nothing = one_word
join_words worded (onward i c) = word_then (join_words i c)

tags-sound : (k : Terminals) (x : List (List ℕ) × Terminals) → read_tags k ≡ Some x → Tags k x.0 x.1
unfolding read_tags tags_from next_word
tags-sound k x e =
    eat-then sign.Colon tags_from (pure []) x (λ t. Tags t x.0 x.1)
    (λ rest h.
    let a = bind-some (read_word rest) (λ w. (λ k. many next_word (length k) k) >>= λ ws. pure (w ∷ ws)) x h in
    let b = bind-some (many next_word (length a.0.1) a.0.1) (λ ws. pure (a.0.0 ∷ ws)) x a.2 in
    let c = many-chain next_word WordOne (λ t mid y. by_word-reads read_word WordOne word-sound t mid y (sees_word t))
    (λ t mid. by_word-stops read_word WordOne word-sound t mid (sees_word t)) (length a.0.1) a.0.1 b.0 b.1 in
    done (Tags (Sign sign.Colon ∷ rest)) (a.0.0 ∷ b.0.0) b.0.1 x b.2 (tags (join_words (word-sound rest a.0 a.1) c)))
    (λ rest h. done (Tags rest) [] rest x h no_tag) k e

abbrev FlagsAre : Terminals → Bool × Bool → Terminals → Type 0
FlagsAre k f rest = Flags k f.0 f.1 rest

flags-sound : (k : Terminals) (x : (Bool × Bool) × Terminals) → read_flags k ≡ Some x → FlagsAre k x.0 x.1
unfolding read_flags global_flags private_flags hidden_flags
flags-sound k x e =
    eat-then sign.Global global_flags private_flags x (λ t. FlagsAre t x.0 x.1)
    (eat-then sign.Private (with_flags true true) (with_flags true false) x (λ t. FlagsAre (Sign sign.Global ∷ t) x.0 x.1)
    (λ rest h. done (FlagsAre (Sign sign.Global ∷ Sign sign.Private ∷ rest)) (true, true) rest x h global_private)
    (λ rest h. done (FlagsAre (Sign sign.Global ∷ rest)) (true, false) rest x h global))
    (eat-then sign.Private hidden_flags (with_flags false false) x (λ t. FlagsAre t x.0 x.1)
    (eat-then sign.Global (with_flags true true) (with_flags false true) x (λ t. FlagsAre (Sign sign.Private ∷ t) x.0 x.1)
    (λ rest h. done (FlagsAre (Sign sign.Private ∷ Sign sign.Global ∷ rest)) (true, true) rest x h private_global)
    (λ rest h. done (FlagsAre (Sign sign.Private ∷ rest)) (false, true) rest x h private))
    (λ rest h. done (FlagsAre rest) (false, false) rest x h no_flag)) k e

-- ---- strings

module _ (places : Places) where
  abbrev with_string : ℕ → List ℕ → BodyTree → List ModifierTree → StringTree
  with_string line w b ms = record { name = w; body = b; modifiers = ms; line = line }

  string_from-sound : (w : List ℕ) (k : Terminals) (x : StringTree × Terminals) → string_from places (places.line (length (StringName w ∷ k))) w k ≡ Some x
      → OneString places (StringName w ∷ k) x.0 x.1
  unfolding string_from
  string_from-sound w k x e =
      expect-then sign.Assign (read_body_text >>= λ b. (λ k. many next_modifier (length k) k) >>= λ ms. pure (with_string (places.line (length (StringName w ∷ k))) w b ms)) x
      (λ t. length t ≡ length k → OneString places (StringName w ∷ t) x.0 x.1)
      (λ rest h same.
      let line = places.line (length (StringName w ∷ k)) in
      let a = bind-some (read_body_text rest) (λ b. (λ k. many next_modifier (length k) k) >>= λ ms. pure (with_string line w b ms)) x h in
      let b = bind-some (many next_modifier (length a.0.1) a.0.1) (λ ms. pure (with_string line w a.0.0 ms)) x a.2 in
      let c = many-chain next_modifier OneModifier (λ t mid y h. modifier-sound t (Some y, mid) h) (λ t mid h. modifier-sound t (None, mid) h) (length a.0.1) a.0.1 b.0 b.1 in
      done (OneString places (StringName w ∷ Sign sign.Assign ∷ rest)) (with_string line w a.0.0 b.0.0) b.0.1 x b.2
      (subst (λ (n : ℕ). OneString places (StringName w ∷ Sign sign.Assign ∷ rest) (with_string (places.line (suc n)) w a.0.0 b.0.0) b.0.1) same
      (string (body-sound rest a.0 a.1) (join_modifiers c)))) k e refl

  string-sound : (k : Terminals) (x : StringTree × Terminals) → read_string places k ≡ Some x → OneString places k x.0 x.1
  unfolding read_string string_at
  string-sound [] x e = absurd cc
  string-sound (StringName w ∷ k) x e = string_from-sound w k x e
  string-sound (_ ∷ k) x e = absurd cc

  next_by-reads : (k mid : Terminals) (a : StringTree) (o : Option (List ℕ)) → next_string_by places o k ≡ Some (Some a, mid) → OneString places k a mid
  next_by-reads k mid a None e = no_some a k mid (OneString places k a mid) e
  next_by-reads k mid a (Some w) e =
      let b = bind-some (read_string places k) (λ s. pure (Some s)) (Some a, mid) e in
      let s = some_some b.0.0 a b.0.1 mid b.2 in
      subst (λ (y : StringTree). OneString places k y mid) s.0 (subst (λ (t : Terminals). OneString places k b.0.0 t) s.1 (string-sound k b.0 b.1))

  next_by-stops : (k mid : Terminals) (o : Option (List ℕ)) → next_string_by places o k ≡ Some (None, mid) → k ≡ mid
  next_by-stops k mid None e = none_rest k mid e
  next_by-stops k mid (Some w) e = let b = bind-some (read_string places k) (λ s. pure (Some s)) (None, mid) e in no_none b.0.0 b.0.1 mid _ b.2

  join_strings : {k mid rest : Terminals} {s : StringTree} {ss : List StringTree} → OneString places k s mid → Chain (OneString places) mid ss rest → Strings places k (s ∷ ss) rest
  join_strings i nothing = grammar.one_string i
  join_strings i (onward j c) = string_then i (join_strings j c)

  strings_from-sound : (k : Terminals) (x : List StringTree × Terminals) → strings_from places k ≡ Some x → StringPart places (Sign sign.Strings ∷ k) x.0 x.1
  unfolding strings_from next_string
  strings_from-sound k x e =
      expect-then sign.Colon (read_string places >>= λ s. (λ k. many (next_string places) (length k) k) >>= λ ss. pure (s ∷ ss)) x (λ t. StringPart places (Sign sign.Strings ∷ t) x.0 x.1)
      (λ rest h.
      let a = bind-some (read_string places rest) (λ s. (λ k. many (next_string places) (length k) k) >>= λ ss. pure (s ∷ ss)) x h in
      let b = bind-some (many (next_string places) (length a.0.1) a.0.1) (λ ss. pure (a.0.0 ∷ ss)) x a.2 in
      let c = many-chain (next_string places) (OneString places) (λ t mid y h. next_by-reads t mid y (string_at t) h) (λ t mid h. next_by-stops t mid (string_at t) h) (length a.0.1) a.0.1 b.0 b.1 in
      done (StringPart places (Sign sign.Strings ∷ Sign sign.Colon ∷ rest)) (a.0.0 ∷ b.0.0) b.0.1 x b.2 (strings (join_strings (string-sound rest a.0 a.1) c))) k e

  string_part-sound : (k : Terminals) (x : List StringTree × Terminals) → string_part places k ≡ Some x → StringPart places k x.0 x.1
  unfolding string_part
  string_part-sound k x e =
      eat-then sign.Strings (strings_from places) (pure []) x (λ t. StringPart places t x.0 x.1) (λ rest h. strings_from-sound rest x h)
      (λ rest h. done (StringPart places rest) [] rest x h no_string) k e

  -- ---- rules

  -- `condition:`, a condition and the brace
  record Condition' (k : Terminals) (c : Condition) (rest : Terminals) : Type 0 where
    from : Terminals
    begins : k ≡ Sign sign.Condition ∷ Sign sign.Colon ∷ from
    condition : Reads (level levels.Or) from c (Sign sign.CloseBrace ∷ rest)

  condition-sound : (d : ℕ) (k : Terminals) (x : Condition × Terminals) → rule_condition places d k ≡ Some x → Condition' k x.0 x.1
  unfolding rule_condition
  condition-sound d k x e =
      expect-then sign.Condition (expect sign.Colon >>= λ _. cond_at d entries.Or >>= λ c. expect sign.CloseBrace >>= λ _. pure c) x (λ t. Condition' t x.0 x.1)
      (expect-then sign.Colon (cond_at d entries.Or >>= λ c. expect sign.CloseBrace >>= λ _. pure c) x (λ t. Condition' (Sign sign.Condition ∷ t) x.0 x.1)
      (λ rest h.
      let a = bind-some (cond_at d entries.Or rest) (λ c. expect sign.CloseBrace >>= λ _. pure c) x h in
      let b = expect-end sign.CloseBrace a.0.0 x a.0.1 a.2 in
      record {
        from = rest;
        begins = refl;
        condition = subst (λ (c : Condition). Reads (level levels.Or) rest c (Sign sign.CloseBrace ∷ x.1)) b.1
            (subst (λ (t : Terminals). Reads (level levels.Or) rest a.0.0 t) b.0 (cond_at-sound d entries.Or rest a.0 a.1));
      })) k e

  abbrev with_rule : (file line : ℕ) → Bool × Bool → List ℕ → List (List ℕ) → List MetaTree → List StringTree → Condition → RuleTree
  with_rule file line flags w ts ms ss c =
      record { name = w; global = flags.0; hidden = flags.1; tags = ts; meta = ms; strings = ss; condition = c; file = file; line = line }

  rule_from-sound : (d : ℕ) (k k1 : Terminals) (f : Bool × Bool) (x : RuleTree × Terminals) → FlagsAre k f k1
      → rule_from places d (places.file (length k)) (places.line (length k)) f k1 ≡ Some x → OneRule places k x.0 x.1
  unfolding rule_from
  rule_from-sound d k k1 f x r e =
      let file = places.file (length k) in
      let line = places.line (length k) in
      expect-then sign.Rule _ x (λ t. FlagsAre k f t → OneRule places k x.0 x.1)
      (word-then (λ w. read_tags >>= λ ts. expect sign.OpenBrace >>= λ _. meta_part >>= λ ms. string_part places >>= λ ss. rule_condition places d >>= λ c. pure (with_rule file line f w ts ms ss c)) x
      (λ t. FlagsAre k f (Sign sign.Rule ∷ t) → OneRule places k x.0 x.1)
      (λ w k2 h r'.
      let a = bind-some (read_tags k2) (λ ts. expect sign.OpenBrace >>= λ _. meta_part >>= λ ms. string_part places >>= λ ss. rule_condition places d >>= λ c. pure (with_rule file line f w ts ms ss c)) x h in
      expect-then sign.OpenBrace (meta_part >>= λ ms. string_part places >>= λ ss. rule_condition places d >>= λ c. pure (with_rule file line f w a.0.0 ms ss c)) x
      (λ t. Tags k2 a.0.0 t → OneRule places k x.0 x.1)
      (λ k3 h' t.
      let b = bind-some (meta_part k3) (λ ms. string_part places >>= λ ss. rule_condition places d >>= λ c. pure (with_rule file line f w a.0.0 ms ss c)) x h' in
      let s = bind-some (string_part places b.0.1) (λ ss. rule_condition places d >>= λ c. pure (with_rule file line f w a.0.0 b.0.0 ss c)) x b.2 in
      let n = bind-some (rule_condition places d s.0.1) (λ c. pure (with_rule file line f w a.0.0 b.0.0 s.0.0 c)) x s.2 in
      let q = condition-sound d s.0.1 n.0 n.1 in
      done (OneRule places k) (with_rule file line f w a.0.0 b.0.0 s.0.0 n.0.0) n.0.1 x n.2
      (rule r' t (meta_part-sound k3 b.0 b.1) (subst (λ (u : Terminals). StringPart places b.0.1 s.0.0 u) q.begins (string_part-sound b.0.1 s.0 s.1)) q.condition))
      a.0.1 a.2 (tags-sound k2 a.0 a.1))) k1 e r

  rule-sound : (d : ℕ) (k : Terminals) (x : RuleTree × Terminals) → read_rule places d k ≡ Some x → OneRule places k x.0 x.1
  unfolding read_rule
  rule-sound d k x e =
      let a = bind-some (read_flags k) (rule_from places d (places.file (length k)) (places.line (length k))) x e in
      rule_from-sound d k a.0.1 a.0.0 x (flags-sound k a.0 a.1) a.2

  import-sound : (k : Terminals) (x : Declaration × Terminals) → import_from places (places.file (length (Sign sign.Import ∷ k))) (places.line (length (Sign sign.Import ∷ k))) k ≡ Some x
      → OneDeclaration places (Sign sign.Import ∷ k) x.0 x.1
  unfolding import_from
  import-sound k x e =
      text-then (λ t. pure (tree.Import t (places.file (length (Sign sign.Import ∷ k))) (places.line (length (Sign sign.Import ∷ k))))) x
      (λ u. length u ≡ length k → OneDeclaration places (Sign sign.Import ∷ u) x.0 x.1)
      (λ t rest h same.
      done (OneDeclaration places (Sign sign.Import ∷ Text t ∷ rest)) (tree.Import t (places.file (length (Sign sign.Import ∷ k))) (places.line (length (Sign sign.Import ∷ k)))) rest x h
      (subst (λ (n : ℕ). OneDeclaration places (Sign sign.Import ∷ Text t ∷ rest) (tree.Import t (places.file (suc n)) (places.line (suc n))) rest) same import)) k e refl

  by-sound : (d : ℕ) (k : Terminals) (x : Declaration × Terminals) (b : Bool) → sees sign.Import k ≡ b → declaration_by places b d k ≡ Some x → OneDeclaration places k x.0 x.1
  by-sound d k x true is e =
      let same = sees-true sign.Import k is in
      subst (λ (t : Terminals). OneDeclaration places t x.0 x.1) (sym same)
      (import-sound (tail k) x (subst (λ (t : Terminals). import_from places (places.file (length t)) (places.line (length t)) (tail k) ≡ Some x) same e))
  by-sound d k x false is e =
      let a = bind-some (read_rule places d k) (λ r. pure (tree.Rule r)) x e in
      done (OneDeclaration places k) (tree.Rule a.0.0) a.0.1 x a.2 (a_rule (rule-sound d k a.0 a.1))

  pub declaration-sound : (d : ℕ) (k : Terminals) (x : Declaration × Terminals) → read_declaration places d k ≡ Some x → OneDeclaration places k x.0 x.1
  unfolding read_declaration
  declaration-sound d k x e = by-sound d k x (sees sign.Import k) refl e
