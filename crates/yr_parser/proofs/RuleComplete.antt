-- Declarations of the grammar are read.
use Rattle.std.proofs.Common.{◌≡◌, ℕ, zero, suc, ◌<◌, ◌≤◌, Bool, true, false, List, [], ◌∷◌, length, Some, None, refl, sym, subst, ap, ◌∙◌, arith}
use Rattle.std.specs.Prelude.{pos}
use Rattle.yr_syntax.specs.Condition.{Condition}
use Rattle.yr_syntax.specs.Declaration.{ModifierTree, BodyTree, StringTree, ValueTree, MetaTree, RuleTree, Declaration}
use Rattle.yr_syntax.specs.Declaration as tree
use Rattle.yr_parser.specs.declared.sign.Sign.TheVariants as sign
use Rattle.yr_parser.specs.declared.level.Level.TheVariants as levels
use Rattle.yr_parser.specs.declared.level.Entry.TheVariants as entries
use Rattle.yr_parser.specs.Terminals.{Terminals, Word, StringName, Sign}
use Rattle.yr_parser.specs.Levels.{level}
use Rattle.yr_parser.specs.Conditions.{Reads}
use Rattle.yr_parser.specs.Shallow.{Shallow}
use Rattle.yr_parser.specs.Input.{◌>>=◌, pure, sees, after, same_sign, expect, many}
use Rattle.yr_parser.specs.Reading.{read_word, sees_operator, same_operator, string_at, cond_at}
use Rattle.yr_parser.specs.Declarations.{Places, entry, Values, negative, truth, Metas, one_meta, meta_then, MetaPart, no_meta, metas, OneModifier, nocase, wide, ascii, fullword, hidden, xor_all, base64, base64_by, base64wide, base64wide_by, Modifiers, no_modifier, modifier_then, Bodies, regex, hex, Words, one_word, word_then, Tags, no_tag, tags, Flags, no_flag, global, private, global_private, private_global, OneString, string, Strings, string_then, StringPart, no_string, strings, OneRule, rule, OneDeclaration, import, a_rule}
use Rattle.yr_parser.specs.Declarations as grammar
use Rattle.yr_parser.specs.Ruling.{read_number, read_text, negative_value, read_value, read_meta, sees_word, next_meta, metas_from, meta_part, xor_range, xor_one, xor_keys, xor_from, alphabet_text, alphabet_from, next_modifier, read_body_text, next_word, tags_from, read_tags, global_flags, hidden_flags, private_flags, read_flags, string_from, read_string, next_string, strings_from, string_part, rule_condition, rule_from, read_rule, import_from, declaration_by, read_declaration}
use Rattle.yr_parser.proofs.Outcomes.{bind, many-stop, many-more, eat-yes, eat-no, expect-on}
use Rattle.yr_parser.proofs.Shorter.{Reads-shorter}
use Rattle.yr_parser.proofs.Complete.{read-complete}

-- ---- what is left is shorter, and nests no deeper

Values-shorter : {k rest : Terminals} {v : ValueTree} → Values k v rest → length rest < length k
Values-shorter grammar.text = omega arith
Values-shorter grammar.number = omega arith
Values-shorter negative = omega arith
Values-shorter truth = omega arith

Metas-shorter : {k rest : Terminals} {v : List MetaTree} → Metas k v rest → length rest < length k
Metas-shorter (one_meta x0) = let h0 = Values-shorter x0 in omega arith
Metas-shorter (meta_then x0 x1) = let h0 = Values-shorter x0 in let h1 = Metas-shorter x1 in omega arith

MetaPart-shorter : {k rest : Terminals} {v : List MetaTree} → MetaPart k v rest → length rest ≤ length k
MetaPart-shorter no_meta = omega arith
MetaPart-shorter (metas x0) = let h0 = Metas-shorter x0 in omega arith

OneModifier-shorter : {k rest : Terminals} {v : ModifierTree} → OneModifier k v rest → length rest < length k
OneModifier-shorter nocase = omega arith
OneModifier-shorter wide = omega arith
OneModifier-shorter ascii = omega arith
OneModifier-shorter fullword = omega arith
OneModifier-shorter hidden = omega arith
OneModifier-shorter xor_all = omega arith
OneModifier-shorter grammar.xor_one = omega arith
OneModifier-shorter grammar.xor_range = omega arith
OneModifier-shorter base64 = omega arith
OneModifier-shorter base64_by = omega arith
OneModifier-shorter base64wide = omega arith
OneModifier-shorter base64wide_by = omega arith

Modifiers-shorter : {k rest : Terminals} {v : List ModifierTree} → Modifiers k v rest → length rest ≤ length k
Modifiers-shorter no_modifier = omega arith
Modifiers-shorter (modifier_then x0 x1) = let h0 = OneModifier-shorter x0 in let h1 = Modifiers-shorter x1 in omega arith

Bodies-shorter : {k rest : Terminals} {v : BodyTree} → Bodies k v rest → length rest < length k
Bodies-shorter grammar.text = omega arith
Bodies-shorter regex = omega arith
Bodies-shorter hex = omega arith

Words-shorter : {k rest : Terminals} {v : List (List ℕ)} → Words k v rest → length rest < length k
Words-shorter one_word = omega arith
Words-shorter (word_then x0) = let h0 = Words-shorter x0 in omega arith

Tags-shorter : {k rest : Terminals} {v : List (List ℕ)} → Tags k v rest → length rest ≤ length k
Tags-shorter no_tag = omega arith
Tags-shorter (tags x0) = let h0 = Words-shorter x0 in omega arith

Flags-shorter : {k rest : Terminals} {g p : Bool} → Flags k g p rest → length rest ≤ length k
Flags-shorter no_flag = omega arith
Flags-shorter global = omega arith
Flags-shorter private = omega arith
Flags-shorter global_private = omega arith
Flags-shorter private_global = omega arith

OneString-shorter : {places : Places} {k rest : Terminals} {v : StringTree} → OneString places k v rest → length rest < length k
OneString-shorter (string x0 x1) = let h0 = Bodies-shorter x0 in let h1 = Modifiers-shorter x1 in omega arith

Strings-shorter : {places : Places} {k rest : Terminals} {v : List StringTree} → Strings places k v rest → length rest < length k
Strings-shorter (grammar.one_string x0) = let h0 = OneString-shorter x0 in omega arith
Strings-shorter (string_then x0 x1) = let h0 = OneString-shorter x0 in let h1 = Strings-shorter x1 in omega arith

StringPart-shorter : {places : Places} {k rest : Terminals} {v : List StringTree} → StringPart places k v rest → length rest ≤ length k
StringPart-shorter no_string = omega arith
StringPart-shorter (strings x0) = let h0 = Strings-shorter x0 in omega arith

Values-shallow : {k rest : Terminals} {v : ValueTree} → Values k v rest → (m : ℕ) → Shallow m 0 k → Shallow m 0 rest
Values-shallow grammar.text m s = s.1
Values-shallow grammar.number m s = s.1
Values-shallow negative m s = s.1.1
Values-shallow truth m s = s.1

Metas-shallow : {k rest : Terminals} {v : List MetaTree} → Metas k v rest → (m : ℕ) → Shallow m 0 k → Shallow m 0 rest
Metas-shallow (one_meta x0) m s = Values-shallow x0 m s.1.1
Metas-shallow (meta_then x0 x1) m s = Metas-shallow x1 m (Values-shallow x0 m s.1.1)

pub MetaPart-shallow : {k rest : Terminals} {v : List MetaTree} → MetaPart k v rest → (m : ℕ) → Shallow m 0 k → Shallow m 0 rest
MetaPart-shallow no_meta m s = s
MetaPart-shallow (metas x0) m s = Metas-shallow x0 m s.1.1

OneModifier-shallow : {k rest : Terminals} {v : ModifierTree} → OneModifier k v rest → (m : ℕ) → Shallow m 0 k → Shallow m 0 rest
OneModifier-shallow nocase m s = s.1
OneModifier-shallow wide m s = s.1
OneModifier-shallow ascii m s = s.1
OneModifier-shallow fullword m s = s.1
OneModifier-shallow hidden m s = s.1
OneModifier-shallow xor_all m s = s.1
OneModifier-shallow grammar.xor_one m s = s.1.1.1.1
OneModifier-shallow grammar.xor_range m s = s.1.1.1.1.1.1
OneModifier-shallow base64 m s = s.1
OneModifier-shallow base64_by m s = s.1.1.1.1
OneModifier-shallow base64wide m s = s.1
OneModifier-shallow base64wide_by m s = s.1.1.1.1

Modifiers-shallow : {k rest : Terminals} {v : List ModifierTree} → Modifiers k v rest → (m : ℕ) → Shallow m 0 k → Shallow m 0 rest
Modifiers-shallow no_modifier m s = s
Modifiers-shallow (modifier_then x0 x1) m s = Modifiers-shallow x1 m (OneModifier-shallow x0 m s)

Bodies-shallow : {k rest : Terminals} {v : BodyTree} → Bodies k v rest → (m : ℕ) → Shallow m 0 k → Shallow m 0 rest
Bodies-shallow grammar.text m s = s.1
Bodies-shallow regex m s = s.1
Bodies-shallow hex m s = s.1

Words-shallow : {k rest : Terminals} {v : List (List ℕ)} → Words k v rest → (m : ℕ) → Shallow m 0 k → Shallow m 0 rest
Words-shallow one_word m s = s.1
Words-shallow (word_then x0) m s = Words-shallow x0 m s.1

pub Tags-shallow : {k rest : Terminals} {v : List (List ℕ)} → Tags k v rest → (m : ℕ) → Shallow m 0 k → Shallow m 0 rest
Tags-shallow no_tag m s = s
Tags-shallow (tags x0) m s = Words-shallow x0 m s.1

pub Flags-shallow : {k rest : Terminals} {g p : Bool} → Flags k g p rest → (m : ℕ) → Shallow m 0 k → Shallow m 0 rest
Flags-shallow no_flag m s = s
Flags-shallow global m s = s.1
Flags-shallow private m s = s.1
Flags-shallow global_private m s = s.1.1
Flags-shallow private_global m s = s.1.1

OneString-shallow : {places : Places} {k rest : Terminals} {v : StringTree} → OneString places k v rest → (m : ℕ) → Shallow m 0 k → Shallow m 0 rest
OneString-shallow (string x0 x1) m s = Modifiers-shallow x1 m (Bodies-shallow x0 m s.1.1)

Strings-shallow : {places : Places} {k rest : Terminals} {v : List StringTree} → Strings places k v rest → (m : ℕ) → Shallow m 0 k → Shallow m 0 rest
Strings-shallow (grammar.one_string x0) m s = OneString-shallow x0 m s
Strings-shallow (string_then x0 x1) m s = Strings-shallow x1 m (OneString-shallow x0 m s)

pub StringPart-shallow : {places : Places} {k rest : Terminals} {v : List StringTree} → StringPart places k v rest → (m : ℕ) → Shallow m 0 k → Shallow m 0 rest
StringPart-shallow no_string m s = s
StringPart-shallow (strings x0) m s = Strings-shallow x0 m s.1.1

-- ---- meta

value-complete : {k rest : Terminals} {v : ValueTree} → Values k v rest → read_value k ≡ Some (v, rest)
unfolding read_value negative_value read_number
value-complete grammar.text = refl
value-complete grammar.number = refl
value-complete negative = refl
value-complete truth = refl

meta-is : (w : List ℕ) (k rest : Terminals) (v : ValueTree) → Values k v rest → read_meta (Word w ∷ Sign sign.Assign ∷ k) ≡ Some (entry w v, rest)
unfolding read_meta read_word
meta-is w k rest v r = expect-on sign.Assign (read_value >>= λ v. pure (entry w v)) k ∙ bind (λ v. pure (entry w v)) (value-complete r)

next_meta-is : (w : List ℕ) (k rest : Terminals) (v : ValueTree) → Values k v rest → next_meta (Word w ∷ Sign sign.Assign ∷ k) ≡ Some (Some (entry w v), rest)
unfolding next_meta sees_word
next_meta-is w k rest v r = bind (λ m. pure (Some m)) (meta-is w k rest v r)

next_meta-none : (k : Terminals) → sees_word k ≡ false → next_meta k ≡ Some (None, k)
unfolding next_meta
next_meta-none k h = rw h refl

metas-many : {k rest : Terminals} {ms : List MetaTree} → Metas k ms rest → sees_word rest ≡ false → (n : ℕ) → length k ≤ n → many next_meta n k ≡ Some (ms, rest)
metas-many (one_meta v) h zero b = absurd (omega arith)
metas-many {rest = rest} (one_meta {w = w} {k = k} {v = x} v) h (suc n) b =
    many-more next_meta n (Word w ∷ Sign sign.Assign ∷ k) rest rest (entry w x) [] (next_meta-is w k rest x v) (many-stop next_meta n rest (next_meta-none rest h))
metas-many (meta_then v ms) h zero b = absurd (omega arith)
metas-many {rest = rest} (meta_then {w = w} {k = k} {more = more} {v = x} {ms = xs} v ms) h (suc n) b =
    let shorter = Values-shorter v in
    many-more next_meta n (Word w ∷ Sign sign.Assign ∷ k) more rest (entry w x) xs (next_meta-is w k more x v) (metas-many ms h n (omega arith))

metas_from-is : {k rest : Terminals} {ms : List MetaTree} → Metas k ms rest → sees_word rest ≡ false → metas_from (Sign sign.Colon ∷ k) ≡ Some (ms, rest)
unfolding metas_from
metas_from-is {rest = rest} (one_meta {w = w} {k = k} {v = x} v) h =
    expect-on sign.Colon (read_meta >>= λ m. (λ k. many next_meta (length k) k) >>= λ ms. pure (m ∷ ms)) (Word w ∷ Sign sign.Assign ∷ k)
    ∙ bind (λ m. (λ k. many next_meta (length k) k) >>= λ ms. pure (m ∷ ms)) (meta-is w k rest x v)
    ∙ bind (λ ms. pure (entry w x ∷ ms)) (many-stop next_meta (length rest) rest (next_meta-none rest h))
metas_from-is {rest = rest} (meta_then {w = w} {k = k} {more = more} {v = x} {ms = xs} v ms) h =
    expect-on sign.Colon (read_meta >>= λ m. (λ k. many next_meta (length k) k) >>= λ ms. pure (m ∷ ms)) (Word w ∷ Sign sign.Assign ∷ k)
    ∙ bind (λ m. (λ k. many next_meta (length k) k) >>= λ ms. pure (m ∷ ms)) (meta-is w k more x v)
    ∙ bind (λ ms. pure (entry w x ∷ ms)) (metas-many ms h (length more) (omega arith))

meta_part-complete : {k rest : Terminals} {ms : List MetaTree} → MetaPart k ms rest → sees_word rest ≡ false → sees sign.Meta rest ≡ false → meta_part k ≡ Some (ms, rest)
unfolding meta_part
meta_part-complete {rest = rest} no_meta h h' = eat-no sign.Meta metas_from (pure []) rest h'
meta_part-complete (metas {k = k} ms) h h' = eat-yes sign.Meta metas_from (pure []) (Sign sign.Colon ∷ k) ∙ metas_from-is ms h

-- ---- modifiers

-- no modifier goes on from here
record Ends (k : Terminals) : Type 0 where
  no_modifier_here : next_modifier k ≡ Some (None, k)
  no_open : sees sign.Open k ≡ false

modifier-no_open : {k rest : Terminals} {m : ModifierTree} → OneModifier k m rest → sees sign.Open k ≡ false
unfolding sees same_sign
modifier-no_open nocase = refl
modifier-no_open wide = refl
modifier-no_open ascii = refl
modifier-no_open fullword = refl
modifier-no_open hidden = refl
modifier-no_open xor_all = refl
modifier-no_open grammar.xor_one = refl
modifier-no_open grammar.xor_range = refl
modifier-no_open base64 = refl
modifier-no_open base64_by = refl
modifier-no_open base64wide = refl
modifier-no_open base64wide_by = refl

modifiers-no_open : {k rest : Terminals} {ms : List ModifierTree} → Modifiers k ms rest → sees sign.Open rest ≡ false → sees sign.Open k ≡ false
modifiers-no_open no_modifier h = h
modifiers-no_open (modifier_then m ms) h = modifier-no_open m

modifier-complete : {k rest : Terminals} {m : ModifierTree} → OneModifier k m rest → sees sign.Open rest ≡ false → next_modifier k ≡ Some (Some m, rest)
unfolding next_modifier xor_from xor_keys xor_one xor_range alphabet_from alphabet_text read_number read_text sees same_sign after expect sees_operator same_operator
modifier-complete nocase h = refl
modifier-complete wide h = refl
modifier-complete ascii h = refl
modifier-complete fullword h = refl
modifier-complete hidden h = refl
modifier-complete {rest = rest} xor_all h = bind (λ m. pure (Some m)) (eat-no sign.Open xor_keys (pure (tree.Xor (pos 0) (pos 255))) rest h)
modifier-complete grammar.xor_one h = refl
modifier-complete grammar.xor_range h = refl
modifier-complete {rest = rest} base64 h = bind (λ a. pure (Some (tree.Base64 a))) (eat-no sign.Open alphabet_text (pure None) rest h)
modifier-complete base64_by h = refl
modifier-complete {rest = rest} base64wide h = bind (λ a. pure (Some (tree.Base64Wide a))) (eat-no sign.Open alphabet_text (pure None) rest h)
modifier-complete base64wide_by h = refl

modifiers-many : {k rest : Terminals} {ms : List ModifierTree} → Modifiers k ms rest → Ends rest → (n : ℕ) → length k ≤ n → many next_modifier n k ≡ Some (ms, rest)
modifiers-many {rest = rest} no_modifier h n b = many-stop next_modifier n rest h.no_modifier_here
modifiers-many (modifier_then m ms) h zero b = let shorter = OneModifier-shorter m in absurd (omega arith)
modifiers-many {rest = rest} (modifier_then {k = k} {more = more} {m = x} {ms = xs} m ms) h (suc n) b =
    let shorter = OneModifier-shorter m in
    many-more next_modifier n k more rest x xs (modifier-complete m (modifiers-no_open ms h.no_open)) (modifiers-many ms h n (omega arith))

body-complete : {k rest : Terminals} {b : BodyTree} → Bodies k b rest → read_body_text k ≡ Some (b, rest)
unfolding read_body_text
body-complete grammar.text = refl
body-complete regex = refl
body-complete hex = refl

-- ---- tags and flags

next_word-is : (w : List ℕ) (k : Terminals) → next_word (Word w ∷ k) ≡ Some (Some w, k)
unfolding next_word sees_word read_word
next_word-is w k = refl

next_word-none : (k : Terminals) → sees_word k ≡ false → next_word k ≡ Some (None, k)
unfolding next_word
next_word-none k h = rw h refl

words-many : {k rest : Terminals} {ws : List (List ℕ)} → Words k ws rest → sees_word rest ≡ false → (n : ℕ) → length k ≤ n → many next_word n k ≡ Some (ws, rest)
words-many one_word h zero b = absurd (omega arith)
words-many {rest = rest} (one_word {w = w}) h (suc n) b = many-more next_word n (Word w ∷ rest) rest rest w [] (next_word-is w rest) (many-stop next_word n rest (next_word-none rest h))
words-many (word_then ws) h zero b = absurd (omega arith)
words-many {rest = rest} (word_then {w = w} {k = k} {ws = xs} ws) h (suc n) b =
    many-more next_word n (Word w ∷ k) k rest w xs (next_word-is w k) (words-many ws h n (omega arith))

tags_from-is : {k rest : Terminals} {ws : List (List ℕ)} → Words k ws rest → sees_word rest ≡ false → tags_from k ≡ Some (ws, rest)
unfolding tags_from read_word
tags_from-is {rest = rest} (one_word {w = w}) h = bind (λ ws. pure (w ∷ ws)) (many-stop next_word (length rest) rest (next_word-none rest h))
tags_from-is {rest = rest} (word_then {w = w} {k = k} {ws = xs} ws) h = bind (λ ws. pure (w ∷ ws)) (words-many ws h (length k) (omega arith))

brace-no_colon : (k : Terminals) → sees sign.Colon (Sign sign.OpenBrace ∷ k) ≡ false
unfolding sees same_sign
brace-no_colon k = refl

brace-no_word : (k : Terminals) → sees_word (Sign sign.OpenBrace ∷ k) ≡ false
unfolding sees_word
brace-no_word k = refl

tags-complete : {k rest : Terminals} {ws : List (List ℕ)} → Tags k ws rest → sees sign.Colon rest ≡ false → sees_word rest ≡ false → read_tags k ≡ Some (ws, rest)
unfolding read_tags
tags-complete {rest = rest} no_tag h h' = eat-no sign.Colon tags_from (pure []) rest h
tags-complete (tags {k = k} ws) h h' = eat-yes sign.Colon tags_from (pure []) k ∙ tags_from-is ws h'

rule-no_private : (k : Terminals) → sees sign.Private (Sign sign.Rule ∷ k) ≡ false
unfolding sees same_sign
rule-no_private k = refl

flags-are : {k t : Terminals} {g p : Bool} → Flags k g p t → (rest : Terminals) → t ≡ Sign sign.Rule ∷ rest → read_flags k ≡ Some ((g, p), t)
unfolding read_flags global_flags private_flags hidden_flags sees same_sign after
flags-are {t = t} no_flag rest e = subst (λ (u : Terminals). read_flags u ≡ Some ((false, false), u)) (sym e) refl
flags-are global rest e = subst (λ (u : Terminals). read_flags (Sign sign.Global ∷ u) ≡ Some ((true, false), u)) (sym e) refl
flags-are private rest e = subst (λ (u : Terminals). read_flags (Sign sign.Private ∷ u) ≡ Some ((false, true), u)) (sym e) refl
flags-are global_private rest e = refl
flags-are private_global rest e = refl

flags-no_import : {k t : Terminals} {g p : Bool} → Flags k g p t → (rest : Terminals) → t ≡ Sign sign.Rule ∷ rest → sees sign.Import k ≡ false
unfolding sees same_sign
flags-no_import no_flag rest e = subst (λ (u : Terminals). sees sign.Import u ≡ false) (sym e) refl
flags-no_import global rest e = refl
flags-no_import private rest e = refl
flags-no_import global_private rest e = refl
flags-no_import private_global rest e = refl

-- ---- strings

condition-ends : (k : Terminals) → Ends (Sign sign.Condition ∷ k)
unfolding next_modifier sees same_sign
condition-ends k = record { no_modifier_here = refl; no_open = refl }

name-ends : (w : List ℕ) (k : Terminals) → Ends (StringName w ∷ k)
unfolding next_modifier sees
name-ends w k = record { no_modifier_here = refl; no_open = refl }

module _ (places : Places) where
  abbrev with_string : ℕ → List ℕ → BodyTree → List ModifierTree → StringTree
  with_string line w b ms = record { name = w; body = b; modifiers = ms; line = line }

  string-complete : {k rest : Terminals} {s : StringTree} → OneString places k s rest → Ends rest → read_string places k ≡ Some (s, rest)
  unfolding read_string string_from string_at
  string-complete {rest = rest} (string {w = w} {k = k} {more = more} {b = b} {ms = ms} x y) h =
      let line = places.line (length (StringName w ∷ Sign sign.Assign ∷ k)) in
      expect-on sign.Assign (read_body_text >>= λ b. (λ k. many next_modifier (length k) k) >>= λ ms. pure (with_string line w b ms)) k
      ∙ bind (λ b. (λ k. many next_modifier (length k) k) >>= λ ms. pure (with_string line w b ms)) (body-complete x)
      ∙ bind (λ ms. pure (with_string line w b ms)) (modifiers-many y h (length more) (omega arith))

  string-ends : {k rest : Terminals} {s : StringTree} → OneString places k s rest → Ends k
  string-ends (string {w = w} {k = k} x y) = name-ends w (Sign sign.Assign ∷ k)

  strings-end : {k rest : Terminals} {ss : List StringTree} → Strings places k ss rest → Ends k
  strings-end (grammar.one_string x) = string-ends x
  strings-end (string_then x y) = string-ends x

  next_string-is : {k rest : Terminals} {s : StringTree} → OneString places k s rest → Ends rest → next_string places k ≡ Some (Some s, rest)
  unfolding next_string string_at
  next_string-is (string {w = w} {k = k} x y) h = bind (λ s. pure (Some s)) (string-complete (string x y) h)

  next_string-none : (k : Terminals) → next_string places (Sign sign.Condition ∷ k) ≡ Some (None, Sign sign.Condition ∷ k)
  unfolding next_string string_at
  next_string-none k = refl

  strings-many : {k t : Terminals} {ss : List StringTree} → Strings places k ss t → (rest : Terminals) → t ≡ Sign sign.Condition ∷ rest → (n : ℕ) → length k ≤ n
      → many (next_string places) n k ≡ Some (ss, t)
  strings-many (grammar.one_string x) rest e zero b = let shorter = OneString-shorter x in absurd (omega arith)
  strings-many {t = t} (grammar.one_string {k = k} {s = s} x) rest e (suc n) b =
      many-more (next_string places) n k t t s [] (next_string-is x (subst Ends (sym e) (condition-ends rest)))
      (many-stop (next_string places) n t (subst (λ (u : Terminals). next_string places u ≡ Some (None, u)) (sym e) (next_string-none rest)))
  strings-many (string_then x y) rest e zero b = let shorter = OneString-shorter x in absurd (omega arith)
  strings-many {t = t} (string_then {k = k} {more = more} {s = s} {ss = ss} x y) rest e (suc n) b =
      let shorter = OneString-shorter x in
      many-more (next_string places) n k more t s ss (next_string-is x (strings-end y)) (strings-many y rest e n (omega arith))

  strings_from-is : {k t : Terminals} {ss : List StringTree} → Strings places k ss t → (rest : Terminals) → t ≡ Sign sign.Condition ∷ rest
      → strings_from places (Sign sign.Colon ∷ k) ≡ Some (ss, t)
  unfolding strings_from
  strings_from-is {t = t} (grammar.one_string {k = k} {s = s} x) rest e =
      expect-on sign.Colon (read_string places >>= λ s. (λ k. many (next_string places) (length k) k) >>= λ ss. pure (s ∷ ss)) k
      ∙ bind (λ s. (λ k. many (next_string places) (length k) k) >>= λ ss. pure (s ∷ ss)) (string-complete x (subst Ends (sym e) (condition-ends rest)))
      ∙ bind (λ ss. pure (s ∷ ss))
      (many-stop (next_string places) (length t) t (subst (λ (u : Terminals). next_string places u ≡ Some (None, u)) (sym e) (next_string-none rest)))
  strings_from-is {t = t} (string_then {k = k} {more = more} {s = s} {ss = ss} x y) rest e =
      expect-on sign.Colon (read_string places >>= λ s. (λ k. many (next_string places) (length k) k) >>= λ ss. pure (s ∷ ss)) k
      ∙ bind (λ s. (λ k. many (next_string places) (length k) k) >>= λ ss. pure (s ∷ ss)) (string-complete x (strings-end y))
      ∙ bind (λ ss. pure (s ∷ ss)) (strings-many y rest e (length more) (omega arith))

  condition-no_strings : (k : Terminals) → sees sign.Strings (Sign sign.Condition ∷ k) ≡ false
  unfolding sees same_sign
  condition-no_strings k = refl

  string_part-complete : {k t : Terminals} {ss : List StringTree} → StringPart places k ss t → (rest : Terminals) → t ≡ Sign sign.Condition ∷ rest
      → string_part places k ≡ Some (ss, t)
  unfolding string_part
  string_part-complete {t = t} no_string rest e =
      eat-no sign.Strings (strings_from places) (pure []) t (subst (λ (u : Terminals). sees sign.Strings u ≡ false) (sym e) (condition-no_strings rest))
  string_part-complete (strings {k = k} x) rest e = eat-yes sign.Strings (strings_from places) (pure []) (Sign sign.Colon ∷ k) ∙ strings_from-is x rest e

  -- what no meta goes on
  record Described (k : Terminals) : Type 0 where
    no_word : sees_word k ≡ false
    no_meta_here : sees sign.Meta k ≡ false

  string_part-begins : {k t : Terminals} {ss : List StringTree} → StringPart places k ss t → (rest : Terminals) → t ≡ Sign sign.Condition ∷ rest → Described k
  unfolding sees_word sees same_sign
  string_part-begins no_string rest e = subst Described (sym e) (record { no_word = refl; no_meta_here = refl })
  string_part-begins (strings x) rest e = record { no_word = refl; no_meta_here = refl }

  -- ---- rules

  condition-complete : (m : ℕ) (k rest : Terminals) (c : Condition) → Reads (level levels.Or) k c (Sign sign.CloseBrace ∷ rest) → Shallow m 0 k
      → rule_condition places (suc m) (Sign sign.Condition ∷ Sign sign.Colon ∷ k) ≡ Some (c, rest)
  unfolding rule_condition cond_at
  condition-complete m k rest c r s =
      expect-on sign.Condition (expect sign.Colon >>= λ _. cond_at (suc m) entries.Or >>= λ c. expect sign.CloseBrace >>= λ _. pure c) (Sign sign.Colon ∷ k)
      ∙ expect-on sign.Colon (cond_at (suc m) entries.Or >>= λ c. expect sign.CloseBrace >>= λ _. pure c) k
      ∙ bind (λ c. expect sign.CloseBrace >>= λ _. pure c) (read-complete r m m 0 (omega arith) s (omega arith))
      ∙ expect-on sign.CloseBrace (pure c) rest

  abbrev with_rule : (file line : ℕ) → Bool × Bool → List ℕ → List (List ℕ) → List MetaTree → List StringTree → Condition → RuleTree
  with_rule file line flags w ts ms ss c =
      record { name = w; global = flags.0; hidden = flags.1; tags = ts; meta = ms; strings = ss; condition = c; file = file; line = line }

  rule-complete : {k rest : Terminals} {r : RuleTree} → OneRule places k r rest → (m : ℕ) → Shallow m 0 k → read_rule places (suc m) k ≡ Some (r, rest)
  unfolding read_rule rule_from read_word
  rule-complete {rest = rest} (rule {k = k} {named = named} {tagged = tagged} {described = described} {listed = listed} {g = g} {p = p} {w = w} {ts = ts} {ms = ms} {ss = ss} {c = c} f t x y r) m s =
      let file = places.file (length k) in
      let line = places.line (length k) in
      let make : Bool × Bool → List ℕ → List (List ℕ) → List MetaTree → List StringTree → Condition → RuleTree = with_rule file line in
      let s1 = Flags-shallow f m s in
      let s2 = Tags-shallow t m s1.1.1 in
      let s3 = MetaPart-shallow x m s2.1 in
      let s4 = StringPart-shallow y m s3 in
      let d = string_part-begins y (Sign sign.Colon ∷ listed) refl in
      bind (rule_from places (suc m) file line) (flags-are f (Word w ∷ named) refl)
      ∙ expect-on sign.Rule _ (Word w ∷ named)
      ∙ bind (λ ts. expect sign.OpenBrace >>= λ _. meta_part >>= λ ms. string_part places >>= λ ss. rule_condition places (suc m) >>= λ c. pure (make (g, p) w ts ms ss c))
      (tags-complete t (brace-no_colon tagged) (brace-no_word tagged))
      ∙ expect-on sign.OpenBrace (meta_part >>= λ ms. string_part places >>= λ ss. rule_condition places (suc m) >>= λ c. pure (make (g, p) w ts ms ss c)) tagged
      ∙ bind (λ ms. string_part places >>= λ ss. rule_condition places (suc m) >>= λ c. pure (make (g, p) w ts ms ss c)) (meta_part-complete x d.no_word d.no_meta_here)
      ∙ bind (λ ss. rule_condition places (suc m) >>= λ c. pure (make (g, p) w ts ms ss c)) (string_part-complete y (Sign sign.Colon ∷ listed) refl)
      ∙ bind (λ c. pure (make (g, p) w ts ms ss c)) (condition-complete m listed rest c r s4.1.1)

  rule-no_import : {k rest : Terminals} {r : RuleTree} → OneRule places k r rest → sees sign.Import k ≡ false
  rule-no_import (rule {named = named} {w = w} f t x y r) = flags-no_import f (Word w ∷ named) refl

  pub declaration-complete : {k rest : Terminals} {d : Declaration} → OneDeclaration places k d rest → (m : ℕ) → Shallow m 0 k → read_declaration places (suc m) k ≡ Some (d, rest)
  unfolding read_declaration import_from read_text sees same_sign
  declaration-complete import m s = refl
  declaration-complete (a_rule {k = k} r) m s =
      ap (λ b. declaration_by places b (suc m) k) (rule-no_import r) ∙ bind (λ r. pure (tree.Rule r)) (rule-complete r m s)

  rule-shorter : {k rest : Terminals} {r : RuleTree} → OneRule places k r rest → length rest < length k
  rule-shorter (rule f t x y r) =
      let h0 = Flags-shorter f in let h1 = Tags-shorter t in let h2 = MetaPart-shorter x in let h3 = StringPart-shorter y in let h4 = Reads-shorter r in omega arith

  pub declaration-shorter : {k rest : Terminals} {d : Declaration} → OneDeclaration places k d rest → length rest < length k
  declaration-shorter import = omega arith
  declaration-shorter (a_rule r) = rule-shorter r
