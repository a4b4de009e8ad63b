-- What is read from good terminals has its forms.
use Rattle.std.proofs.Common.{◌≡◌, ℕ, Bool, true, false, List, refl}
use Rattle.yr_syntax.specs.Condition.{Condition, Where, Asked, Domain, SetTree, ItemTree, OneLink, OneStep, links_of, items_of, steps_of}
use Rattle.yr_syntax.specs.Declaration.{ModifierTree, BodyTree, StringTree, ValueTree, MetaTree, RuleTree, Declaration}
use Rattle.yr_syntax.specs.Forms.{Each, IsWordName, IsStringItem, IsRuleItem, SetHasForms, HasForms, LinksHaveForms, StepsHaveForms, ItemsHaveForms, PlaceHasForms, AskedHasForms, DomainHasForms, BodyHasForms, StringHasForms, MetaHasForms, RuleHasForms, DeclarationHasForms, HaveForms}
use Rattle.yr_parser.specs.declared.level.Level.{Level}
use Rattle.yr_parser.specs.Terminals.{Terminals}
use Rattle.yr_parser.specs.Levels.{Part}
use Rattle.yr_parser.specs.Good.{AreGood}
use Rattle.yr_parser.specs.Shallow.{Shallow}
use Rattle.yr_parser.specs.Depth.{IsTooDeep, deep_from}
use Rattle.yr_parser.specs.Conditions as grammar
use Rattle.yr_parser.specs.Conditions.{StringItems, one_string, one_wild, string_then, wild_then, RuleItems, one_rule, one_front, rule_then, front_then, Sets, them, Reads, one, chain, pair, matches, negated, is_defined, plain, found, of, for_of, for_in, compared, minus, flip, bare, brackets, file_size, reads, count, count_in, offset, offset_at, len, len_at, path, Links, last, next, Counts, every, some, none, at_least, Quants, counts, percent, anywhere, at, within, Ranges, from_to, Overs, over_range, over_list, over_path, ReadsItems, one_item, item_then, ReadsSteps, no_step, name_step, index_step, empty_call, call_step}
use Rattle.yr_parser.specs.Declarations as declarations
use Rattle.yr_parser.specs.Declarations.{Places, Values, negative, Metas, one_meta, meta_then, MetaPart, no_meta, metas, OneModifier, nocase, wide, ascii, fullword, hidden, xor_all, base64, base64_by, base64wide, base64wide_by, Modifiers, no_modifier, modifier_then, Bodies, regex, hex, Words, one_word, word_then, Tags, no_tag, tags, Flags, no_flag, global, private, global_private, private_global, OneString, string, Strings, StringPart, no_string, OneRule, rule, OneDeclaration, import, a_rule, ReadsDeclarations, end, declaration_then}
use Rattle.yr_parser.proofs.Deep.{deep-shallow, test-true}
use Rattle.yr_parser.proofs.Heights.{condition-height}
use Rattle.yr_parser.proofs.RuleComplete.{Flags-shallow, Tags-shallow, MetaPart-shallow, StringPart-shallow}

StringItems-forms : {k rest : Terminals} {v : List ItemTree} → StringItems k v rest → AreGood k → (Each IsStringItem v) × AreGood rest
StringItems-forms one_string g = let n0 = g.0 in ((n0, tt), g.1)
StringItems-forms one_wild g = let n0 = g.0 in ((n0, tt), g.1)
StringItems-forms (string_then x0) g = let n0 = g.0 in let h0 = StringItems-forms x0 g.1.1 in ((n0, h0.0), h0.1)
StringItems-forms (wild_then x0) g = let n0 = g.0 in let h0 = StringItems-forms x0 g.1.1 in ((n0, h0.0), h0.1)

RuleItems-forms : {k rest : Terminals} {v : List ItemTree} → RuleItems k v rest → AreGood k → (Each IsRuleItem v) × AreGood rest
RuleItems-forms one_rule g = let n0 = g.0 in ((n0, tt), g.1)
RuleItems-forms one_front g = let n0 = g.0 in ((n0, tt), g.1.1)
RuleItems-forms (rule_then x0) g = let n0 = g.0 in let h0 = RuleItems-forms x0 g.1.1 in ((n0, h0.0), h0.1)
RuleItems-forms (front_then x0) g = let n0 = g.0 in let h0 = RuleItems-forms x0 g.1.1.1 in ((n0, h0.0), h0.1)

Sets-forms : {k rest : Terminals} {v : SetTree} → Sets k v rest → AreGood k → (SetHasForms v) × AreGood rest
Sets-forms them g = (tt, g.1)
Sets-forms (grammar.strings x0) g = let h0 = StringItems-forms x0 g.1 in (h0.0, h0.1.1)
Sets-forms (grammar.rules x0) g = let h0 = RuleItems-forms x0 g.1 in (h0.0, h0.1.1)

mutual
  Reads-forms : {p : Part} {k rest : Terminals} {v : Condition} → Reads p k v rest → AreGood k → (HasForms v) × AreGood rest
  Reads-forms (one x0) g = let h0 = Reads-forms x0 g in (h0.0, h0.1)
  Reads-forms (chain e0 x1 x2) g = let h1 = Reads-forms x1 g in let h2 = Links-forms x2 h1.1 in ((h1.0, h2.0), h2.1)
  Reads-forms (pair e0 x1 e2 x3) g = let h1 = Reads-forms x1 g in let h3 = Reads-forms x3 h1.1.1 in ((h1.0, (h3.0, tt)), h3.1)
  Reads-forms (matches x0) g = let h0 = Reads-forms x0 g in ((h0.0, h0.1.1.0), h0.1.1.1)
  Reads-forms (negated x0) g = let h0 = Reads-forms x0 g.1 in (h0.0, h0.1)
  Reads-forms (is_defined x0) g = let h0 = Reads-forms x0 g.1 in (h0.0, h0.1)
  Reads-forms (plain x0) g = let h0 = Reads-forms x0 g in (h0.0, h0.1)
  Reads-forms (found x0) g = let n0 = g.0 in let h0 = Places-forms x0 g.1 in ((n0, h0.0), h0.1)
  Reads-forms (of x0 x1 x2) g = let h0 = Quants-forms x0 g in let h1 = Sets-forms x1 h0.1.1 in let h2 = Places-forms x2 h1.1 in ((h0.0, h1.0, h2.0), h2.1)
  Reads-forms (for_of x0 x1 x2) g = let h0 = Counts-forms x0 g.1 in let h1 = Sets-forms x1 h0.1.1 in let h2 = Reads-forms x2 h1.1.1.1 in ((h0.0, h1.0, h2.0), h2.1.1)
  Reads-forms (for_in x0 x1 x2) g = let h0 = Counts-forms x0 g.1 in let n0 = h0.1.0 in let h1 = Overs-forms x1 h0.1.1.1 in let h2 = Reads-forms x2 h1.1.1.1 in ((h0.0, n0, h1.0, h2.0), h2.1.1)
  Reads-forms (compared x0) g = let h0 = Reads-forms x0 g in (h0.0, h0.1)
  Reads-forms (minus x0) g = let h0 = Reads-forms x0 g.1 in (h0.0, h0.1)
  Reads-forms (flip x0) g = let h0 = Reads-forms x0 g.1 in (h0.0, h0.1)
  Reads-forms (bare x0) g = let h0 = Reads-forms x0 g in (h0.0, h0.1)
  Reads-forms (brackets x0) g = let h0 = Reads-forms x0 g.1 in (h0.0, h0.1.1)
  Reads-forms grammar.number g = (tt, g.1)
  Reads-forms grammar.text g = (tt, g.1)
  Reads-forms grammar.truth g = (tt, g.1)
  Reads-forms file_size g = (tt, g.1)
  Reads-forms (reads x0) g = let h0 = Reads-forms x0 g.1.1 in (h0.0, h0.1.1)
  Reads-forms count g = let n0 = g.0 in (n0, g.1)
  Reads-forms (count_in x0) g = let n0 = g.0 in let h0 = Ranges-forms x0 g.1.1 in ((n0, h0.0, h0.1), h0.2)
  Reads-forms offset g = let n0 = g.0 in (n0, g.1)
  Reads-forms (offset_at x0) g = let n0 = g.0 in let h0 = Reads-forms x0 g.1.1 in ((n0, h0.0), h0.1.1)
  Reads-forms len g = let n0 = g.0 in (n0, g.1)
  Reads-forms (len_at x0) g = let n0 = g.0 in let h0 = Reads-forms x0 g.1.1 in ((n0, h0.0), h0.1.1)
  Reads-forms (path x0) g = let n0 = g.0 in let h0 = ReadsSteps-forms x0 g.1 in ((n0, h0.0), h0.1)

  Links-forms : {l : Level} {k rest : Terminals} {v : List OneLink} → Links l k v rest → AreGood k → (LinksHaveForms (links_of v)) × AreGood rest
  Links-forms (last e0 x1) g = let h1 = Reads-forms x1 g.1 in ((h1.0, tt), h1.1)
  Links-forms (next e0 x1 x2) g = let h1 = Reads-forms x1 g.1 in let h2 = Links-forms x2 h1.1 in ((h1.0, h2.0), h2.1)

  Counts-forms : {k rest : Terminals} {v : Asked} → Counts k v rest → AreGood k → (AskedHasForms v) × AreGood rest
  Counts-forms every g = (tt, g.1)
  Counts-forms some g = (tt, g.1)
  Counts-forms none g = (tt, g.1)
  Counts-forms (at_least x0) g = let h0 = Reads-forms x0 g in (h0.0, h0.1)

  Quants-forms : {k rest : Terminals} {v : Asked} → Quants k v rest → AreGood k → (AskedHasForms v) × AreGood rest
  Quants-forms (counts x0) g = let h0 = Counts-forms x0 g in (h0.0, h0.1)
  Quants-forms (percent x0) g = let h0 = Reads-forms x0 g in (h0.0, h0.1.1)

  Places-forms : {k rest : Terminals} {v : Where} → grammar.Places k v rest → AreGood k → (PlaceHasForms v) × AreGood rest
  Places-forms anywhere g = (tt, g)
  Places-forms (at x0) g = let h0 = Reads-forms x0 g.1 in (h0.0, h0.1)
  Places-forms (within x0) g = let h0 = Ranges-forms x0 g.1 in ((h0.0, h0.1), h0.2)

  Ranges-forms : {k rest : Terminals} {v w : Condition} → Ranges k v w rest → AreGood k → HasForms v × HasForms w × AreGood rest
  Ranges-forms (from_to x0 x1) g = let h0 = Reads-forms x0 g.1 in let h1 = Reads-forms x1 h0.1.1 in (h0.0, h1.0, h1.1.1)

  Overs-forms : {k rest : Terminals} {v : Domain} → Overs k v rest → AreGood k → (DomainHasForms v) × AreGood rest
  Overs-forms (over_range x0) g = let h0 = Ranges-forms x0 g in ((h0.0, h0.1), h0.2)
  Overs-forms (over_list x0) g = let h0 = ReadsItems-forms x0 g.1 in (h0.0, h0.1.1)
  Overs-forms (over_path x0) g = let n0 = g.0 in let h0 = ReadsSteps-forms x0 g.1 in ((n0, h0.0), h0.1)

  ReadsItems-forms : {k rest : Terminals} {v : List Condition} → ReadsItems k v rest → AreGood k → (ItemsHaveForms (items_of v)) × AreGood rest
  ReadsItems-forms (one_item x0) g = let h0 = Reads-forms x0 g in ((h0.0, tt), h0.1)
  ReadsItems-forms (item_then x0 x1) g = let h0 = Reads-forms x0 g in let h1 = ReadsItems-forms x1 h0.1.1 in ((h0.0, h1.0), h1.1)

  ReadsSteps-forms : {k rest : Terminals} {v : List OneStep} → ReadsSteps k v rest → AreGood k → (StepsHaveForms (steps_of v)) × AreGood rest
  ReadsSteps-forms no_step g = (tt, g)
  ReadsSteps-forms (name_step x0) g = let n0 = g.1.0 in let h0 = ReadsSteps-forms x0 g.1.1 in ((n0, h0.0), h0.1)
  ReadsSteps-forms (index_step x0 x1) g = let h0 = Reads-forms x0 g.1 in let h1 = ReadsSteps-forms x1 h0.1.1 in ((h0.0, h1.0), h1.1)
  ReadsSteps-forms (empty_call x0) g = let h0 = ReadsSteps-forms x0 g.1.1 in ((tt, h0.0), h0.1)
  ReadsSteps-forms (call_step x0 x1) g = let h0 = ReadsItems-forms x0 g.1 in let h1 = ReadsSteps-forms x1 h0.1.1 in ((h0.0, h1.0), h1.1)

Values-forms : {k rest : Terminals} {v : ValueTree} → Values k v rest → AreGood k → (Unit {0}) × AreGood rest
Values-forms declarations.text g = (tt, g.1)
Values-forms declarations.number g = (tt, g.1)
Values-forms negative g = (tt, g.1.1)
Values-forms declarations.truth g = (tt, g.1)

Metas-forms : {k rest : Terminals} {v : List MetaTree} → Metas k v rest → AreGood k → (Each MetaHasForms v) × AreGood rest
Metas-forms (one_meta x0) g = let n0 = g.0 in let h0 = Values-forms x0 g.1.1 in ((n0, tt), h0.1)
Metas-forms (meta_then x0 x1) g = let n0 = g.0 in let h0 = Values-forms x0 g.1.1 in let h1 = Metas-forms x1 h0.1 in ((n0, h1.0), h1.1)

MetaPart-forms : {k rest : Terminals} {v : List MetaTree} → MetaPart k v rest → AreGood k → (Each MetaHasForms v) × AreGood rest
MetaPart-forms no_meta g = (tt, g)
MetaPart-forms (metas x0) g = let h0 = Metas-forms x0 g.1.1 in (h0.0, h0.1)

OneModifier-forms : {k rest : Terminals} {v : ModifierTree} → OneModifier k v rest → AreGood k → (Unit {0}) × AreGood rest
OneModifier-forms nocase g = (tt, g.1)
OneModifier-forms wide g = (tt, g.1)
OneModifier-forms ascii g = (tt, g.1)
OneModifier-forms fullword g = (tt, g.1)
OneModifier-forms hidden g = (tt, g.1)
OneModifier-forms xor_all g = (tt, g.1)
OneModifier-forms declarations.xor_one g = (tt, g.1.1.1.1)
OneModifier-forms declarations.xor_range g = (tt, g.1.1.1.1.1.1)
OneModifier-forms base64 g = (tt, g.1)
OneModifier-forms base64_by g = (tt, g.1.1.1.1)
OneModifier-forms base64wide g = (tt, g.1)
OneModifier-forms base64wide_by g = (tt, g.1.1.1.1)

Modifiers-forms : {k rest : Terminals} {v : List ModifierTree} → Modifiers k v rest → AreGood k → (Unit {0}) × AreGood rest
Modifiers-forms no_modifier g = (tt, g)
Modifiers-forms (modifier_then x0 x1) g = let h0 = OneModifier-forms x0 g in let h1 = Modifiers-forms x1 h0.1 in (tt, h1.1)

Bodies-forms : {k rest : Terminals} {v : BodyTree} → Bodies k v rest → AreGood k → (BodyHasForms v) × AreGood rest
Bodies-forms declarations.text g = (tt, g.1)
Bodies-forms regex g = let n0 = g.0 in (n0, g.1)
Bodies-forms hex g = let n0 = g.0 in (n0, g.1)

Words-forms : {k rest : Terminals} {v : List (List ℕ)} → Words k v rest → AreGood k → (Each IsWordName v) × AreGood rest
Words-forms one_word g = let n0 = g.0 in ((n0, tt), g.1)
Words-forms (word_then x0) g = let n0 = g.0 in let h0 = Words-forms x0 g.1 in ((n0, h0.0), h0.1)

Tags-forms : {k rest : Terminals} {v : List (List ℕ)} → Tags k v rest → AreGood k → (Each IsWordName v) × AreGood rest
Tags-forms no_tag g = (tt, g)
Tags-forms (tags x0) g = let h0 = Words-forms x0 g.1 in (h0.0, h0.1)

Flags-forms : {k rest : Terminals} {g p : Bool} → Flags k g p rest → AreGood k → (Unit {0}) × AreGood rest
Flags-forms no_flag g = (tt, g)
Flags-forms global g = (tt, g.1)
Flags-forms private g = (tt, g.1)
Flags-forms global_private g = (tt, g.1.1)
Flags-forms private_global g = (tt, g.1.1)

OneString-forms : {places : Places} {k rest : Terminals} {v : StringTree} → OneString places k v rest → AreGood k → (StringHasForms v) × AreGood rest
OneString-forms (string x0 x1) g = let n0 = g.0 in let h0 = Bodies-forms x0 g.1.1 in let h1 = Modifiers-forms x1 h0.1 in ((n0, h0.0), h1.1)

Strings-forms : {places : Places} {k rest : Terminals} {v : List StringTree} → Strings places k v rest → AreGood k → (Each StringHasForms v) × AreGood rest
Strings-forms (declarations.one_string x0) g = let h0 = OneString-forms x0 g in ((h0.0, tt), h0.1)
Strings-forms (declarations.string_then x0 x1) g = let h0 = OneString-forms x0 g in let h1 = Strings-forms x1 h0.1 in ((h0.0, h1.0), h1.1)

StringPart-forms : {places : Places} {k rest : Terminals} {v : List StringTree} → StringPart places k v rest → AreGood k → (Each StringHasForms v) × AreGood rest
StringPart-forms no_string g = (tt, g)
StringPart-forms (declarations.strings x0) g = let h0 = Strings-forms x0 g.1.1 in (h0.0, h0.1)

rule-forms : {places : Places} {k rest : Terminals} {r : RuleTree} → OneRule places k r rest → AreGood k → Shallow 64 0 k → RuleHasForms r × AreGood rest
rule-forms (rule f t x y r) g s =
    let h0 = Flags-forms f g in
    let n0 = h0.1.1.0 in
    let h1 = Tags-forms t h0.1.1.1 in
    let h2 = MetaPart-forms x h1.1.1 in
    let h3 = StringPart-forms y h2.1 in
    let h4 = Reads-forms r h3.1.1.1 in
    let s1 = Flags-shallow f 64 s in
    let s2 = Tags-shallow t 64 s1.1.1 in
    let s3 = MetaPart-shallow x 64 s2.1 in
    let s4 = StringPart-shallow y 64 s3 in
    (record { named = n0; tagged = h1.0; described = h2.0; listed = h3.0; condition = h4.0; low = condition-height r s4.1.1 }, h4.1.1)

declaration-forms : {places : Places} {k rest : Terminals} {d : Declaration} → OneDeclaration places k d rest → AreGood k → Shallow 64 0 k → DeclarationHasForms d × AreGood rest
declaration-forms import g s = (tt, g.1.1)
declaration-forms (a_rule r) g s = rule-forms r g s

not-deep-shallow : (k : Terminals) → ¬ IsTooDeep k → Shallow 64 0 k
not-deep-shallow k n = go (deep_from 0 0 k) refl
  where
    go : (b : Bool) → deep_from 0 0 k ≡ b → Shallow 64 0 k
    go false e = deep-shallow k 0 0 e
    go true e = absurd (n (test-true k e))

pub declarations-forms : {places : Places} {k rest : Terminals} {ds : List Declaration} → ReadsDeclarations places k ds rest → AreGood k → HaveForms ds
declarations-forms end g = tt
declarations-forms (declaration_then {k = k} n d ds) g =
    let h = declaration-forms d g (not-deep-shallow k n) in (h.0, declarations-forms ds h.1)
