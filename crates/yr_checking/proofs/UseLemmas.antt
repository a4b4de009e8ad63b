-- What a condition with its forms uses has places of 32 bits, and rules that pass the checks on strings have sound ones.
use Rattle.std.proofs.Common.{◌≡◌, ℕ, List, [], ◌∷◌, ◌++◌, map, Bool, true, false, refl, Some, None, Option}
use Rattle.yr_syntax.specs.Condition as tree
use Rattle.yr_syntax.specs.Condition.{Condition, Links, Steps, Items, Where, Asked, Domain, SetTree, ItemTree}
use Rattle.yr_syntax.specs.Declaration.{StringTree, kind_of}
use Rattle.yr_syntax.specs.Forms.{Each, HasForms, LinksHaveForms, StepsHaveForms, ItemsHaveForms, PlaceHasForms, AskedHasForms, DomainHasForms, StringHasForms}
use Rattle.yr_text.specs.Checked.{checked}
use Rattle.yr_name_tables.specs.Names.{Name, first, with_sign}
use Rattle.yr_conditions.specs.Meanings as meaning
use Rattle.yr_conditions.specs.Meanings.{Around, Scope, Meaning, meaning_of, then_name, then_index, then_call, count_of, opened, current_of}
use Rattle.yr_conditions.specs.Uses.{Use, uses_of, link_uses, path_uses, step_uses, item_uses, place_uses, asked_uses, domain_uses, string_uses, nameless_uses, set_uses, member_use, earlier_use, word_uses}
use Rattle.yr_checking.specs.Findings.{HasShortText, IsSoundString}
use Rattle.yr_checks.specs.Given.{name_if}
use Rattle.yr_checks.proofs.PassLemmas.{or-none}
use Rattle.yr_checks.specs.Patterns.{bad_modifiers, empty_string, is_empty_text, is_refused}

each-append : (us vs : List Use) → Each HasShortText us → Each HasShortText vs → Each HasShortText (us ++ vs)
each-append [] vs h k = k
each-append (u ∷ us) vs h k = (h.0, each-append us vs h.1 k)

nameless-short : (sign : ℕ) (o : Option ℕ) → Each HasShortText (nameless_uses sign o)
nameless-short sign None = (tt, tt)
nameless-short sign (Some k) = tt

string-short : (sign : ℕ) (n : Name) (scopes : List Scope) → Each HasShortText (string_uses sign n scopes)
string-short sign [] scopes = nameless-short sign (current_of scopes)
string-short sign (b ∷ bs) scopes = (tt, tt)

members-short : (is : List ItemTree) → Each HasShortText (map member_use is)
members-short [] = tt
members-short (i ∷ is) = (tt, members-short is)

earlier-short : (is : List ItemTree) → Each HasShortText (map earlier_use is)
earlier-short [] = tt
earlier-short (i ∷ is) = (tt, earlier-short is)

set-short : (s : SetTree) → Each HasShortText (set_uses s)
set-short tree.Them = (tt, tt)
set-short (tree.Strings items) = members-short items
set-short (tree.Rules items) = earlier-short items

word-short : (w : Name) (m : Meaning) → Each HasShortText (word_uses w m)
word-short w meaning.Unknown = (tt, tt)
word-short w meaning.Wrong = tt
word-short w (meaning.Module m) = tt
word-short w (meaning.Array m path count) = tt
word-short w (meaning.Entry m path i) = tt
word-short w (meaning.Function id kind) = tt
word-short w (meaning.Constant n) = tt
word-short w (meaning.Field id kind i) = tt
word-short w (meaning.Result id kind) = tt
word-short w (meaning.Variable k) = tt
word-short w (meaning.External k) = tt
word-short w (meaning.RuleTruth k) = tt

module _ (around : Around) where
  mutual
    pub uses-short : (c : Condition) (scopes : List Scope) → HasForms c → Each HasShortText (uses_of around c scopes)
    uses-short (tree.Number n) scopes f = tt
    uses-short (tree.Text t) scopes f = tt
    uses-short (tree.Flag b) scopes f = tt
    uses-short tree.FileSize scopes f = tt
    uses-short (tree.Path steps) scopes f = path-short steps scopes f
    uses-short (tree.Found name place) scopes f = each-append _ _ (string-short 36 name scopes) (place-short place scopes f.1)
    uses-short (tree.Count name) scopes f = string-short 35 name scopes
    uses-short (tree.CountIn name low high) scopes f =
        each-append _ _ (each-append _ _ (string-short 35 name scopes) (uses-short low scopes f.1)) (uses-short high scopes f.2)
    uses-short (tree.Offset name) scopes f = string-short 64 name scopes
    uses-short (tree.OffsetAt name index) scopes f = each-append _ _ (string-short 64 name scopes) (uses-short index scopes f.1)
    uses-short (tree.Length name) scopes f = string-short 33 name scopes
    uses-short (tree.LengthAt name index) scopes f = each-append _ _ (string-short 33 name scopes) (uses-short index scopes f.1)
    uses-short (tree.Read reader at) scopes f = uses-short at scopes f
    uses-short (tree.Prefix op inner) scopes f = uses-short inner scopes f
    uses-short (tree.Chain first rest) scopes f = each-append _ _ (uses-short first scopes f.0) (links-short rest scopes f.1)
    uses-short (tree.Matches text regex) scopes f = each-append _ _ (uses-short text scopes f.0) (f.1, tt)
    uses-short (tree.Of asked set place) scopes f = each-append _ _ (each-append _ _ (asked-short asked scopes f.0) (set-short set)) (place-short place scopes f.2)
    uses-short (tree.ForOf asked set body) scopes f =
        (tt, each-append _ _ (each-append _ _ (asked-short asked scopes f.0) (set-short set)) (uses-short body (meaning.Members ∷ scopes) f.2))
    uses-short (tree.ForIn asked name domain body) scopes f =
        (tt, each-append _ _ (each-append _ _ (asked-short asked scopes f.0) (domain-short domain scopes f.2)) (uses-short body (opened around name domain scopes ∷ scopes) f.3))

    links-short : (ls : Links) (scopes : List Scope) → LinksHaveForms ls → Each HasShortText (link_uses around ls scopes)
    links-short tree.no_link scopes f = tt
    links-short (tree.link op operand rest) scopes f = each-append _ _ (uses-short operand scopes f.0) (links-short rest scopes f.1)

    path-short : (s : Steps) (scopes : List Scope) → StepsHaveForms s → Each HasShortText (path_uses around s scopes)
    path-short tree.no_step scopes f = tt
    path-short (tree.name_step w rest) scopes f = each-append _ _ (word-short w (meaning_of around w scopes)) (steps-short rest (meaning_of around w scopes) scopes f.1)
    path-short (tree.index_step index rest) scopes f = each-append _ _ (uses-short index scopes f.0) (steps-short rest meaning.Wrong scopes f.1)
    path-short (tree.call_step arguments rest) scopes f = each-append _ _ (items-short arguments scopes f.0) (steps-short rest meaning.Wrong scopes f.1)

    steps-short : (s : Steps) (m : Meaning) (scopes : List Scope) → StepsHaveForms s → Each HasShortText (step_uses around s m scopes)
    steps-short tree.no_step m scopes f = tt
    steps-short (tree.name_step w rest) m scopes f = each-append _ _ (word-short w (then_name m w)) (steps-short rest (then_name m w) scopes f.1)
    steps-short (tree.index_step index rest) m scopes f = each-append _ _ (uses-short index scopes f.0) (steps-short rest (then_index m) scopes f.1)
    steps-short (tree.call_step arguments rest) m scopes f = each-append _ _ (items-short arguments scopes f.0) (steps-short rest (then_call m (count_of arguments)) scopes f.1)

    items-short : (is : Items) (scopes : List Scope) → ItemsHaveForms is → Each HasShortText (item_uses around is scopes)
    items-short tree.no_item scopes f = tt
    items-short (tree.item c rest) scopes f = each-append _ _ (uses-short c scopes f.0) (items-short rest scopes f.1)

    place-short : (w : Where) (scopes : List Scope) → PlaceHasForms w → Each HasShortText (place_uses around w scopes)
    place-short tree.Anywhere scopes f = tt
    place-short (tree.At at) scopes f = uses-short at scopes f
    place-short (tree.Within low high) scopes f = each-append _ _ (uses-short low scopes f.0) (uses-short high scopes f.1)

    asked-short : (a : Asked) (scopes : List Scope) → AskedHasForms a → Each HasShortText (asked_uses around a scopes)
    asked-short tree.All scopes f = tt
    asked-short tree.Any scopes f = tt
    asked-short tree.Nil scopes f = tt
    asked-short (tree.AtLeast c) scopes f = uses-short c scopes f
    asked-short (tree.Percent c) scopes f = uses-short c scopes f

    domain-short : (d : Domain) (scopes : List Scope) → DomainHasForms d → Each HasShortText (domain_uses around d scopes)
    domain-short (tree.OverRange low high) scopes f = each-append _ _ (uses-short low scopes f.0) (uses-short high scopes f.1)
    domain-short (tree.OverList items) scopes f = (tt, items-short items scopes f)
    domain-short (tree.OverPath steps) scopes f = path-short steps scopes f

-- ---- strings

none-name : (b : Bool) (n : Name) → name_if b n ≡ None → b ≡ false
none-name false n e = refl
none-name true n e = absurd cc

sound-string : (s : StringTree) → StringHasForms s → empty_string s ≡ None → bad_modifiers s ≡ None → IsSoundString s
sound-string s f e m = record {
  forms = f;
  text = none-name (is_empty_text s.body) (with_sign s.name) e;
  modifiers = none-name (is_refused (checked s.modifiers (kind_of s.body))) (with_sign s.name) m;
}

pub sound-strings : (ss : List StringTree) → Each StringHasForms ss → first empty_string ss ≡ None → first bad_modifiers ss ≡ None → Each IsSoundString ss
sound-strings [] f e m = tt
sound-strings (s ∷ ss) f e m =
    let x = or-none (empty_string s) (first empty_string ss) e in
    let y = or-none (bad_modifiers s) (first bad_modifiers ss) m in
    (sound-string s f.0 x.0 y.0, sound-strings ss f.1 x.1 y.1)
