-- Rules at which no check fails are wellformed.
use Rattle.std.proofs.Common.{◌≡◌, ℕ, zero, suc, ◌+◌, ◌-◌, ◌≤◌, ◌<◌, List, [], ◌∷◌, ◌++◌, length, map, filter, take, Bool, true, false, refl, sym, ap, subst, ◌∙◌, arith, Some, None, Option, Result, Ok, Err, append-nil, append_assoc}
use Rattle.std.specs.Prelude.{All, slice_get, is_some, not, ◌||◌, nat_lt, if◌then◌else◌, Contains}
use Rattle.std.specs.List.{flat_map, list_any, slice_index_or}
use Rattle.std.specs.Option.{option_map}
use Rattle.std.proofs.Math.Seq.{take-append_seam}
use Rattle.std.proofs.lemmas.List.{length-map}
use Rattle.std.proofs.lemmas.Grind.{flat_map-append}
use Rattle.std.proofs.lemmas.List.Elements.{All-nil, All-cons, All-append}
use Rattle.yr_pattern.specs.Variants.{PlainVariant, IsSoundBody, variant_size}
use Rattle.yr_syntax.specs.Declaration.{RuleTree, StringTree, BodyTree, MetaTree, declaration_of}
use Rattle.yr_syntax.specs.Declaration as declaration
use Rattle.yr_syntax.specs.Forms.{Each, HaveForms, DeclarationHasForms, RuleHasForms, StringHasForms, IsWordName, height_limit}
use Rattle.yr_text.specs.Variants.{IsSound}
use Rattle.yr_text.proofs.SoundLemmas.{variants-sound}
use Rattle.yr_rules.specs.Fits.{Fits, size_limit}
use Rattle.yr_rules.specs.Height.{height}
use Rattle.yr_rules.specs.Ids.{HasIds}
use Rattle.yr_rules.specs.Rules.{PlainString, PlainRule, PlainRules}
use Rattle.yr_rules.specs.Weight.{total}
use Rattle.yr_rules.specs.Wellformed.{IsShortWord, IsGoodVariant, IsGoodString, IsGoodRule, HasItsStrings, IsWellformed, count_different, count_limit}
use Rattle.yr_name_tables.specs.Names.{Name, first, with_sign}
use Rattle.yr_conditions.specs.Readers.{Readers, Expression, HexRefusal, RegexRefusal, string_variants, body_variants, hex_variants, regex_variants, plain_shape, wide_shape, modifiers_of, string_expression}
use Rattle.yr_text.specs.declared.modifiers.Modifiers.{Modifiers}
use Rattle.yr_checks.specs.declared.check.Check.{Check}
use Rattle.yr_checks.specs.declared.check.Check.TheVariants as check
use Rattle.yr_checks.specs.declared.refusal.Code.TheVariants as code'
use Rattle.yr_checks.specs.Sources.{Item, Import, Rule, PlacedImport, PlacedRule, AtRule, UnitTree, item_of, items_from, items_of, rules_in, placed_after, number_of, first_string_of, strings_in, imports}
use Rattle.yr_checks.specs.Given.{Given, naming, name_if, around, is_imported, rule_uses}
use Rattle.yr_checks.specs.Checks.{rule_finding}
use Rattle.yr_checks.specs.Checked.{checked_rule, checked_rules, checked_string, checked_strings, with_node, present}
use Rattle.yr_checks.specs.Patterns.{empty_string, is_empty_text, is_large, large_string, large_use}
use Rattle.yr_checks.specs.Refusals.{fault, at_rule, IsPassed}
use Rattle.yr_checks.specs.Resolving.{AreUnits, AreExternals, HaveRowIds, IsUnit, row_ids}
use Rattle.yr_checks.proofs.IdLemmas.{made-has}
use Rattle.yr_checks.proofs.PassLemmas.{each-from, each-none, each-false, map-none, number-is, or-none, rules-append, sound-rule, light-rules, strings-counted, place-there}
use Rattle.yr_checking.specs.declared.items.Placed.{Placed}
use Rattle.yr_checking.specs.Placed.{item_at}
use Rattle.yr_checking.proofs.SpreadLemmas.{different-spaces}

some-inj : {A : Type 0} {a b : A} → Some a ≡ Some b → a ≡ b
some-inj e = cc

-- ---- lists

each-all : {A : Type 0} (P : A → Type 0) (xs : List A) → Each P xs → All P xs
each-all P [] h = All-nil P
each-all P (x ∷ xs) h = All-cons P x xs h.0 (each-all P xs h.1)

each-append : {A : Type 0} (P : A → Type 0) (xs ys : List A) → Each P xs → Each P ys → Each P (xs ++ ys)
each-append P [] ys h k = k
each-append P (x ∷ xs) ys h k = (h.0, each-append P xs ys h.1 k)

each-middle : {A : Type 0} (P : A → Type 0) (xs : List A) (y : A) (zs : List A) → Each P (xs ++ y ∷ zs) → P y
each-middle P [] y zs h = h.0
each-middle P (x ∷ xs) y zs h = each-middle P xs y zs h.1

-- what is there where all are
present-one : {A B : Type 0} (f : A → Option B) (x : A) (xs : List A) (y : B) (o : Option B) → f x ≡ o → is_some (f x) ≡ true
    → ((j : ℕ) → slice_get (present (map f xs)) j ≡ Some y → (z : A) × (slice_get xs j ≡ Some z) × (f z ≡ Some y))
    → (i : ℕ) → slice_get (present (o ∷ map f xs)) i ≡ Some y → (z : A) × (slice_get (x ∷ xs) i ≡ Some z) × (f z ≡ Some y)
present-one f x xs y None h t rest i e = let gone : is_some (f x) ≡ false = ap is_some h in absurd cc
present-one f x xs y (Some z) h t rest zero e = (x, refl, h ∙ e)
present-one f x xs y (Some z) h t rest (suc i) e = let r = rest i e in (r.0, r.1, r.2)

pub present-get : {A B : Type 0} (f : A → Option B) (xs : List A) → ((i : ℕ) (x : A) → slice_get xs i ≡ Some x → is_some (f x) ≡ true) → (i : ℕ) (y : B)
    → slice_get (present (map f xs)) i ≡ Some y → (x : A) × (slice_get xs i ≡ Some x) × (f x ≡ Some y)
present-get f [] all i y e = absurd cc
present-get f (x ∷ xs) all i y e = present-one f x xs y (f x) refl (all 0 x refl) (λ j g. present-get f xs (λ k w h. all (suc k) w h) j y g) i e

-- a sum over what is there
pub present-total : {A B : Type 0} (f : A → Option B) (g : B → ℕ) (h : A → ℕ) (xs : List A) → ((i : ℕ) (x : A) → slice_get xs i ≡ Some x → (y : B) × (f x ≡ Some y) × (g y ≡ h x))
    → total g (present (map f xs)) ≡ total h xs
present-total f g h [] all = refl
present-total f g h (x ∷ xs) all =
    let own = all 0 x refl in
    let rest = present-total f g h xs (λ i z e. all (suc i) z e) in
    ap (λ o. total g (present (o ∷ map f xs))) own.1 ∙ omega (arith, own.2, rest)

pub present-map : {A B C : Type 0} (f : A → Option B) (g : B → C) (h : A → C) (xs : List A) → ((i : ℕ) (x : A) → slice_get xs i ≡ Some x → (y : B) × (f x ≡ Some y) × (g y ≡ h x))
    → map g (present (map f xs)) ≡ map h xs
present-map f g h [] all = refl
present-map f g h (x ∷ xs) all =
    let own = all 0 x refl in
    ap (λ o. map g (present (o ∷ map f xs))) own.1 ∙ ap (λ c. c ∷ map g (present (map f xs))) own.2 ∙ ap (λ l. h x ∷ l) (present-map f g h xs (λ i z e. all (suc i) z e))

present-first : {A B : Type 0} (f : A → Option B) (x : A) (xs : List A) (n : ℕ) (o : Option B) → f x ≡ o → is_some (f x) ≡ true
    → take n (present (map f xs)) ≡ present (map f (take n xs)) → take (suc n) (present (o ∷ map f xs)) ≡ present (o ∷ map f (take n xs))
present-first f x xs n None h t rest = let gone : is_some (f x) ≡ false = ap is_some h in absurd cc
present-first f x xs n (Some z) h t rest = ap (λ l. z ∷ l) rest

pub present-take : {A B : Type 0} (f : A → Option B) (xs : List A) → ((i : ℕ) (x : A) → slice_get xs i ≡ Some x → is_some (f x) ≡ true) → (n : ℕ)
    → take n (present (map f xs)) ≡ present (map f (take n xs))
present-take f [] all zero = refl
present-take f [] all (suc n) = refl
present-take f (x ∷ xs) all zero = refl
present-take f (x ∷ xs) all (suc n) = present-first f x xs n (f x) refl (all 0 x refl) (present-take f xs (λ j w g. all (suc j) w g) n)

take-get : {A : Type 0} (n : ℕ) (xs : List A) (i : ℕ) (x : A) → slice_get (take n xs) i ≡ Some x → slice_get xs i ≡ Some x
take-get zero xs i x e = absurd cc
take-get (suc n) [] i x e = absurd cc
take-get (suc n) (y ∷ ys) zero x e = e
take-get (suc n) (y ∷ ys) (suc i) x e = take-get n ys i x e

-- an element of a list between two others
middle-get : {A : Type 0} (xs ys zs : List A) (k : ℕ) (y : A) → length xs ≤ k → k < length xs + length ys → slice_get (xs ++ (ys ++ zs)) k ≡ Some y
    → slice_get ys (k - length xs) ≡ Some y
middle-get [] ys zs k y low high e = front ys zs k y (omega arith) e
  where
    front : {A : Type 0} (us vs : List A) (j : ℕ) (b : A) → j < length us → slice_get (us ++ vs) j ≡ Some b → slice_get us (j - 0) ≡ Some b
    front [] vs j b less e = absurd (omega arith)
    front (a ∷ us) vs zero b less e = e
    front (a ∷ us) vs (suc j) b less e = let r = front us vs j b (omega arith) e in let same : suc j - 0 ≡ suc (j - 0) = omega arith in ap (slice_get (a ∷ us)) same ∙ r
middle-get (x ∷ xs) ys zs zero y low high e = absurd (omega arith)
middle-get (x ∷ xs) ys zs (suc k) y low high e =
    let same : suc k - length (x ∷ xs) ≡ k - length xs = omega arith in ap (slice_get ys) same ∙ middle-get xs ys zs k y (omega arith) (omega arith) e

-- what passes a test is an element
contains-behind : {A : Type 0} (y : A) (ys : List A) (x : A) → Contains ys x → Contains (y ∷ ys) x
contains-behind y ys x d = let less = d.1 in (suc d.0, omega arith, d.2)

contains-kept : {A : Type 0} (y : A) (ys zs : List A) (x : A) → (Contains zs x → Contains ys x) → (k : ℕ) → k < length (y ∷ zs) → slice_index_or (y ∷ zs) k x ≡ x → Contains (y ∷ ys) x
contains-kept y ys zs x h zero less e = (0, omega arith, e)
contains-kept y ys zs x h (suc k) less e = contains-behind y ys x (h (k, omega arith, e))

contains-chosen : {A : Type 0} (b : Bool) (y : A) (ys zs : List A) (x : A) → (Contains zs x → Contains ys x) → Contains (if b then y ∷ zs else zs) x → Contains (y ∷ ys) x
contains-chosen true y ys zs x h d = contains-kept y ys zs x h d.0 d.1 d.2
contains-chosen false y ys zs x h d = contains-behind y ys x (h d)

contains-filter : {A : Type 0} (test : A → Bool) (xs : List A) (x : A) → Contains (filter test xs) x → Contains xs x
contains-filter test [] x c = c
contains-filter test (y ∷ ys) x c = contains-chosen (test y) y ys (filter test ys) x (contains-filter test ys x) c

-- ---- where a rule stands

record Standing (start items : List Item) (i : ℕ) (p : PlacedRule) : Type 0 where
  front : List Item
  back : List Item
  whole : items ≡ front ++ Rule p.unit p.space p.rule ∷ back
  begins : p.before ≡ start ++ front
  counted : length (placed_after start front) ≡ i

standing-here : (start items : List Item) (unit : ℕ) (space : Name) (r : RuleTree) (p : PlacedRule) → record { before = start; unit = unit; space = space; rule = r } ≡ p
    → Standing start (Rule unit space r ∷ items) 0 p
standing-here start items unit space r p e =
    subst (λ q. Standing start (Rule unit space r ∷ items) 0 q) e
    (record { front = []; back = items; whole = refl; begins = sym (append-nil start); counted = refl })

standing-after-import : (start items : List Item) (j : PlacedImport) (i : ℕ) (p : PlacedRule) → Standing (start ++ Import j ∷ []) items i p → Standing start (Import j ∷ items) i p
standing-after-import start items j i p s =
    record {
      front = Import j ∷ s.front;
      back = s.back;
      whole = ap (λ l. Import j ∷ l) s.whole;
      begins = s.begins ∙ append_assoc start (Import j ∷ []) s.front;
      counted = s.counted;
    }

standing-after-rule : (start items : List Item) (unit : ℕ) (space : Name) (r : RuleTree) (i : ℕ) (p : PlacedRule) → Standing (start ++ Rule unit space r ∷ []) items i p
    → Standing start (Rule unit space r ∷ items) (suc i) p
standing-after-rule start items unit space r i p s =
    record {
      front = Rule unit space r ∷ s.front;
      back = s.back;
      whole = ap (λ l. Rule unit space r ∷ l) s.whole;
      begins = s.begins ∙ append_assoc start (Rule unit space r ∷ []) s.front;
      counted = ap suc s.counted;
    }

standing : (start items : List Item) (i : ℕ) (p : PlacedRule) → slice_get (placed_after start items) i ≡ Some p → Standing start items i p
standing start [] i p e = absurd cc
standing start (Import j ∷ items) i p e = standing-after-import start items j i p (standing (start ++ Import j ∷ []) items i p e)
standing start (Rule unit space r ∷ items) zero p e = standing-here start items unit space r p (some-inj e)
standing start (Rule unit space r ∷ items) (suc i) p e = standing-after-rule start items unit space r i p (standing (start ++ Rule unit space r ∷ []) items i p e)

-- ---- items with their forms

abbrev IsGoodItem : Item → Type 0
IsGoodItem (Import i) = Unit {0}
IsGoodItem (Rule unit space r) = IsShortWord space × RuleHasForms r

good-items : (k : ℕ) (s : Name) (ds : List declaration.Declaration) → IsShortWord s → HaveForms ds → Each IsGoodItem (map (item_of k s) ds)
good-items k s [] w h = tt
good-items k s (declaration.Import name file line ∷ ds) w h = (tt, good-items k s ds w h.1)
good-items k s (declaration.Rule r ∷ ds) w h = ((w, h.0), good-items k s ds w h.1)

good-units : (k : ℕ) (units : List UnitTree) → Each IsUnit units → Each IsGoodItem (items_from k units)
good-units k [] h = tt
good-units k (u ∷ us) h = each-append IsGoodItem (map (item_of k u.space) u.declarations) (items_from (k + 1) us) (good-items k u.space u.declarations h.0.0 h.0.1) (good-units (k + 1) us h.1)

all-each : {A : Type 0} (P : A → Type 0) (xs : List A) → All P xs → Each P xs
all-each P [] h = tt
all-each P (x ∷ xs) h = (h 0 x (omega arith), all-each P xs (λ k d less. h (suc k) d (omega arith)))

good-form : (k : ℕ) (s : Name) (d : declaration.Declaration) → IsGoodItem (item_of k s d) → DeclarationHasForms d
good-form k s (declaration.Import name file line) h = tt
good-form k s (declaration.Rule r) h = h.1

each-form : (ps : List Placed) → Each IsGoodItem (map item_at ps) → Each (λ p. DeclarationHasForms (declaration_of p.decl.now)) ps
each-form [] h = tt
each-form (p ∷ ps) h = (good-form p.unit p.namespace.now (declaration_of p.decl.now) h.0, each-form ps h.1)

-- the declarations of units have their forms
pub forms-are : (ps : List Placed) (units : List UnitTree) → map item_at ps ≡ items_of units → AreUnits units → Each (λ p. DeclarationHasForms (declaration_of p.decl.now)) ps
forms-are ps units e are = each-form ps (subst (Each IsGoodItem) (sym e) (good-units 0 units (all-each IsUnit units are.1)))

-- ---- the strings of a rule

shape-good : (size : ℕ) (v : PlainVariant) → IsSoundBody v.body → nat_lt size_limit (variant_size v) ≡ false → IsGoodVariant v
shape-good size v s h = (s, small (variant_size v) h)
  where
    small : (n : ℕ) → nat_lt size_limit n ≡ false → n ≤ size_limit
    small n h = grind (arith, h)

good-variants : (vs : List PlainVariant) → Each (λ v. IsSoundBody v.body) vs → Each (λ v. is_large (variant_size v) ≡ false) vs → Each IsGoodVariant vs
good-variants [] s l = tt
good-variants (v ∷ vs) s l = (shape-good 0 v s.0 l.0, good-variants vs s.1 l.1)

one-shape : (b : Bool) (v : PlainVariant) → IsSoundBody v.body → Each (λ w. IsSoundBody w.body) (if b then v ∷ [] else [])
one-shape true v h = (h, tt)
one-shape false v h = tt

hex-sound : (readers : Readers) (r : Result _ HexRefusal) → Each (λ v. IsSoundBody v.body) (hex_variants readers r)
hex-sound readers (Ok tree) = (tt, tt)
hex-sound readers (Err refusal) = tt

regex-sound : (readers : Readers) (r : Result Expression RegexRefusal) (m : Modifiers) → Each (λ v. IsSoundBody v.body) (regex_variants readers r m)
regex-sound readers (Ok e) m =
    each-append (λ (v : PlainVariant). IsSoundBody v.body) (plain_shape e.pattern m) (wide_shape e.pattern m) (one-shape (m.ascii || not m.wide) _ tt) (one-shape m.wide _ tt)
regex-sound readers (Err refusal) m = tt

body-sound : (readers : Readers) (b : BodyTree) (m : Modifiers) → is_empty_text b ≡ false → Each (λ v. IsSoundBody v.body) (body_variants readers b m)
body-sound readers (declaration.Text []) m h = absurd cc
body-sound readers (declaration.Text (b ∷ bs)) m h = all-each IsSound _ (variants-sound (b ∷ bs) m (omega arith))
body-sound readers (declaration.Hex t) m h = hex-sound readers (readers.hex t)
body-sound readers (declaration.Regex r) m h = regex-sound readers (string_expression readers r m) m

name-none : (b : Bool) (n : Name) → name_if b n ≡ None → b ≡ false
name-none false n e = refl
name-none true n e = absurd cc

naming-none : (c : _) (o : Option Name) → naming c o ≡ None → o ≡ None
naming-none c None e = refl
naming-none c (Some n) e = absurd cc

good-string : (readers : Readers) (number : ℕ) (s : StringTree) → StringHasForms s → empty_string s ≡ None → large_string readers s ≡ None → IsGoodString (checked_string readers number s)
good-string readers number s forms some small =
    let vs = string_variants readers s in
    let sound = body-sound readers s.body (modifiers_of s) (name-none (is_empty_text s.body) (with_sign s.name) some) in
    let any = name-none (list_any (λ v. is_large (variant_size v)) vs) (with_sign s.name) (naming-none code'.PatternTooLarge _ small) in
    (forms.0, each-all IsGoodVariant vs (good-variants vs sound (each-false (λ v. is_large (variant_size v)) vs any)))

good-strings : (readers : Readers) (number : ℕ) (ss : List StringTree) → Each StringHasForms ss → Each (λ s. empty_string s ≡ None) ss → Each (λ s. large_string readers s ≡ None) ss
    → All IsGoodString (map (checked_string readers number) ss)
good-strings readers number [] f e l = All-nil IsGoodString
good-strings readers number (s ∷ ss) f e l =
    All-cons IsGoodString (checked_string readers number s) (map (checked_string readers number) ss) (good-string readers number s f.0 e.0 l.0) (good-strings readers number ss f.1 e.1 l.1)

-- each string of a rule has its number
string-number : (readers : Readers) (number : ℕ) (ss : List StringTree) (k : ℕ) (s : PlainString) → slice_get (map (checked_string readers number) ss) k ≡ Some s → s.rule ≡ number
string-number readers number [] k s e = absurd cc
string-number readers number (x ∷ xs) zero s e = sym (ap (λ (y : PlainString). y.rule) (some-inj e))
string-number readers number (x ∷ xs) (suc k) s e = string-number readers number xs k s e

module _ (given : Given) (units : List UnitTree) (passed : IsPassed given units) (are : AreUnits units) where
  abbrev rules : List PlacedRule
  rules = rules_in (items_of units)

  abbrev all : PlainRules
  all = checked_rules given (items_of units)

  no-finding : (i : ℕ) (p : PlacedRule) → slice_get rules i ≡ Some p → (c : Check) → fault given (AtRule p) c ≡ None
  no-finding i p e c = passed i (AtRule p) c (place-there rules (items_of units) i p e)

  made : (i : ℕ) (p : PlacedRule) → slice_get rules i ≡ Some p → (r : PlainRule) × (checked_rule given p ≡ Some r)
  made i p e = let s = sound-rule given units passed i p e in (with_node p s.condition, ap (option_map (with_node p)) s.made)

  there : (i : ℕ) (p : PlacedRule) → slice_get rules i ≡ Some p → is_some (checked_rule given p) ≡ true
  there i p e = ap is_some (made i p e).1

  -- a rule's forms, and those of its namespace
  forms : (i : ℕ) (p : PlacedRule) → slice_get rules i ≡ Some p → IsShortWord p.space × RuleHasForms p.rule
  forms i p e =
      let s = standing [] (items_of units) i p e in
      let good = good-units 0 units (all-each IsUnit units are.1) in
      each-middle IsGoodItem s.front (Rule p.unit p.space p.rule) s.back (subst (Each IsGoodItem) s.whole good)

  good-rule : (i : ℕ) (r : PlainRule) → slice_get all.rules i ≡ Some r → IsGoodRule all i r
  good-rule i r e =
      let x = present-get (checked_rule given) rules there i r e in
      let p = x.0 in
      let s = sound-rule given units passed i p x.1 in
      let f = forms i p x.1 in
      let is : r ≡ with_node p s.condition = some-inj (sym x.2 ∙ ap (option_map (with_node p)) s.made) in
      let own : number_of p ≡ i = number-is (items_of units) i p x.1 in
      let low : height s.condition ≤ height_limit = let a = s.low in let b = f.1.low in omega arith in
      let fit = subst (λ n. Fits (record { externals = length given.externals; rules = n; strings = length all.strings }) s.condition []) own s.fits in
      let good : IsGoodRule all i (with_node p s.condition) = record {
        space = f.0;
        name = f.1.named;
        tags = each-all IsWordName p.rule.tags f.1.tagged;
        keys = each-all (λ (m : MetaTree). IsWordName m.key) p.rule.meta f.1.described;
        low = low;
        kinds = s.kinds;
        fits = fit;
      } in
      subst (IsGoodRule all i) (sym is) good

  strings-of : (i : ℕ) (p : PlacedRule) → slice_get rules i ≡ Some p → All IsGoodString (checked_strings given p)
  strings-of i p e =
      let f = no-finding i p e in
      let texts = naming-none code'.EmptyString (first empty_string p.rule.strings) (map-none (at_rule p check.Texts) (rule_finding given p check.Texts) (f check.Texts)) in
      let sizes = or-none (first (large_string given.readers) p.rule.strings) (first (large_use given.readers) (rule_uses given p)) (map-none (at_rule p check.Sizes) (rule_finding given p check.Sizes) (f check.Sizes)) in
      good-strings given.readers (number_of p) p.rule.strings (forms i p e).1.listed (each-none empty_string p.rule.strings texts) (each-none (large_string given.readers) p.rule.strings sizes.0)

  strings-good : (ps : List PlacedRule) → ((i : ℕ) (p : PlacedRule) → slice_get ps i ≡ Some p → All IsGoodString (checked_strings given p)) → All IsGoodString (flat_map (checked_strings given) ps)
  strings-good [] h = All-nil IsGoodString
  strings-good (p ∷ ps) h = All-append IsGoodString (checked_strings given p) (flat_map (checked_strings given) ps) (h 0 p refl) (strings-good ps (λ i q e. h (suc i) q e))

  counted : (i : ℕ) (p : PlacedRule) → slice_get rules i ≡ Some p → (r : PlainRule) × (checked_rule given p ≡ Some r) × (r.string_count ≡ length p.rule.strings)
  counted i p e = let s = sound-rule given units passed i p e in (with_node p s.condition, ap (option_map (with_node p)) s.made, refl)

  spaced : (i : ℕ) (p : PlacedRule) → slice_get rules i ≡ Some p → (r : PlainRule) × (checked_rule given p ≡ Some r) × (r.space ≡ p.space)
  spaced i p e = let s = sound-rule given units passed i p e in (with_node p s.condition, ap (option_map (with_node p)) s.made, refl)

  -- the rules before one are the first of all
  earlier-rules : (i : ℕ) (p : PlacedRule) → slice_get rules i ≡ Some p → take i rules ≡ rules_in p.before
  earlier-rules i p e =
      let s = standing [] (items_of units) i p e in
      let back = placed_after s.front (Rule p.unit p.space p.rule ∷ s.back) in
      let whole : rules ≡ rules_in s.front ++ back = ap rules_in s.whole ∙ rules-append [] s.front (Rule p.unit p.space p.rule ∷ s.back) in
      ap (take i) whole ∙ ap (λ k. take k (rules_in s.front ++ back)) (sym s.counted) ∙ take-append_seam (rules_in s.front) back ∙ ap rules_in (sym s.begins)

  its-strings : (i : ℕ) (r : PlainRule) → slice_get all.rules i ≡ Some r → HasItsStrings all i r
  its-strings i r e =
      let x = present-get (checked_rule given) rules there i r e in
      let p = x.0 in
      let s = sound-rule given units passed i p x.1 in
      let is : r ≡ with_node p s.condition = some-inj (sym x.2 ∙ ap (option_map (with_node p)) s.made) in
      let st = standing [] (items_of units) i p x.1 in
      let own : number_of p ≡ i = number-is (items_of units) i p x.1 in
      let front = rules_in st.front in
      let more = placed_after (st.front ++ Rule p.unit p.space p.rule ∷ []) st.back in
      let here : PlacedRule = record { before = st.front; unit = p.unit; space = p.space; rule = p.rule } in
      let begins : first_string_of p ≡ length (flat_map (checked_strings given) front) = ap (λ b. strings_in (rules_in b)) st.begins ∙ sym (strings-counted given front) in
      let split : all.strings ≡ flat_map (checked_strings given) front ++ (checked_strings given here ++ flat_map (checked_strings given) more) =
      ap (λ l. flat_map (checked_strings given) (rules_in l)) st.whole ∙ ap (flat_map (checked_strings given)) (rules-append [] st.front (Rule p.unit p.space p.rule ∷ st.back))
      ∙ flat_map-append (checked_strings given) front (here ∷ more) in
      let first : first_string_of p ≡ total (λ (q : PlainRule). q.string_count) (take i all.rules) =
      sym (ap (total (λ (q : PlainRule). q.string_count)) (present-take (checked_rule given) rules there i)
      ∙ present-total (checked_rule given) (λ (q : PlainRule). q.string_count) (λ (q : PlacedRule). length q.rule.strings) (take i rules) (λ j q g. counted j q (take-get i rules j q g))
      ∙ ap strings_in (earlier-rules i p x.1)) in
      let long = length-map p.rule.strings (checked_string given.readers (number_of here)) in
      let numbers : (k : ℕ) (z : PlainString) → first_string_of p ≤ k → k < first_string_of p + length p.rule.strings → slice_get all.strings k ≡ Some z → z.rule ≡ i =
      λ k z low high g.
      let at = middle-get (flat_map (checked_strings given) front) (checked_strings given here) (flat_map (checked_strings given) more) k z (omega arith) (omega arith) (ap (λ l. slice_get l k) (sym split) ∙ g) in
      string-number given.readers (number_of here) p.rule.strings (k - length (flat_map (checked_strings given) front)) z at ∙ st.counted in
      let good : HasItsStrings all i (with_node p s.condition) = record { first = first; own = numbers } in
      subst (HasItsStrings all i) (sym is) good

  -- each id in a checked condition is that of a module's row
  row-id : (i : ℕ) (r : PlainRule) → slice_get all.rules i ≡ Some r → HasIds (row_ids given.modules) r.condition
  row-id i r e =
      let x = present-get (checked_rule given) rules there i r e in
      let p = x.0 in
      let s = sound-rule given units passed i p x.1 in
      let f = forms i p x.1 in
      let is : r ≡ with_node p s.condition = some-inj (sym x.2 ∙ ap (option_map (with_node p)) s.made) in
      let has = made-has given.readers (around given p) given.modules p.rule.condition s.condition (λ m c. contains-filter (is_imported (imports p)) given.modules m c) f.1.condition s.made in
      subst (λ (q : PlainRule). HasIds (row_ids given.modules) q.condition) (sym is) has

  pub row-ids-are : HaveRowIds given.modules all
  row-ids-are = each-all (λ (r : PlainRule). HasIds (row_ids given.modules) r.condition) all.rules (each-from (λ (r : PlainRule). HasIds (row_ids given.modules) r.condition) all.rules row-id)

  pub wellformed : AreExternals given.externals → length all.rules ≤ count_limit → length all.strings ≤ count_limit → IsWellformed all
  wellformed externals few many =
      let spaces : map (λ (r : PlainRule). r.space) all.rules ≡ map (λ (p : PlacedRule). p.space) rules = present-map (checked_rule given) (λ (r : PlainRule). r.space) (λ (p : PlacedRule). p.space) rules spaced in
      let counts = present-total (checked_rule given) (λ (r : PlainRule). r.string_count) (λ (p : PlacedRule). length p.rule.strings) rules counted in
      record {
        good_rules = good-rule;
        good_strings = strings-good rules strings-of;
        own_strings = its-strings;
        all_strings = counts ∙ sym (strings-counted given rules);
        externals_named = externals.0;
        externals_differ = externals.1;
        few_rules = few;
        few_strings = many;
        few_spaces = let a = ap count_different spaces in let b = different-spaces units [] in let c = are.0 in omega arith;
        light = light-rules given units passed;
      }
