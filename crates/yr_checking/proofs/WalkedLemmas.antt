-- One item more is walked, or refused.
use Rattle.std.proofs.Common.{◌≡◌, ℕ, zero, suc, set, ◌+◌, ◌-◌, ◌^◌, ◌<◌, List, [], ◌∷◌, ◌++◌, length, map, min, take, Bool, true, false, refl, sym, ap, subst, ◌∙◌, arith, Some, None, Option, append_assoc}
use Rattle.std.specs.Prelude.{if◌then◌else◌, bytes_eq, slice_get, is_none, is_some, not}
use Rattle.std.specs.Option.{option_map, option_or}
use Rattle.std.specs.Cmp.Lexicographic.{bytes_decides}
use Rattle.std.proofs.lemmas.List.{length-append, length-map}
use Rattle.std.proofs.lemmas.Option.{slice_get_read, slice_get_within}
use Rattle.std.specs.List.{slice_index_or}
use Rattle.yr_syntax.specs.Declaration.{Declaration, RuleTree, declaration_of}
use Rattle.yr_syntax.specs.Forms.{Each}
use Rattle.yr_rules.specs.Rules.{external_of, rule_of as checked_rule_of, string_of as checked_string_of}
use Rattle.yr_rules.specs.Weight.{weight_of}
use Rattle.yr_name_tables.specs.Names.{Name, first}
use Rattle.yr_conditions.specs.Meanings.{module_named}
use Rattle.yr_checking.specs.declared.judging.Made.{Made}
use Rattle.yr_checking.specs.declared.space.Space.{Space}
use Rattle.yr_checking.specs.declared.walking.Walk.{Walk}
use Rattle.yr_checks.specs.Sources.{Item, Import, Rule, item_of, PlacedImport, PlacedRule, rules_in, strings_in}
use Rattle.yr_checks.specs.Given.{Given, external_names}
use Rattle.yr_checking.specs.declared.at_hand.AtHand.{AtHand}
use Rattle.yr_checking.specs.declared.items.Placed.{Placed}
use Rattle.yr_checking.specs.Placed.{item_at}
use Rattle.yr_checking.specs.AtHand.{IsAtHand, given_at, placed_at}
use Rattle.yr_checks.specs.Checked.{checked_rules}
use Rattle.yr_checks.specs.Checks.{unknown_module, wildcards}
use Rattle.yr_checks.specs.declared.refusal.ResolveFault.{ResolveFault}
use Rattle.yr_checks.specs.declared.refusal.ResolveFault.TheVariants as fault
use Rattle.yr_checking.specs.Judged.{Explains, IsMade, rule_fault}
use Rattle.yr_checks.specs.Refusals.{PlainRefusal, at_import, checks, refusal_of}
use Rattle.yr_checking.specs.Spaces.{SpaceTree, IsFirstNamed, found_space, space_at, space_shown, with_import, with_rule}
use Rattle.yr_checking.specs.Walked.{IsWalked, fault_in}
use Rattle.yr_checks.proofs.PassLemmas.{strings-counted}
use Rattle.yr_checking.proofs.SpaceLemmas.{found-at, found-changed, set-here, set-many, set-other}
use Rattle.yr_checking.proofs.WalkLemmas.{checked-import, count-more, fault-at-import, fault-at-rule, import-last, known-import, last-rule, passed-import, passed-rule, rules-more, space-import, space-rule, strings-more, unknown-import}

some-inj : {A : Type 0} {a b : A} → Some a ≡ Some b → a ≡ b
some-inj e = cc

-- ---- items by their places

pub take-item : {A : Type 0} (items : List A) (i : ℕ) (x : A) → slice_get items i ≡ Some x → take (i + 1) items ≡ take i items ++ x ∷ []
take-item items i x e = let next : i + 1 ≡ suc i = omega arith in ap (λ k. take k items) next ∙ more items i x e
  where
    more : {A : Type 0} (xs : List A) (k : ℕ) (y : A) → slice_get xs k ≡ Some y → take (suc k) xs ≡ take k xs ++ y ∷ []
    more [] k y e = absurd cc
    more (z ∷ zs) zero y e = ap (λ w. w ∷ []) (some-inj e)
    more (z ∷ zs) (suc k) y e = ap (λ l. z ∷ l) (more zs k y e)

split-at : {A : Type 0} (items : List A) (i : ℕ) (x : A) → slice_get items i ≡ Some x → (rest : List A) × (items ≡ take i items ++ x ∷ rest)
split-at [] i x e = absurd cc
split-at (y ∷ ys) zero x e = (ys, ap (λ z. z ∷ ys) (some-inj e))
split-at (y ∷ ys) (suc i) x e = let s = split-at ys i x e in (s.0, ap (λ l. y ∷ l) s.1)

-- ---- refusals

unknown-is : (given : Given) (i : PlacedImport) → is_none (module_named given.modules i.name) ≡ true → unknown_module given.modules i ≡ Some i
unknown-is given i e = ap (λ b. if b then Some i else None) e

pub known-is : (given : Given) (i : PlacedImport) → is_none (module_named given.modules i.name) ≡ false → unknown_module given.modules i ≡ None
known-is given i e = ap (λ b. if b then Some i else None) e

pub refuse-import : (given : Given) (items : List Item) (place : ℕ) (i : PlacedImport) (walk : Walk) → slice_get items place ≡ Some (Import i) → IsWalked given (take place items) walk
    → is_none (module_named given.modules i.name) ≡ true → fault_in given items ≡ Some (at_import i)
refuse-import given items place i walk there w e =
    let seen = take place items in
    let s = split-at items place (Import i) there in
    ap (fault_in given) (s.1 ∙ sym (append_assoc seen (Import i ∷ []) s.0))
    ∙ fault-at-import given (seen ++ Import i ∷ []) s.0 i (passed-import given seen i w.passed) (unknown-import given seen i w.known (unknown-is given i e))

pub refuse-rule : (given : Given) (items : List Item) (place unit : ℕ) (space : Name) (r : RuleTree) (f : PlainRefusal) (walk : Walk) → slice_get items place ≡ Some (Rule unit space r)
    → IsWalked given (take place items) walk → first (rule_fault given (record { before = take place items; unit = unit; space = space; rule = r })) checks ≡ Some f
    → fault_in given items ≡ Some f
refuse-rule given items place unit space r f walk there w e =
    let seen = take place items in
    let p : PlacedRule = record { before = seen; unit = unit; space = space; rule = r } in
    let s = split-at items place (Rule unit space r) there in
    ap (fault_in given) s.1
    ∙ fault-at-rule given seen s.0 unit space r f w.passed
    (ap (λ o. option_or (option_map at_import o) (first (rule_fault given p) checks)) w.known ∙ e)

-- ---- namespaces

own-space : (b : Bool) (x y : SpaceTree) → b ≡ true → (if b then x else y) ≡ x
own-space b x y e = ap (λ c. if c then x else y) e

same-choice : (space q : Name) (x y rest : SpaceTree) → (space ≡ q → x ≡ y) → (if bytes_eq space q then x else rest) ≡ (if bytes_eq space q then y else rest)
same-choice space q x y rest h = by (bytes_eq space q) refl
  where
    by : (b : Bool) → bytes_eq space q ≡ b → (if b then x else rest) ≡ (if b then y else rest)
    by true e = h ((bytes_decides space q).0 e)
    by false e = refl

-- the namespaces after a change of the one at the place
pub spaces-changed : (given : Given) (seen : List Item) (space : Name) (old mid new : List Space) (k : ℕ) (s t : Space) (f : SpaceTree → SpaceTree)
    → ((q : Name) → found_space q old ≡ space_at given seen q) → ((q : Name) → found_space q mid ≡ found_space q old) → IsFirstNamed space mid k
    → slice_get mid k ≡ Some s → slice_get new k ≡ Some t → t.name ≡ s.name → space_shown t ≡ f (space_shown s)
    → length new ≡ length mid → ((j : ℕ) (x : Space) → (j ≡ k → ⊥) → slice_get mid j ≡ Some x → slice_get new j ≡ Some x)
    → (q : Name) → found_space q new ≡ (if bytes_eq space q then f (space_at given seen q) else space_at given seen q)
spaces-changed given seen space old mid new k s t f at same named es et name shown long others q =
    let own : space_shown s ≡ space_at given seen space = sym (found-at space mid k s named es) ∙ same space ∙ at space in
    found-changed space q mid new k s t named es et name long others
    ∙ ap (λ r. if bytes_eq space q then space_shown t else r) (same q ∙ at q)
    ∙ same-choice space q (space_shown t) (f (space_at given seen q)) (space_at given seen q) (λ e. shown ∙ ap f own ∙ ap (λ z. f (space_at given seen z)) e)

-- ---- items that pass

pub walked-import : (given : Given) (seen : List Item) (i : PlacedImport) (old new : Walk) → IsWalked given seen old → is_none (module_named given.modules i.name) ≡ false
    → new.rules ≡ old.rules → new.strings ≡ old.strings → new.weight ≡ old.weight
    → ((q : Name) → found_space q new.spaces.items ≡ (if bytes_eq i.space q then with_import i.name (space_at given seen q) else space_at given seen q))
    → IsWalked given (seen ++ Import i ∷ []) new
walked-import given seen i old new w e rules strings weight spaces =
    let same = checked-import given seen i in
    let long = ap (λ v. length v.items) rules in
    let many = ap (λ v. length v.items) strings in
    record {
      spaces = λ q. spaces q ∙ sym (space-import given seen i q);
      rules = ap (λ v. map checked_rule_of v.items) rules ∙ w.rules ∙ ap (λ c. c.rules) (sym same);
      strings = ap (λ v. map checked_string_of v.items) strings ∙ w.strings ∙ ap (λ c. c.strings) (sym same);
      weight = weight ∙ w.weight ∙ ap (λ c. min (weight_of c) (2 ^ 64 - 1)) (sym same);
      counted = long ∙ w.counted ∙ ap length (sym (import-last seen i));
      few_rules = let a = w.few_rules in omega arith;
      few_strings = let a = w.few_strings in omega arith;
      passed = passed-import given seen i w.passed;
      known = known-import given seen i w.known (known-is given i e);
    }

map-append' : {A B : Type 0} (f : A → B) (xs ys : List A) → map f (xs ++ ys) ≡ map f xs ++ map f ys
map-append' f [] ys = refl
map-append' f (x ∷ xs) ys = ap (λ l. f x ∷ l) (map-append' f xs ys)

module _ (given : Given) (seen : List Item) (unit : ℕ) (space : Name) (r : RuleTree) where
  abbrev placed : PlacedRule
  placed = record { before = seen; unit = unit; space = space; rule = r }

  pub walked-rule : (old new : Walk) (made : Made) → IsWalked given seen old → IsMade given placed made → first (rule_fault given placed) checks ≡ None
      → new.rules.items ≡ old.rules.items ++ made.rule ∷ [] → new.strings.items ≡ old.strings.items ++ made.strings.items → new.weight ≡ made.weight
      → ((q : Name) → found_space q new.spaces.items
      ≡ (if bytes_eq space q then with_rule r.name (length (rules_in seen)) (wildcards given placed) (space_at given seen q) else space_at given seen q))
      → IsWalked given (seen ++ Rule unit space r ∷ []) new
  walked-rule old new made w m e rules strings weight spaces =
      let all = (checked_rules given seen).rules in
      let long : length new.rules.items ≡ length old.rules.items + 1 = ap length rules ∙ length-append old.rules.items (made.rule ∷ []) in
      let before : length old.strings.items ≡ strings_in (rules_in seen) =
      sym (length-map old.strings.items checked_string_of) ∙ ap length w.strings ∙ strings-counted given (rules_in seen) in
      let own : length made.strings.items ≡ length r.strings = sym (length-map made.strings.items checked_string_of) ∙ ap length m.strings ∙ length-map r.strings _ in
      let many : length new.strings.items ≡ length old.strings.items + length made.strings.items = ap length strings ∙ length-append old.strings.items made.strings.items in
      record {
        spaces = λ q. spaces q ∙ sym (space-rule given seen unit space r q);
        rules =
            ap (map checked_rule_of) rules ∙ map-append' checked_rule_of old.rules.items (made.rule ∷ [])
            ∙ ap (λ l. l ++ checked_rule_of made.rule ∷ []) w.rules ∙ sym (rules-more given seen unit space r (checked_rule_of made.rule) m.rule);
        strings =
            ap (map checked_string_of) strings ∙ map-append' checked_string_of old.strings.items made.strings.items
            ∙ ap (λ l. l ++ map checked_string_of made.strings.items) w.strings ∙ ap (λ l. (checked_rules given seen).strings ++ l) m.strings
            ∙ sym (strings-more given seen unit space r);
        weight = weight ∙ m.weight;
        counted = long ∙ ap (λ n. n + 1) w.counted ∙ sym (count-more given seen unit space r);
        few_rules = let a = w.counted in let b = m.few_rules in omega arith;
        few_strings = let b = m.few_strings in omega arith;
        passed = passed-rule given seen unit space r w.passed w.known e;
        known = ap (first (unknown_module given.modules)) (last-rule seen unit space r);
      }

-- ---- with the namespace that was changed

spaces-set : (given : Given) (seen : List Item) (space : Name) (old mid : List Space) (k : ℕ) (s t : Space) (f : SpaceTree → SpaceTree)
    → ((q : Name) → found_space q old ≡ space_at given seen q) → ((q : Name) → found_space q mid ≡ found_space q old) → IsFirstNamed space mid k
    → slice_get mid k ≡ Some s → t.name ≡ s.name → space_shown t ≡ f (space_shown s)
    → (q : Name) → found_space q (set mid k t) ≡ (if bytes_eq space q then f (space_at given seen q) else space_at given seen q)
spaces-set given seen space old mid k s t f at same named es name shown =
    spaces-changed given seen space old mid (set mid k t) k s t f at same named es (set-here mid k t (slice_get_within mid k s es)) name shown (set-many mid k t)
    (λ j x ne e. set-other mid k t j x ne e)

-- an import is walked
pub import-kept : (given : Given) (items : List Item) (place : ℕ) (i : PlacedImport) (old new : Walk) (mid : List Space) (k : ℕ) (s t : Space)
    → slice_get items place ≡ Some (Import i) → IsWalked given (take place items) old → is_none (module_named given.modules i.name) ≡ false
    → ((q : Name) → found_space q mid ≡ found_space q old.spaces.items) → IsFirstNamed i.space mid k
    → slice_get mid k ≡ Some s → t.name ≡ s.name → space_shown t ≡ with_import i.name (space_shown s)
    → new.spaces.items ≡ set mid k t → new.rules ≡ old.rules → new.strings ≡ old.strings → new.weight ≡ old.weight
    → IsWalked given (take (place + 1) items) new
import-kept given items place i old new mid k s t there w known same named es name shown spaces rules strings weight =
    let seen = take place items in
    subst (λ l. IsWalked given l new) (sym (take-item items place (Import i) there))
    (walked-import given seen i old new w known rules strings weight
    (λ q. ap (found_space q) spaces ∙ spaces-set given seen i.space old.spaces.items mid k s t (with_import i.name) w.spaces same named es name shown q))

-- a rule is walked
pub rule-kept : (given : Given) (items : List Item) (place unit : ℕ) (space : Name) (r : RuleTree) (old new : Walk) (made : Made) (mid : List Space) (k : ℕ) (s t : Space)
    → slice_get items place ≡ Some (Rule unit space r) → IsWalked given (take place items) old
    → IsMade given (record { before = take place items; unit = unit; space = space; rule = r }) made
    → first (rule_fault given (record { before = take place items; unit = unit; space = space; rule = r })) checks ≡ None
    → ((q : Name) → found_space q mid ≡ found_space q old.spaces.items) → IsFirstNamed space mid k
    → slice_get mid k ≡ Some s → t.name ≡ s.name → space_shown t ≡ with_rule r.name (length old.rules.items) made.fronts.items (space_shown s)
    → new.spaces.items ≡ set mid k t → new.rules.items ≡ old.rules.items ++ made.rule ∷ [] → new.strings.items ≡ old.strings.items ++ made.strings.items
    → new.weight ≡ made.weight → IsWalked given (take (place + 1) items) new
rule-kept given items place unit space r old new made mid k s t there w m passed same named es name shown spaces rules strings weight =
    let seen = take place items in
    let p : PlacedRule = record { before = seen; unit = unit; space = space; rule = r } in
    let f : SpaceTree → SpaceTree = with_rule r.name (length (rules_in seen)) (wildcards given p) in
    let is : space_shown t ≡ f (space_shown s) =
    shown ∙ ap (λ n. with_rule r.name n made.fronts.items (space_shown s)) w.counted
    ∙ ap (λ fs. with_rule r.name (length (rules_in seen)) fs (space_shown s)) m.fronts in
    subst (λ l. IsWalked given l new) (sym (take-item items place (Rule unit space r) there))
    (walked-rule given seen unit space r old new made w m passed rules strings weight
    (λ q. ap (found_space q) spaces ∙ spaces-set given seen space old.spaces.items mid k s t f w.spaces same named es name is q))

-- ---- what stands before a rule

pub shown-here : (given : Given) (seen : List Item) (old : Walk) (mid : List Space) (space : Name) (k : ℕ) (s : Space) → IsWalked given seen old
    → ((q : Name) → found_space q mid ≡ found_space q old.spaces.items) → IsFirstNamed space mid k → slice_get mid k ≡ Some s → space_shown s ≡ space_at given seen space
shown-here given seen old mid space k s w same named es = sym (found-at space mid k s named es) ∙ same space ∙ w.spaces space

pub at-hand-is : (at : AtHand) → at.external_names.now ≡ external_names (map external_of at.externals.now)
    → space_shown at.space.now ≡ space_at (given_at at) (placed_at at).before (placed_at at).space → IsAtHand at
at-hand-is at names e = record {
  names = names;
  imports = ap (λ (s : SpaceTree). s.imports) e;
  rules = ap (λ (s : SpaceTree). s.rules) e;
  numbers = ap (λ (s : SpaceTree). s.numbers) e;
  fronts = ap (λ (s : SpaceTree). s.fronts) e;
}

pub strings-before : (given : Given) (seen : List Item) (walk : Walk) → IsWalked given seen walk → length walk.strings.items ≡ strings_in (rules_in seen)
strings-before given seen walk w =
    sym (length-map walk.strings.items checked_string_of) ∙ ap length w.strings ∙ strings-counted given (rules_in seen)

pub each-get : {A : Type 0} (P : A → Type 0) (xs : List A) (k : ℕ) (x : A) → Each P xs → slice_get xs k ≡ Some x → P x
each-get P [] k x h e = absurd cc
each-get P (y ∷ ys) zero x h e = subst P (some-inj e) h.0
each-get P (y ∷ ys) (suc k) x h e = each-get P ys k x h.1 e

pub map-get : {A B : Type 0} (f : A → B) (xs : List A) (k : ℕ) (x : A) → slice_get xs k ≡ Some x → slice_get (map f xs) k ≡ Some (f x)
map-get f [] k x e = absurd cc
map-get f (y ∷ ys) zero x e = ap (λ z. Some (f z)) (some-inj e)
map-get f (y ∷ ys) (suc k) x e = map-get f ys k x e

-- the item that is read at a place
pub item-there : (items : List Placed) (place : ℕ) (x : Placed) (d : Declaration) → place < length items → x ≡ slice_index_or items place x
    → ((p : Placed) → slice_get items place ≡ Some p → declaration_of p.decl.now ≡ d) → slice_get (map item_at items) place ≡ Some (item_of x.unit x.namespace.now d)
item-there items place x d less read here =
    let e = slice_get_read items (length items) place x refl less read in
    map-get item_at items place x e ∙ ap (λ y. Some (item_of x.unit x.namespace.now y)) (here x e)

map-none-same : {A B : Type 0} (f : A → B) (o : Option A) → is_none (option_map f o) ≡ is_none o
map-none-same f None = refl
map-none-same f (Some x) = refl

-- a module that is found or not
pub none-shown : {A B : Type 0} (f : A → B) (o : Option A) (m : Option B) (b : Bool) → option_map f o ≡ m → is_none o ≡ b → is_none m ≡ b
none-shown f o m b e h = sym (ap is_none e) ∙ map-none-same f o ∙ h

-- what explains the first failing check on a rule explains the first fault of all
pub explains-rule : (given : Given) (items : List Item) (place unit : ℕ) (space : Name) (r : RuleTree) (walk : Walk) (e : ResolveFault) → slice_get items place ≡ Some (Rule unit space r)
    → IsWalked given (take place items) walk → Explains e (first (rule_fault given (record { before = take place items; unit = unit; space = space; rule = r })) checks)
    → Explains e (fault_in given items)
explains-rule given items place unit space r walk (fault.Refused x) there w h = refuse-rule given items place unit space r (refusal_of x) walk there w h
explains-rule given items place unit space r walk fault.NoMemory there w h = tt

pub rule-same : (n m : Name) (k j : ℕ) (fs gs : List Name) (s : SpaceTree) → n ≡ m → k ≡ j → fs ≡ gs → with_rule n k fs s ≡ with_rule m j gs s
rule-same n m k j fs gs s a b c = ap (λ x. with_rule x k fs s) a ∙ ap (λ x. with_rule m x fs s) b ∙ ap (λ x. with_rule m j x s) c

pub one-item : {A : Type 0} (xs : List A) (k : ℕ) (x y : A) → slice_get xs k ≡ Some x → slice_get xs k ≡ Some y → x ≡ y
one-item xs k x y e f = some-inj (sym e ∙ f)

pub none-test : {A : Type 0} (o : Option A) (b : Bool) → is_some o ≡ not b → is_none o ≡ b
none-test None true e = refl
none-test None false e = absurd cc
none-test (Some x) true e = absurd cc
none-test (Some x) false e = refl
