-- Parts of paths, open loops from the innermost out, and names with their numbers.
use Rattle.std.proofs.Common.{◌≡◌, ℕ, zero, suc, ◌+◌, ◌<◌, ◌≤◌, Bool, true, false, List, [], ◌∷◌, ◌++◌, map, filter, length, take, drop, get_or, refl, sym, ap, subst, ◌∙◌, arith, add-one, Some, None, Option, append_assoc}
use Rattle.std.specs.Prelude.{if◌then◌else◌, bytes_eq, MatchOption, slice_get, is_some}
use Rattle.std.specs.Option.{option_map, option_or, option_and_then, option_to_list}
use Rattle.std.specs.Cmp.Lexicographic.{bytes_decides}
use Rattle.std.proofs.lemmas.List.{take_more, length-take-le, length-append}
use Rattle.yr_syntax.specs.Condition.{OneStep, Name, Index, Call, steps_of, items_of, Condition, Items, no_item, item, OverPath}
use Rattle.yr_values.specs.Names.{NamedModule}
use Rattle.yr_name_tables.specs.Names.{Name as NameList, has, place_of}
use Rattle.yr_conditions.specs.Meanings.{Around, EarlierRule, Scope, Members, Numbers, Entries, Meaning, Wrong, Variable, Entry, OfLoop, steps_meaning, path_meaning, variable_meaning, current_of, module_named, rule_named, count_of}
use Rattle.yr_conditions.specs.Uses.{Use, step_uses, path_uses}
use Rattle.yr_conditions.specs.UseParts.{one_uses}
use Rattle.yr_conditions.specs.Paths.{step_meaning, start_meaning}
use Rattle.yr_conditions.specs.UseViews.{innermost_first, is_over_members, own_meaning, earlier_rules, imported_modules}

-- ---- parts of paths

pub steps-meaning : (s : OneStep) (ss : List OneStep) (m : Meaning) → steps_meaning (steps_of (s ∷ ss)) m ≡ steps_meaning (steps_of ss) (step_meaning s m)
steps-meaning (Name w) ss m = refl
steps-meaning (Index c) ss m = refl
steps-meaning (Call arguments) ss m = refl

pub steps-uses : (around : Around) (s : OneStep) (ss : List OneStep) (m : Meaning) (scopes : List Scope)
    → step_uses around (steps_of (s ∷ ss)) m scopes ≡ one_uses around s m scopes ++ step_uses around (steps_of ss) (step_meaning s m) scopes
steps-uses around (Name w) ss m scopes = refl
steps-uses around (Index c) ss m scopes = refl
steps-uses around (Call arguments) ss m scopes = refl

pub wrong-steps : (ss : List OneStep) → steps_meaning (steps_of ss) Wrong ≡ Wrong
wrong-steps [] = refl
wrong-steps (Name w ∷ ss) = wrong-steps ss
wrong-steps (Index c ∷ ss) = wrong-steps ss
wrong-steps (Call arguments ∷ ss) = wrong-steps ss

-- what a path with a first part leads to
pub path-head : (around : Around) (s : OneStep) (ss : List OneStep) (scopes : List Scope)
    → path_meaning around (steps_of (s ∷ ss)) scopes ≡ steps_meaning (steps_of ss) (start_meaning around s scopes)
path-head around (Name w) ss scopes = refl
path-head around (Index c) ss scopes = sym (wrong-steps ss)
path-head around (Call arguments) ss scopes = sym (wrong-steps ss)

pub count-items : (cs : List Condition) → count_of (items_of cs) ≡ length cs
count-items [] = refl
count-items (c ∷ cs) = omega (arith, count-items cs)

pub take-whole : {A : Type 0} (xs : List A) → take (length xs) xs ≡ xs
take-whole [] = refl
take-whole (x ∷ xs) = ap (λ l. x ∷ l) (take-whole xs)

-- ---- open loops

pub map-last : {A B : Type 0} (f : A → B) (xs : List A) (y : A) → map f (xs ++ y ∷ []) ≡ map f xs ++ f y ∷ []
map-last f [] y = refl
map-last f (x ∷ xs) y = ap (λ l. f x ∷ l) (map-last f xs y)

pub length-map' : {A B : Type 0} (f : A → B) (xs : List A) → length (map f xs) ≡ length xs
length-map' f [] = refl
length-map' f (x ∷ xs) = omega (arith, length-map' f xs)

pub innermost-last : {A : Type 0} (xs : List A) (y : A) → innermost_first (xs ++ y ∷ []) ≡ y ∷ innermost_first xs
innermost-last [] y = refl
innermost-last (x ∷ xs) y = ap (λ l. l ++ x ∷ []) (innermost-last xs y)

pub innermost-length : {A : Type 0} (xs : List A) → length (innermost_first xs) ≡ length xs
innermost-length [] = refl
innermost-length (x ∷ xs) = omega (arith, innermost-length xs, length-append (innermost_first xs) (x ∷ []))

pub innermost-pop : {A : Type 0} (f : A → Scope) (r : Option A) (old new : List A) (n m : ℕ) (Q : A → Type 0)
    → MatchOption r ((n ≡ 0) × (m ≡ 0)) Q → n ≡ length old → m ≡ length new → old ≡ new ++ option_to_list r
    → innermost_first (map f new) ≡ drop 1 (innermost_first (map f old))
innermost-pop f None [] [] n m Q h p q e = refl
innermost-pop f None [] (y ∷ ys) n m Q h p q e = absurd (omega (arith, h.1))
innermost-pop f None (x ∷ xs) new n m Q h p q e = absurd (omega (arith, h.0))
innermost-pop f (Some x) old new n m Q h p q e =
    sym (ap (λ l. drop 1 (innermost_first (map f l))) e ∙ ap (λ l. drop 1 (innermost_first l)) (map-last f new x) ∙ ap (λ l. drop 1 l) (innermost-last (map f new) (f x)))

-- the open loops up to a number, by the one before it
pub loops-at : {A : Type 0} (f : A → Scope) (xs : List A) (n m : ℕ) (x : A) → n ≡ m + 1 → n ≤ length xs → x ≡ get_or xs m x
    → innermost_first (map f (take n xs)) ≡ f x ∷ innermost_first (map f (take m xs))
loops-at f xs n m x e h is =
    ap (λ k. innermost_first (map f (take k xs))) e
    ∙ ap (λ l. innermost_first (map f l)) (take_more xs m x (omega arith))
    ∙ ap (λ y. innermost_first (map f (take m xs ++ y ∷ []))) (sym is)
    ∙ ap innermost_first (map-last f (take m xs) x)
    ∙ innermost-last (map f (take m xs)) (f x)

pub loops-before : {A : Type 0} (f : A → Scope) (xs : List A) (m : ℕ) → m ≤ length xs → length (innermost_first (map f (take m xs))) ≡ m
loops-before f xs m h = innermost-length (map f (take m xs)) ∙ length-map' f (take m xs) ∙ length-take-le m xs h

number-case : (b : Bool) (k m : ℕ) (rest : Option Meaning) → k ≡ m → (if b then Some (Variable k) else rest) ≡ option_or (if b then Some (Variable m) else None) rest
number-case true k m rest e = ap (λ j. Some (Variable j)) e
number-case false k m rest e = refl

entry-case : (b : Bool) (mo : NamedModule) (path : NameList) (k m : ℕ) (rest : Option Meaning) → k ≡ m
    → (if b then Some (Entry mo path (OfLoop k)) else rest) ≡ option_or (if b then Some (Entry mo path (OfLoop m)) else None) rest
entry-case true mo path k m rest e = ap (λ j. Some (Entry mo path (OfLoop j))) e
entry-case false mo path k m rest e = refl

-- the variable of the innermost loop comes first
pub variable-in : (w : NameList) (s : Scope) (ss : List Scope) (m : ℕ) → length ss ≡ m
    → variable_meaning w (s ∷ ss) ≡ option_or (own_meaning w m s) (variable_meaning w ss)
variable-in w Members ss m e = refl
variable-in w (Numbers v) ss m e = number-case (bytes_eq w v) (length ss) m (variable_meaning w ss) e
variable-in w (Entries v mo path) ss m e = entry-case (bytes_eq w v) mo path (length ss) m (variable_meaning w ss) e

-- the innermost loop over members comes first
pub current-here : (s : Scope) (ss : List Scope) (m : ℕ) → length ss ≡ m → is_over_members s ≡ true → current_of (s ∷ ss) ≡ Some m
current-here Members ss m e h = ap Some e
current-here (Numbers v) ss m e h = absurd cc
current-here (Entries v mo path) ss m e h = absurd cc

pub current-outside : (s : Scope) (ss : List Scope) → is_over_members s ≡ false → current_of (s ∷ ss) ≡ current_of ss
current-outside Members ss h = absurd cc
current-outside (Numbers v) ss h = refl
current-outside (Entries v mo path) ss h = refl

-- ---- names with their numbers

number-behind : (p : Option ℕ) (k : ℕ) (ks : List ℕ) → option_and_then (slice_get (k ∷ ks)) (option_map (λ j. j + 1) p) ≡ option_and_then (slice_get ks) p
number-behind None k ks = refl
number-behind (Some j) k ks = ap (slice_get (k ∷ ks)) (add-one j)

pub rule-named : (ns : List NameList) (ks : List ℕ) (w : NameList) → length ks ≡ length ns → rule_named (earlier_rules ns ks) w ≡ option_and_then (slice_get ks) (place_of w ns)
rule-named [] ks w e = refl
rule-named (n ∷ ns) [] w e = absurd (omega arith)
rule-named (n ∷ ns) (k ∷ ks) w e = by (bytes_eq w n) (rule-named ns ks w (omega arith))
  where
    by : (b : Bool) → rule_named (earlier_rules ns ks) w ≡ option_and_then (slice_get ks) (place_of w ns)
        → (if b then Some k else rule_named (earlier_rules ns ks) w) ≡ option_and_then (slice_get (k ∷ ks)) (if b then Some 0 else option_map (λ j. j + 1) (place_of w ns))
    by true rest = refl
    by false rest = rest ∙ sym (number-behind (place_of w ns) k ks)

-- ---- what may be there

pub or-there : {A : Type 0} (a b : Option A) → is_some a ≡ true → option_or a b ≡ a
or-there (Some x) b e = refl
or-there None b e = absurd cc

pub or-none : {A : Type 0} (a b : Option A) → a ≡ None → option_or a b ≡ b
or-none a b e = ap (λ o. option_or o b) e

pub shown-some : {A B : Type 0} (f : A → B) (o : Option A) → is_some o ≡ true → is_some (option_map f o) ≡ true
shown-some f (Some x) e = refl
shown-some f None e = absurd cc

pub shown-none : {A B : Type 0} (f : A → B) (o : Option A) → is_some o ≡ false → option_map f o ≡ None
shown-none f None e = refl
shown-none f (Some x) e = absurd cc

-- ---- modules

imported-step : (names : List NameList) (ms : List NamedModule) (m : NamedModule) (w : NameList) (a b h : Bool)
    → bytes_eq w m.name ≡ a → has m.name names ≡ b → has w names ≡ h
    → module_named (imported_modules names ms) w ≡ (if h then module_named ms w else None)
    → module_named (if b then m ∷ imported_modules names ms else imported_modules names ms) w
    ≡ (if h then (if a then Some m else module_named ms w) else None)
imported-step names ms m w true true true e f g rest = ap (λ x. if x then Some m else module_named (imported_modules names ms) w) e
imported-step names ms m w true false false e f g rest = rest
imported-step names ms m w true true false e f g rest =
    let same : w ≡ m.name = (bytes_decides w m.name).0 e in let both : has w names ≡ true = ap (λ n. has n names) same ∙ f in absurd (cc (g, both))
imported-step names ms m w true false true e f g rest =
    let same : w ≡ m.name = (bytes_decides w m.name).0 e in let both : has w names ≡ false = ap (λ n. has n names) same ∙ f in absurd (cc (g, both))
imported-step names ms m w false true h e f g rest = ap (λ x. if x then Some m else module_named (imported_modules names ms) w) e ∙ rest
imported-step names ms m w false false h e f g rest = rest

none-here : {A : Type 0} (h : Bool) (o : Option A) → o ≡ None → (if h then o else None) ≡ None
none-here true o e = e
none-here false o e = refl

-- a word names an imported module where it stands among the imports
pub imported-named : (names : List NameList) (ms : List NamedModule) (w : NameList)
    → module_named (imported_modules names ms) w ≡ (if has w names then module_named ms w else None)
imported-named names [] w = sym (none-here (has w names) (module_named [] w) refl)
imported-named names (m ∷ ms) w =
    imported-step names ms m w (bytes_eq w m.name) (has m.name names) (has w names) refl refl refl (imported-named names ms w)

pub imported-present : (names : List NameList) (ms : List NamedModule) (w : NameList) → has w names ≡ true → module_named (imported_modules names ms) w ≡ module_named ms w
imported-present names ms w e = imported-named names ms w ∙ ap (λ h. if h then module_named ms w else None) e

pub imported-absent : (names : List NameList) (ms : List NamedModule) (w : NameList) → has w names ≡ false → module_named (imported_modules names ms) w ≡ None
imported-absent names ms w e = imported-named names ms w ∙ ap (λ h. if h then module_named ms w else None) e
