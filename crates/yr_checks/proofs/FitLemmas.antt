-- A checked condition fits the rows that its names are looked up in.
use Rattle.std.proofs.Common.{◌≡◌, ℕ, zero, suc, ◌+◌, ◌≤◌, ◌<◌, List, [], ◌∷◌, ◌++◌, length, map, Bool, true, false, refl, sym, ap, subst, ◌∙◌, inl, inr, arith, Some, None, Option, Result, Ok, Err}
use Rattle.std.specs.Prelude.{All, if◌then◌else◌, bytes_eq, ◌==◌, codes}
use Rattle.std.specs.List.{range_with_len}
use Rattle.std.specs.Option.{option_map, option_or, unwrap_or}
use Rattle.std.proofs.lemmas.List.{length-map}
use Rattle.yr_base.specs.declared.value.Kind.{Kind}
use Rattle.yr_pattern.specs.Sizes.{size_of}
use Rattle.yr_pattern.specs.Tree as pattern
use Rattle.yr_syntax.specs.Condition as tree
use Rattle.yr_syntax.specs.Condition.{Condition, Links, Steps, Items, Where, Asked, Domain, SetTree, ItemTree, RegexTree}
use Rattle.yr_syntax.specs.Forms.{Each}
use Rattle.yr_values.specs.declared.names.ModuleEntry.{ModuleEntry}
use Rattle.yr_values.specs.declared.names.ModuleEntry.TheVariants as row
use Rattle.yr_values.specs.Names.{NamedModule}
use Rattle.yr_rules.specs.declared.members.StringRef.{StringRef}
use Rattle.yr_rules.specs.declared.members.StringRef.TheVariants as ref
use Rattle.yr_rules.specs.NodeTree as node
use Rattle.yr_rules.specs.NodeTree.{NodeTree, NodeLinks, NodeItems, NodeWhere, NodeAsked, NodeDomain, NodeSet}
use Rattle.yr_rules.specs.Loops as loop
use Rattle.yr_rules.specs.Loops.{Loop, loop_at, loop_over}
use Rattle.yr_rules.specs.Fits.{Rows, Fits, LinksFit, ItemsFit, PlaceFits, AskedFits, DomainFits, StringFits, SetFits, count_of as node_count, loop_limit, list_limit, size_limit}
use Rattle.yr_name_tables.specs.Names.{Name, place_of, is_meant, numbers_meant}
use Rattle.yr_conditions.specs.Readers.{Readers, Expression, RegexRefusal, expression_of}
use Rattle.yr_conditions.specs.Meanings as meaning
use Rattle.yr_conditions.specs.Meanings.{Around, EarlierRule, Scope, Meaning, Index, meaning_of, variable_meaning, module_named, rule_named, row_named, row_meaning, member_meaning, path_meaning, then_name, then_index, then_call, count_of, scope_of, opened, current_of}
use Rattle.yr_conditions.specs.Uses as use'
use Rattle.yr_conditions.specs.Uses.{Use, uses_of, link_uses, path_uses, step_uses, item_uses, place_uses, asked_uses, domain_uses, string_uses, set_uses, word_uses}
use Rattle.yr_conditions.specs.Nodes.{of_two, of_three, rules_meant, set_node, string_ref, regex_node, value_node, entries_node, items_node, node_of, links_node, path_node, steps_node, each_node, place_node, asked_node, domain_node}
use Rattle.yr_checks.specs.Fitting.{LiesIn, IsWithin}

pub some-inj : {A : Type 0} {a b : A} → Some a ≡ Some b → a ≡ b
some-inj e = cc

-- ---- options

pub map-some : {A B : Type 0} (f : A → B) (a : Option A) (z : B) → option_map f a ≡ Some z → (x : A) × (a ≡ Some x) × (z ≡ f x)
map-some f None z e = absurd cc
map-some f (Some x) z e = (x, refl, sym (some-inj e))

pub two-some : {A B C : Type 0} (f : A → B → C) (a : Option A) (b : Option B) (z : C) → of_two f a b ≡ Some z
    → (x : A) × (y : B) × (a ≡ Some x) × (b ≡ Some y) × (z ≡ f x y)
two-some f None b z e = absurd cc
two-some f (Some x) b z e = let m = map-some (f x) b z e in (x, m.0, refl, m.1, m.2)

pub three-some : {A B C D : Type 0} (f : A → B → C → D) (a : Option A) (b : Option B) (c : Option C) (z : D) → of_three f a b c ≡ Some z
    → (x : A) × (y : B) × (w : C) × (a ≡ Some x) × (b ≡ Some y) × (c ≡ Some w) × (z ≡ f x y w)
three-some f None b c z e = absurd cc
three-some f (Some x) b c z e = let m = two-some (f x) b c z e in (x, m.0, m.1, refl, m.2, m.3, m.4)

-- ---- lists

each-all : {A : Type 0} (P : A → Type 0) (xs : List A) → Each P xs → All P xs
each-all P [] h k d less = absurd (omega arith)
each-all P (x ∷ xs) h zero d less = h.0
each-all P (x ∷ xs) h (suc k) d less = each-all P xs h.1 k d (omega arith)

each-left : {A : Type 0} (P : A → Type 0) (xs ys : List A) → Each P (xs ++ ys) → Each P xs
each-left P [] ys h = tt
each-left P (x ∷ xs) ys h = (h.0, each-left P xs ys h.1)

each-right : {A : Type 0} (P : A → Type 0) (xs ys : List A) → Each P (xs ++ ys) → Each P ys
each-right P [] ys h = h
each-right P (x ∷ xs) ys h = each-right P xs ys h.1

place-within : (n : Name) (names : List Name) (k : ℕ) → place_of n names ≡ Some k → k < length names
place-within n [] k e = absurd cc
place-within n (m ∷ ms) k e = by (bytes_eq n m) refl (λ j h. place-within n ms j h)
  where
    by : (b : Bool) → bytes_eq n m ≡ b → ((j : ℕ) → place_of n ms ≡ Some j → j < length ms) → k < length (m ∷ ms)
    by true h rest = let z : k ≡ 0 = sym (some-inj (ap (λ b. if b then Some 0 else option_map (λ j. j + 1) (place_of n ms)) (sym h) ∙ e)) in omega arith
    by false h rest =
        let s = map-some (λ j. j + 1) (place_of n ms) k (ap (λ b. if b then Some 0 else option_map (λ j. j + 1) (place_of n ms)) (sym h) ∙ e) in
        let w : s.0 < length ms = rest s.0 s.1 in
        let z : k ≡ s.0 + 1 = s.2 in omega arith

-- ---- loops

-- the loop that a scope is
abbrev loop_of : Scope → Loop
loop_of meaning.Members = loop.Members
loop_of (meaning.Numbers v) = loop.Numbers
loop_of (meaning.Entries v m path) = loop.Entries

abbrev loops_of : List Scope → List Loop
loops_of scopes = map loop_of scopes

same-number : (n : ℕ) → (n == n) ≡ true
same-number n = grind (arith)

other-number : (k n : ℕ) → k < n → (k == n) ≡ false
other-number k n h = grind (arith)

pub if-true : {A : Type 0} (b : Bool) (x y : A) → b ≡ true → (if b then x else y) ≡ x
if-true true x y h = refl
if-true false x y h = absurd cc

pub if-false : {A : Type 0} (b : Bool) (x y : A) → b ≡ false → (if b then x else y) ≡ y
if-false false x y h = refl
if-false true x y h = absurd cc

loop-top : (l : Loop) (ls : List Loop) → loop_at (length ls) (l ∷ ls) ≡ Some l
loop-top l ls = if-true (length ls == length ls) (Some l) (loop_at (length ls) ls) (same-number (length ls))

loop-within : (k : ℕ) (ls : List Loop) (x : Loop) → loop_at k ls ≡ Some x → k < length ls
loop-within k [] x e = absurd cc
loop-within k (l ∷ ls) x e = by (k == length ls) refl (loop-within k ls x)
  where
    by : (b : Bool) → (k == length ls) ≡ b → (loop_at k ls ≡ Some x → k < length ls) → k < length (l ∷ ls)
    by true h rest = grind (arith)
    by false h rest = let w : k < length ls = rest (sym (if-false (k == length ls) (Some l) (loop_at k ls) h) ∙ e) in omega arith

loop-more : (k : ℕ) (l : Loop) (ls : List Loop) (x : Loop) → loop_at k ls ≡ Some x → loop_at k (l ∷ ls) ≡ Some x
loop-more k l ls x e = if-false (k == length ls) (Some l) (loop_at k ls) (other-number k (length ls) (loop-within k ls x e)) ∙ e

loops-length : (scopes : List Scope) → length (loops_of scopes) ≡ length scopes
loops-length scopes = length-map scopes loop_of

-- the innermost scope is the loop with the number of the scopes round it
scope-top : (s : Scope) (scopes : List Scope) → loop_at (length scopes) (loops_of (s ∷ scopes)) ≡ Some (loop_of s)
scope-top s scopes = subst (λ k. loop_at k (loops_of (s ∷ scopes)) ≡ Some (loop_of s)) (loops-length scopes) (loop-top (loop_of s) (loops_of scopes))

module _ (rows : Rows) where
  abbrev IndexFits : Index → List Scope → Type 0
  IndexFits meaning.NoIndex scopes = Unit {0}
  IndexFits (meaning.OfLoop k) scopes = loop_at k (loops_of scopes) ≡ Some loop.Entries
  IndexFits meaning.Written scopes = Unit {0}

  -- a meaning that fits: its loop is open and of its form, its row is there
  abbrev MeaningFits : Meaning → List Scope → Type 0
  MeaningFits meaning.Unknown scopes = Unit {0}
  MeaningFits meaning.Wrong scopes = Unit {0}
  MeaningFits (meaning.Module m) scopes = Unit {0}
  MeaningFits (meaning.Array m path count) scopes = Unit {0}
  MeaningFits (meaning.Entry m path index) scopes = IndexFits index scopes
  MeaningFits (meaning.Function id kind) scopes = Unit {0}
  MeaningFits (meaning.Constant n) scopes = Unit {0}
  MeaningFits (meaning.Field id kind index) scopes = IndexFits index scopes
  MeaningFits (meaning.Result id kind) scopes = Unit {0}
  MeaningFits (meaning.Variable k) scopes = loop_at k (loops_of scopes) ≡ Some loop.Numbers
  MeaningFits (meaning.External k) scopes = k < rows.externals
  MeaningFits (meaning.RuleTruth k) scopes = k < rows.rules

  index-more : (s : Scope) (scopes : List Scope) (i : Index) → IndexFits i scopes → IndexFits i (s ∷ scopes)
  index-more s scopes meaning.NoIndex h = tt
  index-more s scopes (meaning.OfLoop k) h = loop-more k (loop_of s) (loops_of scopes) loop.Entries h
  index-more s scopes meaning.Written h = tt

  meaning-more : (s : Scope) (scopes : List Scope) (m : Meaning) → MeaningFits m scopes → MeaningFits m (s ∷ scopes)
  meaning-more s scopes meaning.Unknown h = tt
  meaning-more s scopes meaning.Wrong h = tt
  meaning-more s scopes (meaning.Module m) h = tt
  meaning-more s scopes (meaning.Array m path count) h = tt
  meaning-more s scopes (meaning.Entry m path index) h = index-more s scopes index h
  meaning-more s scopes (meaning.Function id kind) h = tt
  meaning-more s scopes (meaning.Constant n) h = tt
  meaning-more s scopes (meaning.Field id kind index) h = index-more s scopes index h
  meaning-more s scopes (meaning.Result id kind) h = tt
  meaning-more s scopes (meaning.Variable k) h = loop-more k (loop_of s) (loops_of scopes) loop.Numbers h
  meaning-more s scopes (meaning.External k) h = h
  meaning-more s scopes (meaning.RuleTruth k) h = h

  named-fits : (b : Bool) (own : Meaning) (rest : Option Meaning) (scopes : List Scope) (m : Meaning)
      → MeaningFits own scopes → ((x : Meaning) → rest ≡ Some x → MeaningFits x scopes) → (if b then Some own else rest) ≡ Some m → MeaningFits m scopes
  named-fits true own rest scopes m here there e = subst (λ x. MeaningFits x scopes) (some-inj e) here
  named-fits false own rest scopes m here there e = there m e

  variable-fits : (w : Name) (scopes : List Scope) (m : Meaning) → variable_meaning w scopes ≡ Some m → MeaningFits m scopes
  variable-fits w [] m e = absurd cc
  variable-fits w (meaning.Members ∷ scopes) m e = meaning-more meaning.Members scopes m (variable-fits w scopes m e)
  variable-fits w (meaning.Numbers v ∷ scopes) m e =
      named-fits (bytes_eq w v) (meaning.Variable (length scopes)) (variable_meaning w scopes) (meaning.Numbers v ∷ scopes) m
      (scope-top (meaning.Numbers v) scopes) (λ x h. meaning-more (meaning.Numbers v) scopes x (variable-fits w scopes x h)) e
  variable-fits w (meaning.Entries v a path ∷ scopes) m e =
      named-fits (bytes_eq w v) (meaning.Entry a path (meaning.OfLoop (length scopes))) (variable_meaning w scopes) (meaning.Entries v a path ∷ scopes) m
      (scope-top (meaning.Entries v a path) scopes) (λ x h. meaning-more (meaning.Entries v a path) scopes x (variable-fits w scopes x h)) e

  or-fits : (scopes : List Scope) (a b : Option Meaning) → ((x : Meaning) → a ≡ Some x → MeaningFits x scopes) → ((x : Meaning) → b ≡ Some x → MeaningFits x scopes)
      → (m : Meaning) → option_or a b ≡ Some m → MeaningFits m scopes
  or-fits scopes (Some x) b f g m e = f m e
  or-fits scopes None b f g m e = g m e

  unwrap-fits : (scopes : List Scope) (a : Option Meaning) → ((x : Meaning) → a ≡ Some x → MeaningFits x scopes) → MeaningFits (unwrap_or a meaning.Unknown) scopes
  unwrap-fits scopes (Some x) f = f x refl
  unwrap-fits scopes None f = tt

  rule-fits : (rs : List EarlierRule) (w : Name) (k : ℕ) → Each (λ r. r.number < rows.rules) rs → rule_named rs w ≡ Some k → k < rows.rules
  rule-fits [] w k h e = absurd cc
  rule-fits (r ∷ rs) w k h e = by (bytes_eq w r.name) refl (rule-fits rs w k h.1)
    where
      by : (b : Bool) → bytes_eq w r.name ≡ b → (rule_named rs w ≡ Some k → k < rows.rules) → k < rows.rules
      by true t rest = subst (λ x. x < rows.rules) (some-inj (sym (if-true (bytes_eq w r.name) (Some r.number) (rule_named rs w) t) ∙ e)) h.0
      by false t rest = rest (sym (if-false (bytes_eq w r.name) (Some r.number) (rule_named rs w) t) ∙ e)

  row-fits : (m : NamedModule) (path : Name) (i : Index) (o : Option ModuleEntry) (scopes : List Scope) → IndexFits i scopes → MeaningFits (row_meaning m path i o) scopes
  row-fits m path i None scopes h = tt
  row-fits m path i (Some (row.Constant n)) scopes h = tt
  row-fits m path i (Some (row.Field id kind)) scopes h = h
  row-fits m path i (Some (row.Array count)) scopes h = tt
  row-fits m path i (Some (row.Call id kind)) scopes h = tt

  then_name-fits : (m : Meaning) (w : Name) (scopes : List Scope) → MeaningFits m scopes → MeaningFits (then_name m w) scopes
  then_name-fits meaning.Unknown w scopes h = tt
  then_name-fits meaning.Wrong w scopes h = tt
  then_name-fits (meaning.Module m) w scopes h = row-fits m w meaning.NoIndex (row_named m.rows w) scopes tt
  then_name-fits (meaning.Array m path count) w scopes h = tt
  then_name-fits (meaning.Entry m path i) w scopes h =
      row-fits m (path ++ codes "[]." ++ w) i (row_named m.rows (path ++ codes "[]." ++ w)) scopes h
  then_name-fits (meaning.Function id kind) w scopes h = tt
  then_name-fits (meaning.Constant n) w scopes h = tt
  then_name-fits (meaning.Field id kind i) w scopes h = tt
  then_name-fits (meaning.Result id kind) w scopes h = tt
  then_name-fits (meaning.Variable k) w scopes h = tt
  then_name-fits (meaning.External k) w scopes h = tt
  then_name-fits (meaning.RuleTruth k) w scopes h = tt

  then_index-fits : (m : Meaning) (scopes : List Scope) → MeaningFits (then_index m) scopes
  then_index-fits meaning.Unknown scopes = tt
  then_index-fits meaning.Wrong scopes = tt
  then_index-fits (meaning.Module m) scopes = tt
  then_index-fits (meaning.Array m path count) scopes = tt
  then_index-fits (meaning.Entry m path i) scopes = tt
  then_index-fits (meaning.Function id kind) scopes = tt
  then_index-fits (meaning.Constant n) scopes = tt
  then_index-fits (meaning.Field id kind i) scopes = tt
  then_index-fits (meaning.Result id kind) scopes = tt
  then_index-fits (meaning.Variable k) scopes = tt
  then_index-fits (meaning.External k) scopes = tt
  then_index-fits (meaning.RuleTruth k) scopes = tt

  choice-fits : (b : Bool) (id : ℕ) (kind : Kind) (scopes : List Scope) → MeaningFits (if b then meaning.Result id kind else meaning.Wrong) scopes
  choice-fits true id kind scopes = tt
  choice-fits false id kind scopes = tt

  then_call-fits : (m : Meaning) (n : ℕ) (scopes : List Scope) → MeaningFits (then_call m n) scopes
  then_call-fits meaning.Unknown n scopes = tt
  then_call-fits meaning.Wrong n scopes = tt
  then_call-fits (meaning.Module m) n scopes = tt
  then_call-fits (meaning.Array m path count) n scopes = tt
  then_call-fits (meaning.Entry m path i) n scopes = tt
  then_call-fits (meaning.Function id kind) n scopes = choice-fits (n == 2) id kind scopes
  then_call-fits (meaning.Constant k) n scopes = tt
  then_call-fits (meaning.Field id kind i) n scopes = tt
  then_call-fits (meaning.Result id kind) n scopes = tt
  then_call-fits (meaning.Variable k) n scopes = tt
  then_call-fits (meaning.External k) n scopes = tt
  then_call-fits (meaning.RuleTruth k) n scopes = tt

  -- each condition that is there fits
  abbrev WrittenFit : List (Option NodeTree) → List Scope → Type 0
  WrittenFit written scopes = Each (λ o. (n : NodeTree) → o ≡ Some n → Fits rows n (loops_of scopes)) written

  -- the node is this, which fits
  made : (n m : NodeTree) (ls : List Loop) → n ≡ m → Fits rows m ls → Fits rows n ls
  made n m ls e h = subst (λ x. Fits rows x ls) (sym e) h

  value-fits : (m : Meaning) (written : List (Option NodeTree)) (scopes : List Scope) (n : NodeTree) → MeaningFits m scopes → WrittenFit written scopes
      → value_node m written ≡ Some n → Fits rows n (loops_of scopes)
  value-fits meaning.Unknown written scopes n h w e = absurd cc
  value-fits meaning.Wrong written scopes n h w e = absurd cc
  value-fits (meaning.Module m) written scopes n h w e = absurd cc
  value-fits (meaning.Array m path count) written scopes n h w e = absurd cc
  value-fits (meaning.Entry m path i) written scopes n h w e = absurd cc
  value-fits (meaning.Function id kind) written scopes n h w e = absurd cc
  value-fits (meaning.Constant k) written scopes n h w e = made n (node.Number k) (loops_of scopes) (sym (some-inj e)) tt
  value-fits (meaning.Field id kind meaning.NoIndex) written scopes n h w e = made n (node.Field id kind) (loops_of scopes) (sym (some-inj e)) tt
  value-fits (meaning.Field id kind (meaning.OfLoop k)) written scopes n h w e = made n (node.FieldAt id kind (node.Var k)) (loops_of scopes) (sym (some-inj e)) (inr h)
  value-fits (meaning.Field id kind meaning.Written) [] scopes n h w e = absurd cc
  value-fits (meaning.Field id kind meaning.Written) (o ∷ rest) scopes n h w e =
      let s = map-some (node.FieldAt id kind) o n e in made n (node.FieldAt id kind s.0) (loops_of scopes) s.2 (w.0 s.0 s.1)
  value-fits (meaning.Result id kind) [] scopes n h w e = absurd cc
  value-fits (meaning.Result id kind) (a ∷ []) scopes n h w e = absurd cc
  value-fits (meaning.Result id kind) (a ∷ b ∷ []) scopes n h w e =
      let s = two-some (node.Call id kind) a b n e in made n (node.Call id kind s.0 s.1) (loops_of scopes) s.4 (w.0 s.0 s.2, w.1.0 s.1 s.3)
  value-fits (meaning.Result id kind) (a ∷ b ∷ c ∷ rest) scopes n h w e = absurd cc
  value-fits (meaning.Variable k) written scopes n h w e = made n (node.Var k) (loops_of scopes) (sym (some-inj e)) (inl h)
  value-fits (meaning.External k) written scopes n h w e = made n (node.External k) (loops_of scopes) (sym (some-inj e)) h
  value-fits (meaning.RuleTruth k) written scopes n h w e = made n (node.RuleTruth k) (loops_of scopes) (sym (some-inj e)) h

  current-fits : (scopes : List Scope) (k : ℕ) → current_of scopes ≡ Some k → loop_at k (loops_of scopes) ≡ Some loop.Members
  current-fits [] k e = absurd cc
  current-fits (meaning.Members ∷ scopes) k e = subst (λ j. loop_at j (loops_of (meaning.Members ∷ scopes)) ≡ Some loop.Members) (some-inj e) (scope-top meaning.Members scopes)
  current-fits (meaning.Numbers v ∷ scopes) k e = loop-more k loop.Numbers (loops_of scopes) loop.Members (current-fits scopes k e)
  current-fits (meaning.Entries v m path ∷ scopes) k e = loop-more k loop.Entries (loops_of scopes) loop.Members (current-fits scopes k e)

  range-fits : (a n : ℕ) → a + n ≤ rows.strings → Each (λ k. k < rows.strings) (range_with_len a n)
  range-fits a zero h = tt
  range-fits a (suc n) h = (omega arith, range-fits (a + 1) n (omega arith))

  numbers-fit : (items : List ItemTree) (k : ℕ) (names : List Name) → k + length names ≤ rows.strings → Each (λ j. j < rows.strings) (numbers_meant items k names)
  numbers-fit items k [] h = tt
  numbers-fit items k (n ∷ ns) h = by (is_meant items n) (numbers-fit items (k + 1) ns (omega arith))
    where
      by : (b : Bool) → Each (λ j. j < rows.strings) (numbers_meant items (k + 1) ns)
          → Each (λ j. j < rows.strings) (if b then k ∷ numbers_meant items (k + 1) ns else numbers_meant items (k + 1) ns)
      by true rest = (omega arith, rest)
      by false rest = rest

  rules-fit : (items : List ItemTree) (rs : List EarlierRule) → Each (λ r. r.number < rows.rules) rs → Each (λ j. j < rows.rules) (rules_meant items rs)
  rules-fit items [] h = tt
  rules-fit items (r ∷ rs) h = by (is_meant items r.name) (rules-fit items rs h.1)
    where
      by : (b : Bool) → Each (λ j. j < rows.rules) (rules_meant items rs)
          → Each (λ j. j < rows.rules) (if b then r.number ∷ rules_meant items rs else rules_meant items rs)
      by true rest = (h.0, rest)
      by false rest = rest

module _ (readers : Readers) (around : Around) (rows : Rows) (lies : LiesIn rows around) where
  abbrev Within : List Use → Type 0
  Within uses = Each (IsWithin readers) uses

  meaning-fits : (w : Name) (scopes : List Scope) → MeaningFits rows (meaning_of around w scopes) scopes
  meaning-fits w scopes =
      unwrap-fits rows scopes
      (option_or (variable_meaning w scopes)
      (option_or (option_map meaning.Module (module_named around.modules w))
      (option_or (option_map meaning.External (place_of w (map (λ e. e.name) around.externals)))
      (option_map meaning.RuleTruth (rule_named around.rules w)))))
      (or-fits rows scopes (variable_meaning w scopes)
      (option_or (option_map meaning.Module (module_named around.modules w))
      (option_or (option_map meaning.External (place_of w (map (λ e. e.name) around.externals)))
      (option_map meaning.RuleTruth (rule_named around.rules w))))
      (variable-fits rows w scopes)
      (or-fits rows scopes (option_map meaning.Module (module_named around.modules w))
      (option_or (option_map meaning.External (place_of w (map (λ e. e.name) around.externals)))
      (option_map meaning.RuleTruth (rule_named around.rules w)))
      (λ x e. let s = map-some meaning.Module (module_named around.modules w) x e in subst (λ m. MeaningFits rows m scopes) (sym s.2) tt)
      (or-fits rows scopes (option_map meaning.External (place_of w (map (λ e. e.name) around.externals)))
      (option_map meaning.RuleTruth (rule_named around.rules w)) external-fits rule-truth-fits)))
    where
      external-fits : (x : Meaning) → option_map meaning.External (place_of w (map (λ e. e.name) around.externals)) ≡ Some x → MeaningFits rows x scopes
      external-fits x e =
          let s = map-some meaning.External (place_of w (map (λ e. e.name) around.externals)) x e in
          let a = place-within w (map (λ e. e.name) around.externals) s.0 s.1 in
          let b = length-map around.externals (λ e. e.name) in
          let c = lies.externals in
          subst (λ m. MeaningFits rows m scopes) (sym s.2) (omega arith)

      rule-truth-fits : (x : Meaning) → option_map meaning.RuleTruth (rule_named around.rules w) ≡ Some x → MeaningFits rows x scopes
      rule-truth-fits x e =
          let s = map-some meaning.RuleTruth (rule_named around.rules w) x e in
          subst (λ m. MeaningFits rows m scopes) (sym s.2) (rule-fits rows around.rules w s.0 lies.rules s.1)

  string-fits : (name : Name) (scopes : List Scope) (s : StringRef) → string_ref around name scopes ≡ Some s → StringFits rows s (loops_of scopes)
  string-fits [] scopes s e =
      let t = map-some ref.Current (current_of scopes) s e in
      subst (λ x. StringFits rows x (loops_of scopes)) (sym t.2) (current-fits rows scopes t.0 t.1)
  string-fits (b ∷ bs) scopes s e =
      let t = map-some (λ k. ref.Known (around.first_string + k)) (place_of (b ∷ bs) around.strings) s e in
      let a = place-within (b ∷ bs) around.strings t.0 t.1 in
      let c = lies.strings in
      subst (λ x. StringFits rows x (loops_of scopes)) (sym t.2) (omega arith)

  set-fits : (set : SetTree) → SetFits rows (set_node around set)
  set-fits tree.Them = each-all (λ k. k < rows.strings) (range_with_len around.first_string (length around.strings)) (range-fits rows around.first_string (length around.strings) lies.strings)
  set-fits (tree.Strings items) = each-all (λ k. k < rows.strings) (numbers_meant items around.first_string around.strings) (numbers-fit rows items around.first_string around.strings lies.strings)
  set-fits (tree.Rules items) = each-all (λ k. k < rows.rules) (rules_meant items around.rules) (rules-fit rows items around.rules lies.rules)

  -- a loop's domain goes with the scope that it opens
  entries-open : (v : Name) (m : Meaning) (d : NodeDomain) → entries_node m ≡ Some d → loop_of (scope_of v m) ≡ loop_over d
  entries-open v (meaning.Array m path count) d e = ap loop_over (some-inj e)
  entries-open v meaning.Unknown d e = absurd cc
  entries-open v meaning.Wrong d e = absurd cc
  entries-open v (meaning.Module m) d e = absurd cc
  entries-open v (meaning.Entry m path i) d e = absurd cc
  entries-open v (meaning.Function id kind) d e = absurd cc
  entries-open v (meaning.Constant n) d e = absurd cc
  entries-open v (meaning.Field id kind i) d e = absurd cc
  entries-open v (meaning.Result id kind) d e = absurd cc
  entries-open v (meaning.Variable k) d e = absurd cc
  entries-open v (meaning.External k) d e = absurd cc
  entries-open v (meaning.RuleTruth k) d e = absurd cc

  domain-opens : (v : Name) (o : Domain) (scopes : List Scope) (d : NodeDomain) → domain_node readers around o scopes ≡ Some d
      → loop_of (opened around v o scopes) ≡ loop_over d
  domain-opens v (tree.OverRange low high) scopes d e =
      let s = two-some node.OverRange (node_of readers around low scopes) (node_of readers around high scopes) d e in ap loop_over (sym s.4)
  domain-opens v (tree.OverList items) scopes d e =
      let s = map-some node.OverList (items_node (each_node readers around items scopes)) d e in ap loop_over (sym s.2)
  domain-opens v (tree.OverPath steps) scopes d e = entries-open v (path_meaning around steps scopes) d e

  count-same : (items : Items) (scopes : List Scope) (ns : NodeItems) → items_node (each_node readers around items scopes) ≡ Some ns → node_count ns ≡ count_of items
  count-same tree.no_item scopes ns e = ap node_count (sym (some-inj e))
  count-same (tree.item c rest) scopes ns e =
      let s = two-some node.item (node_of readers around c scopes) (items_node (each_node readers around rest scopes)) ns e in
      let t = count-same rest scopes s.1 s.3 in
      ap node_count s.4 ∙ omega (arith, t)

  regex-some : (o : Result Expression RegexRefusal) (p : pattern.Tree) → regex_node o ≡ Some p → (e : Expression) × (o ≡ Ok e) × (p ≡ e.pattern)
  regex-some (Ok e) p h = (e, refl, sym (some-inj h))
  regex-some (Err refusal) p h = absurd cc

  round-fits : (scopes : List Scope) → length scopes < loop_limit → length (loops_of scopes) < loop_limit
  round-fits scopes h = subst (λ n. n < loop_limit) (sym (loops-length scopes)) h

  entries-fit : (m : Meaning) (d : NodeDomain) (scopes : List Scope) → entries_node m ≡ Some d → DomainFits rows d (loops_of scopes)
  entries-fit (meaning.Array m path count) d scopes e = subst (λ x. DomainFits rows x (loops_of scopes)) (some-inj e) tt
  entries-fit meaning.Unknown d scopes e = absurd cc
  entries-fit meaning.Wrong d scopes e = absurd cc
  entries-fit (meaning.Module m) d scopes e = absurd cc
  entries-fit (meaning.Entry m path i) d scopes e = absurd cc
  entries-fit (meaning.Function id kind) d scopes e = absurd cc
  entries-fit (meaning.Constant n) d scopes e = absurd cc
  entries-fit (meaning.Field id kind i) d scopes e = absurd cc
  entries-fit (meaning.Result id kind) d scopes e = absurd cc
  entries-fit (meaning.Variable k) d scopes e = absurd cc
  entries-fit (meaning.External k) d scopes e = absurd cc
  entries-fit (meaning.RuleTruth k) d scopes e = absurd cc

  mutual
    fits : (c : Condition) (scopes : List Scope) (n : NodeTree) → node_of readers around c scopes ≡ Some n → Within (uses_of around c scopes) → Fits rows n (loops_of scopes)
    fits (tree.Number k) scopes n e u = made rows n (node.Number k) (loops_of scopes) (sym (some-inj e)) tt
    fits (tree.Text t) scopes n e u = made rows n (node.Text t) (loops_of scopes) (sym (some-inj e)) tt
    fits (tree.Flag b) scopes n e u = made rows n (node.Flag b) (loops_of scopes) (sym (some-inj e)) tt
    fits tree.FileSize scopes n e u = made rows n node.FileSize (loops_of scopes) (sym (some-inj e)) tt
    fits (tree.Path steps) scopes n e u = path-fits steps scopes n e u
    fits (tree.Found name place) scopes n e u =
        let s = two-some node.Found (string_ref around name scopes) (place_node readers around place scopes) n e in
        made rows n (node.Found s.0 s.1) (loops_of scopes) s.4
        (string-fits name scopes s.0 s.2, place-fits place scopes s.1 s.3 (each-right (IsWithin readers) (string_uses 36 name scopes) (place_uses around place scopes) u))
    fits (tree.Count name) scopes n e u =
        let s = map-some node.Count (string_ref around name scopes) n e in made rows n (node.Count s.0) (loops_of scopes) s.2 (string-fits name scopes s.0 s.1)
    fits (tree.CountIn name low high) scopes n e u =
        let s = three-some node.CountIn (string_ref around name scopes) (node_of readers around low scopes) (node_of readers around high scopes) n e in
        let v = each-left (IsWithin readers) (string_uses 35 name scopes ++ uses_of around low scopes) (uses_of around high scopes) u in
        made rows n (node.CountIn s.0 s.1 s.2) (loops_of scopes) s.6 (
          string-fits name scopes s.0 s.3,
          fits low scopes s.1 s.4 (each-right (IsWithin readers) (string_uses 35 name scopes) (uses_of around low scopes) v),
          fits high scopes s.2 s.5 (each-right (IsWithin readers) (string_uses 35 name scopes ++ uses_of around low scopes) (uses_of around high scopes) u),
        )
    fits (tree.Offset name) scopes n e u =
        let s = map-some node.Offset (string_ref around name scopes) n e in made rows n (node.Offset s.0) (loops_of scopes) s.2 (string-fits name scopes s.0 s.1)
    fits (tree.OffsetAt name index) scopes n e u =
        let s = two-some node.OffsetAt (string_ref around name scopes) (node_of readers around index scopes) n e in
        made rows n (node.OffsetAt s.0 s.1) (loops_of scopes) s.4
        (string-fits name scopes s.0 s.2, fits index scopes s.1 s.3 (each-right (IsWithin readers) (string_uses 64 name scopes) (uses_of around index scopes) u))
    fits (tree.Length name) scopes n e u =
        let s = map-some node.Length (string_ref around name scopes) n e in made rows n (node.Length s.0) (loops_of scopes) s.2 (string-fits name scopes s.0 s.1)
    fits (tree.LengthAt name index) scopes n e u =
        let s = two-some node.LengthAt (string_ref around name scopes) (node_of readers around index scopes) n e in
        made rows n (node.LengthAt s.0 s.1) (loops_of scopes) s.4
        (string-fits name scopes s.0 s.2, fits index scopes s.1 s.3 (each-right (IsWithin readers) (string_uses 33 name scopes) (uses_of around index scopes) u))
    fits (tree.Read reader at) scopes n e u =
        let s = map-some (node.Read reader) (node_of readers around at scopes) n e in made rows n (node.Read reader s.0) (loops_of scopes) s.2 (fits at scopes s.0 s.1 u)
    fits (tree.Prefix op inner) scopes n e u =
        let s = map-some (node.Prefix op) (node_of readers around inner scopes) n e in made rows n (node.Prefix op s.0) (loops_of scopes) s.2 (fits inner scopes s.0 s.1 u)
    fits (tree.Chain first rest) scopes n e u =
        let s = two-some node.Chain (node_of readers around first scopes) (links_node readers around rest scopes) n e in
        made rows n (node.Chain s.0 s.1) (loops_of scopes) s.4 (
          fits first scopes s.0 s.2 (each-left (IsWithin readers) (uses_of around first scopes) (link_uses around rest scopes) u),
          links-fit rest scopes s.1 s.3 (each-right (IsWithin readers) (uses_of around first scopes) (link_uses around rest scopes) u),
        )
    fits (tree.Matches text regex) scopes n e u =
        let s = two-some node.Matches (node_of readers around text scopes) (regex_node (expression_of readers regex)) n e in
        let x = regex-some (expression_of readers regex) s.1 s.3 in
        let v = each-right (IsWithin readers) (uses_of around text scopes) (use'.Expression regex ∷ []) u in
        made rows n (node.Matches s.0 s.1) (loops_of scopes) s.4 (
          fits text scopes s.0 s.2 (each-left (IsWithin readers) (uses_of around text scopes) (use'.Expression regex ∷ []) u),
          subst (λ p. size_of p ≤ size_limit) (sym x.2) (v.0 x.0 x.1),
        )
    fits (tree.Of asked set place) scopes n e u =
        let s = two-some (λ q p. node.Of q (set_node around set) p) (asked_node readers around asked scopes) (place_node readers around place scopes) n e in
        let v = each-left (IsWithin readers) (asked_uses around asked scopes ++ set_uses set) (place_uses around place scopes) u in
        made rows n (node.Of s.0 (set_node around set) s.1) (loops_of scopes) s.4 (
          asked-fits asked scopes s.0 s.2 (each-left (IsWithin readers) (asked_uses around asked scopes) (set_uses set) v),
          set-fits set,
          place-fits place scopes s.1 s.3 (each-right (IsWithin readers) (asked_uses around asked scopes ++ set_uses set) (place_uses around place scopes) u),
        )
    fits (tree.ForOf asked set body) scopes n e u =
        let s = two-some (λ q b. node.ForOf q (set_node around set) b) (asked_node readers around asked scopes) (node_of readers around body (meaning.Members ∷ scopes)) n e in
        let v = each-left (IsWithin readers) (asked_uses around asked scopes ++ set_uses set) (uses_of around body (meaning.Members ∷ scopes)) u.1 in
        made rows n (node.ForOf s.0 (set_node around set) s.1) (loops_of scopes) s.4 (
          asked-fits asked scopes s.0 s.2 (each-left (IsWithin readers) (asked_uses around asked scopes) (set_uses set) v),
          set-fits set,
          round-fits scopes u.0,
          fits body (meaning.Members ∷ scopes) s.1 s.3 (each-right (IsWithin readers) (asked_uses around asked scopes ++ set_uses set) (uses_of around body (meaning.Members ∷ scopes)) u.1),
        )
    fits (tree.ForIn asked name domain body) scopes n e u =
        let inner = opened around name domain scopes ∷ scopes in
        let s = three-some (λ q d b. node.ForIn q name d b) (asked_node readers around asked scopes) (domain_node readers around domain scopes) (node_of readers around body inner) n e in
        let v = each-left (IsWithin readers) (asked_uses around asked scopes ++ domain_uses around domain scopes) (uses_of around body inner) u.1 in
        made rows n (node.ForIn s.0 name s.1 s.2) (loops_of scopes) s.6 (
          asked-fits asked scopes s.0 s.3 (each-left (IsWithin readers) (asked_uses around asked scopes) (domain_uses around domain scopes) v),
          domain-fits domain scopes s.1 s.4 (each-right (IsWithin readers) (asked_uses around asked scopes) (domain_uses around domain scopes) v),
          round-fits scopes u.0,
          subst (λ l. Fits rows s.2 (l ∷ loops_of scopes)) (domain-opens name domain scopes s.1 s.4)
              (fits body inner s.2 s.5 (each-right (IsWithin readers) (asked_uses around asked scopes ++ domain_uses around domain scopes) (uses_of around body inner) u.1)),
        )

    links-fit : (ls : Links) (scopes : List Scope) (ns : NodeLinks) → links_node readers around ls scopes ≡ Some ns → Within (link_uses around ls scopes) → LinksFit rows ns (loops_of scopes)
    links-fit tree.no_link scopes ns e u = subst (λ x. LinksFit rows x (loops_of scopes)) (some-inj e) tt
    links-fit (tree.link op operand rest) scopes ns e u =
        let s = two-some (node.link op) (node_of readers around operand scopes) (links_node readers around rest scopes) ns e in
        subst (λ x. LinksFit rows x (loops_of scopes)) (sym s.4) (
          fits operand scopes s.0 s.2 (each-left (IsWithin readers) (uses_of around operand scopes) (link_uses around rest scopes) u),
          links-fit rest scopes s.1 s.3 (each-right (IsWithin readers) (uses_of around operand scopes) (link_uses around rest scopes) u),
        )

    path-fits : (ss : Steps) (scopes : List Scope) (n : NodeTree) → path_node readers around ss scopes ≡ Some n → Within (path_uses around ss scopes) → Fits rows n (loops_of scopes)
    path-fits tree.no_step scopes n e u = absurd cc
    path-fits (tree.index_step index rest) scopes n e u = absurd cc
    path-fits (tree.call_step arguments rest) scopes n e u = absurd cc
    path-fits (tree.name_step w rest) scopes n e u =
        steps-fit rest (meaning_of around w scopes) [] scopes n (meaning-fits w scopes) tt e
        (each-right (IsWithin readers) (word_uses w (meaning_of around w scopes)) (step_uses around rest (meaning_of around w scopes) scopes) u)

    steps-fit : (ss : Steps) (m : Meaning) (written : List (Option NodeTree)) (scopes : List Scope) (n : NodeTree) → MeaningFits rows m scopes → WrittenFit rows written scopes
        → steps_node readers around ss m written scopes ≡ Some n → Within (step_uses around ss m scopes) → Fits rows n (loops_of scopes)
    steps-fit tree.no_step m written scopes n h w e u = value-fits rows m written scopes n h w e
    steps-fit (tree.name_step word rest) m written scopes n h w e u =
        steps-fit rest (then_name m word) written scopes n (then_name-fits rows m word scopes h) w e
        (each-right (IsWithin readers) (word_uses word (then_name m word)) (step_uses around rest (then_name m word) scopes) u)
    steps-fit (tree.index_step index rest) m written scopes n h w e u =
        steps-fit rest (then_index m) (node_of readers around index scopes ∷ []) scopes n (then_index-fits rows m scopes)
        ((λ x g. fits index scopes x g (each-left (IsWithin readers) (uses_of around index scopes) (step_uses around rest (then_index m) scopes) u)), tt) e
        (each-right (IsWithin readers) (uses_of around index scopes) (step_uses around rest (then_index m) scopes) u)
    steps-fit (tree.call_step arguments rest) m written scopes n h w e u =
        steps-fit rest (then_call m (count_of arguments)) (each_node readers around arguments scopes) scopes n (then_call-fits rows m (count_of arguments) scopes)
        (each-fit arguments scopes (each-left (IsWithin readers) (item_uses around arguments scopes) (step_uses around rest (then_call m (count_of arguments)) scopes) u)) e
        (each-right (IsWithin readers) (item_uses around arguments scopes) (step_uses around rest (then_call m (count_of arguments)) scopes) u)

    each-fit : (items : Items) (scopes : List Scope) → Within (item_uses around items scopes) → WrittenFit rows (each_node readers around items scopes) scopes
    each-fit tree.no_item scopes u = tt
    each-fit (tree.item c rest) scopes u = (
      (λ x g. fits c scopes x g (each-left (IsWithin readers) (uses_of around c scopes) (item_uses around rest scopes) u)),
      each-fit rest scopes (each-right (IsWithin readers) (uses_of around c scopes) (item_uses around rest scopes) u),
    )

    items-fit : (items : Items) (scopes : List Scope) (ns : NodeItems) → items_node (each_node readers around items scopes) ≡ Some ns → Within (item_uses around items scopes) → ItemsFit rows ns (loops_of scopes)
    items-fit tree.no_item scopes ns e u = subst (λ x. ItemsFit rows x (loops_of scopes)) (some-inj e) tt
    items-fit (tree.item c rest) scopes ns e u =
        let s = two-some node.item (node_of readers around c scopes) (items_node (each_node readers around rest scopes)) ns e in
        subst (λ x. ItemsFit rows x (loops_of scopes)) (sym s.4) (
          fits c scopes s.0 s.2 (each-left (IsWithin readers) (uses_of around c scopes) (item_uses around rest scopes) u),
          items-fit rest scopes s.1 s.3 (each-right (IsWithin readers) (uses_of around c scopes) (item_uses around rest scopes) u),
        )

    place-fits : (p : Where) (scopes : List Scope) (w : NodeWhere) → place_node readers around p scopes ≡ Some w → Within (place_uses around p scopes) → PlaceFits rows w (loops_of scopes)
    place-fits tree.Anywhere scopes w e u = subst (λ x. PlaceFits rows x (loops_of scopes)) (some-inj e) tt
    place-fits (tree.At at) scopes w e u =
        let s = map-some node.At (node_of readers around at scopes) w e in subst (λ x. PlaceFits rows x (loops_of scopes)) (sym s.2) (fits at scopes s.0 s.1 u)
    place-fits (tree.Within low high) scopes w e u =
        let s = two-some node.Within (node_of readers around low scopes) (node_of readers around high scopes) w e in
        subst (λ x. PlaceFits rows x (loops_of scopes)) (sym s.4) (
          fits low scopes s.0 s.2 (each-left (IsWithin readers) (uses_of around low scopes) (uses_of around high scopes) u),
          fits high scopes s.1 s.3 (each-right (IsWithin readers) (uses_of around low scopes) (uses_of around high scopes) u),
        )

    asked-fits : (a : Asked) (scopes : List Scope) (q : NodeAsked) → asked_node readers around a scopes ≡ Some q → Within (asked_uses around a scopes) → AskedFits rows q (loops_of scopes)
    asked-fits tree.All scopes q e u = subst (λ x. AskedFits rows x (loops_of scopes)) (some-inj e) tt
    asked-fits tree.Any scopes q e u = subst (λ x. AskedFits rows x (loops_of scopes)) (some-inj e) tt
    asked-fits tree.Nil scopes q e u = subst (λ x. AskedFits rows x (loops_of scopes)) (some-inj e) tt
    asked-fits (tree.AtLeast c) scopes q e u =
        let s = map-some node.AtLeast (node_of readers around c scopes) q e in subst (λ x. AskedFits rows x (loops_of scopes)) (sym s.2) (fits c scopes s.0 s.1 u)
    asked-fits (tree.Percent c) scopes q e u =
        let s = map-some node.Percent (node_of readers around c scopes) q e in subst (λ x. AskedFits rows x (loops_of scopes)) (sym s.2) (fits c scopes s.0 s.1 u)

    domain-fits : (o : Domain) (scopes : List Scope) (d : NodeDomain) → domain_node readers around o scopes ≡ Some d → Within (domain_uses around o scopes) → DomainFits rows d (loops_of scopes)
    domain-fits (tree.OverRange low high) scopes d e u =
        let s = two-some node.OverRange (node_of readers around low scopes) (node_of readers around high scopes) d e in
        subst (λ x. DomainFits rows x (loops_of scopes)) (sym s.4) (
          fits low scopes s.0 s.2 (each-left (IsWithin readers) (uses_of around low scopes) (uses_of around high scopes) u),
          fits high scopes s.1 s.3 (each-right (IsWithin readers) (uses_of around low scopes) (uses_of around high scopes) u),
        )
    domain-fits (tree.OverList items) scopes d e u =
        let s = map-some node.OverList (items_node (each_node readers around items scopes)) d e in
        subst (λ x. DomainFits rows x (loops_of scopes)) (sym s.2)
        (subst (λ k. k ≤ list_limit) (sym (count-same items scopes s.0 s.1)) u.0, items-fit items scopes s.0 s.1 u.1)
    domain-fits (tree.OverPath steps) scopes d e u = entries-fit (path_meaning around steps scopes) d scopes e

-- the checked condition of a whole condition
pub made-fits : (readers : Readers) (around : Around) (rows : Rows) (c : Condition) (n : NodeTree) → LiesIn rows around → node_of readers around c [] ≡ Some n
    → Each (IsWithin readers) (uses_of around c []) → Fits rows n []
made-fits readers around rows c n lies e u = fits readers around rows lies c [] n e u
