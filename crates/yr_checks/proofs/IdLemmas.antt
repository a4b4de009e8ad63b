-- The ids in a checked condition are those of the modules' rows.
use Rattle.std.proofs.Common.{◌≡◌, ℕ, suc, List, [], ◌∷◌, ◌++◌, length, map, Bool, true, false, refl, sym, ap, subst, ◌∙◌, arith, Some, None, Option}
use Rattle.std.specs.Prelude.{◌||◌, ◌==◌, nat_eq, codes, bytes_eq, if◌then◌else◌, Contains, All}
use Rattle.std.specs.List.{list_any}
use Rattle.std.specs.Option.{option_map, option_or, unwrap_or}
use Rattle.std.specs.Cmp.Lexicographic.{bytes_decides}
use Rattle.std.proofs.lemmas.List.Folds.{list_any-append}
use Rattle.yr_base.specs.declared.value.Kind.{Kind}
use Rattle.yr_base.specs.Bytes.{is_digit, is_word_byte, is_word_start}
use Rattle.yr_base.specs.Words.{IsWord}
use Rattle.yr_syntax.specs.Condition as tree
use Rattle.yr_syntax.specs.Condition.{Condition, Links, Steps, Items, Where, Asked, Domain}
use Rattle.yr_syntax.specs.Forms.{Each, IsWordName, HasForms, LinksHaveForms, StepsHaveForms, ItemsHaveForms, PlaceHasForms, AskedHasForms, DomainHasForms}
use Rattle.yr_values.specs.declared.names.ModuleEntry.{ModuleEntry}
use Rattle.yr_values.specs.declared.names.ModuleEntry.TheVariants as row
use Rattle.yr_values.specs.Names.{NamedRow, NamedModule}
use Rattle.yr_rules.specs.NodeTree as node
use Rattle.yr_rules.specs.NodeTree.{NodeTree, NodeLinks, NodeItems, NodeWhere, NodeAsked, NodeDomain}
use Rattle.yr_rules.specs.Ids.{HasIds, LinksHaveIds, ItemsHaveIds, PlaceHasIds, AskedHasIds, DomainHasIds}
use Rattle.yr_name_tables.specs.Names.{Name, place_of}
use Rattle.yr_conditions.specs.Readers.{Readers, expression_of}
use Rattle.yr_conditions.specs.Meanings as meaning
use Rattle.yr_conditions.specs.Meanings.{Around, Scope, Meaning, Index, meaning_of, variable_meaning, module_named, rule_named, row_named, row_meaning, member_meaning, path_meaning, steps_meaning, then_name, then_index, then_call, count_of, scope_of, opened}
use Rattle.yr_conditions.specs.Nodes.{set_node, string_ref, regex_node, value_node, entries_node, items_node, node_of, links_node, path_node, steps_node, each_node, place_node, asked_node, domain_node}
use Rattle.yr_checks.specs.Resolving.{row_ids}
use Rattle.yr_checks.proofs.FitLemmas.{some-inj, map-some, two-some, three-some, if-true, if-false}

contains-there : {A : Type 0} (x : A) (xs : List A) (y : A) → Contains xs y → Contains (x ∷ xs) y
contains-there x xs y c = let h = c.1 in (suc c.0, omega arith, c.2)

module-there : (ms : List NamedModule) (w : Name) (m : NamedModule) → module_named ms w ≡ Some m → Contains ms m
module-there [] w m e = absurd cc
module-there (x ∷ ms) w m e = by (bytes_eq w x.name) refl (module-there ms w m)
  where
    by : (b : Bool) → bytes_eq w x.name ≡ b → (module_named ms w ≡ Some m → Contains ms m) → Contains (x ∷ ms) m
    by true t rest = subst (λ y. Contains (x ∷ ms) y) (some-inj (sym (if-true (bytes_eq w x.name) (Some x) (module_named ms w) t) ∙ e)) (0, omega arith, refl)
    by false t rest = contains-there x ms m (rest (sym (if-false (bytes_eq w x.name) (Some x) (module_named ms w) t) ∙ e))

-- the row that is found
record Found (rs : List NamedRow) (path : Name) (e : ModuleEntry) : Type 0 where
  row_found : NamedRow
  there : Contains rs row_found
  entry_same : row_found.entry ≡ e
  path_same : path ≡ row_found.path

found-later : (x : NamedRow) (rs : List NamedRow) (path : Name) (e : ModuleEntry) → Found rs path e → Found (x ∷ rs) path e
found-later x rs path e f = record { row_found = f.row_found; there = contains-there x rs f.row_found f.there; entry_same = f.entry_same; path_same = f.path_same }

row-there : (rs : List NamedRow) (path : Name) (e : ModuleEntry) → row_named rs path ≡ Some e → Found rs path e
row-there [] path e h = absurd cc
row-there (x ∷ rs) path e h = by (bytes_eq path x.path) refl (row-there rs path e)
  where
    by : (b : Bool) → bytes_eq path x.path ≡ b → (row_named rs path ≡ Some e → Found rs path e) → Found (x ∷ rs) path e
    by true t rest =
        record {
          row_found = x;
          there = (0, omega arith, refl);
          entry_same = some-inj (sym (if-true (bytes_eq path x.path) (Some x.entry) (row_named rs path) t) ∙ h);
          path_same = (bytes_decides path x.path).0 t;
        }
    by false t rest = found-later x rs path e (rest (sym (if-false (bytes_eq path x.path) (Some x.entry) (row_named rs path) t) ∙ h))

-- ---- a word has no bracket

no-bracket : (b : ℕ) → is_word_byte b ≡ true → nat_eq 91 b ≡ false
no-bracket b h = by (nat_eq 91 b) refl
  where
    by : (x : Bool) → nat_eq 91 b ≡ x → x ≡ false
    by false e = refl
    by true e = let same : b ≡ 91 = grind (arith) in let g = ap is_word_byte (sym same) ∙ h in absurd cc

no-brackets : (bs : List ℕ) → All (λ b. is_word_byte b ≡ true) bs → list_any (nat_eq 91) bs ≡ false
no-brackets [] h = refl
no-brackets (b ∷ bs) h =
    let a = no-bracket b (h 0 b (omega arith)) in
    let c = no-brackets bs (λ k d less. h (suc k) d (omega arith)) in
    ap (λ x. x || list_any (nat_eq 91) bs) a ∙ c

start-is-byte : (b : ℕ) → is_word_start b ≡ true → is_word_byte b ≡ true
start-is-byte b h = ap (λ x. x || is_digit b) h

word-plain : (w : Name) → IsWord w → list_any (nat_eq 91) w ≡ false
word-plain w i =
    let a = no-bracket i.first (start-is-byte i.first i.begins) in
    ap (list_any (nat_eq 91)) i.whole ∙ ap (λ x. x || list_any (nat_eq 91) i.rest) a ∙ no-brackets i.rest i.goes_on

or-true : (a b : Bool) → ((a || true) || b) ≡ true
or-true true b = refl
or-true false b = refl

entry-indexed : (path w : Name) → list_any (nat_eq 91) (path ++ codes "[]." ++ w) ≡ true
entry-indexed path w =
    list_any-append (nat_eq 91) (path ++ codes "[].") w ∙ ap (λ x. x || list_any (nat_eq 91) w) (list_any-append (nat_eq 91) path (codes "[].")) ∙ or-true (list_any (nat_eq 91) path) (list_any (nat_eq 91) w)

-- ---- meanings

abbrev indexed_by : Index → Bool
indexed_by meaning.NoIndex = false
indexed_by (meaning.OfLoop k) = true
indexed_by meaning.Written = true

module _ (modules : List NamedModule) where
  -- what a path leads to is in a row of the modules
  abbrev MeaningHas : Meaning → Type 0
  MeaningHas meaning.Unknown = Unit {0}
  MeaningHas meaning.Wrong = Unit {0}
  MeaningHas (meaning.Module m) = Contains modules m
  MeaningHas (meaning.Array m path count) = Contains modules m × (row_ids modules).entries count
  MeaningHas (meaning.Entry m path i) = Contains modules m × (indexed_by i ≡ true)
  MeaningHas (meaning.Function id kind) = (row_ids modules).call id kind
  MeaningHas (meaning.Constant n) = Unit {0}
  MeaningHas (meaning.Field id kind i) = (row_ids modules).field id kind (indexed_by i)
  MeaningHas (meaning.Result id kind) = (row_ids modules).call id kind
  MeaningHas (meaning.Variable k) = Unit {0}
  MeaningHas (meaning.External k) = Unit {0}
  MeaningHas (meaning.RuleTruth k) = Unit {0}

  row-has : (m : NamedModule) (path : Name) (i : Index) (o : Option ModuleEntry) → Contains modules m → list_any (nat_eq 91) path ≡ indexed_by i → row_named m.rows path ≡ o
      → MeaningHas (row_meaning m path i o)
  row-has m path i None c b e = tt
  row-has m path i (Some (row.Constant n)) c b e = tt
  row-has m path i (Some (row.Field id kind)) c b e =
      let f = row-there m.rows path (row.Field id kind) e in
      (f.row_found, record { module_of = m; there = c; own = f.there }, f.entry_same, ap (list_any (nat_eq 91)) (sym f.path_same) ∙ b)
  row-has m path i (Some (row.Array count)) c b e =
      let f = row-there m.rows path (row.Array count) e in (c, (f.row_found, record { module_of = m; there = c; own = f.there }, f.entry_same))
  row-has m path i (Some (row.Call id kind)) c b e =
      let f = row-there m.rows path (row.Call id kind) e in (f.row_found, record { module_of = m; there = c; own = f.there }, f.entry_same)

  then_name-has : (m : Meaning) (w : Name) → IsWordName w → MeaningHas m → MeaningHas (then_name m w)
  then_name-has meaning.Unknown w i h = tt
  then_name-has meaning.Wrong w i h = tt
  then_name-has (meaning.Module m) w i h = row-has m w meaning.NoIndex (row_named m.rows w) h (word-plain w i.0) refl
  then_name-has (meaning.Array m path count) w i h = tt
  then_name-has (meaning.Entry m path x) w i h =
      row-has m (path ++ codes "[]." ++ w) x (row_named m.rows (path ++ codes "[]." ++ w)) h.0 (entry-indexed path w ∙ sym h.1) refl
  then_name-has (meaning.Function id kind) w i h = tt
  then_name-has (meaning.Constant n) w i h = tt
  then_name-has (meaning.Field id kind x) w i h = tt
  then_name-has (meaning.Result id kind) w i h = tt
  then_name-has (meaning.Variable k) w i h = tt
  then_name-has (meaning.External k) w i h = tt
  then_name-has (meaning.RuleTruth k) w i h = tt

  then_index-has : (m : Meaning) → MeaningHas m → MeaningHas (then_index m)
  then_index-has meaning.Unknown h = tt
  then_index-has meaning.Wrong h = tt
  then_index-has (meaning.Module m) h = tt
  then_index-has (meaning.Array m path count) h = (h.0, refl)
  then_index-has (meaning.Entry m path i) h = tt
  then_index-has (meaning.Function id kind) h = tt
  then_index-has (meaning.Constant n) h = tt
  then_index-has (meaning.Field id kind i) h = tt
  then_index-has (meaning.Result id kind) h = tt
  then_index-has (meaning.Variable k) h = tt
  then_index-has (meaning.External k) h = tt
  then_index-has (meaning.RuleTruth k) h = tt

  choice-has : (b : Bool) (id : ℕ) (kind : Kind) → (row_ids modules).call id kind → MeaningHas (if b then meaning.Result id kind else meaning.Wrong)
  choice-has true id kind h = h
  choice-has false id kind h = tt

  then_call-has : (m : Meaning) (n : ℕ) → MeaningHas m → MeaningHas (then_call m n)
  then_call-has meaning.Unknown n h = tt
  then_call-has meaning.Wrong n h = tt
  then_call-has (meaning.Module m) n h = tt
  then_call-has (meaning.Array m path count) n h = tt
  then_call-has (meaning.Entry m path i) n h = tt
  then_call-has (meaning.Function id kind) n h = choice-has (n == 2) id kind h
  then_call-has (meaning.Constant k) n h = tt
  then_call-has (meaning.Field id kind i) n h = tt
  then_call-has (meaning.Result id kind) n h = tt
  then_call-has (meaning.Variable k) n h = tt
  then_call-has (meaning.External k) n h = tt
  then_call-has (meaning.RuleTruth k) n h = tt

  abbrev ScopeHas : Scope → Type 0
  ScopeHas meaning.Members = Unit {0}
  ScopeHas (meaning.Numbers v) = Unit {0}
  ScopeHas (meaning.Entries v m path) = Contains modules m

  scope-has : (v : Name) (m : Meaning) → MeaningHas m → ScopeHas (scope_of v m)
  scope-has v meaning.Unknown h = tt
  scope-has v meaning.Wrong h = tt
  scope-has v (meaning.Module m) h = tt
  scope-has v (meaning.Array m path count) h = h.0
  scope-has v (meaning.Entry m path i) h = tt
  scope-has v (meaning.Function id kind) h = tt
  scope-has v (meaning.Constant n) h = tt
  scope-has v (meaning.Field id kind i) h = tt
  scope-has v (meaning.Result id kind) h = tt
  scope-has v (meaning.Variable k) h = tt
  scope-has v (meaning.External k) h = tt
  scope-has v (meaning.RuleTruth k) h = tt

  named-has : (b : Bool) (own : Meaning) (rest : Option Meaning) (m : Meaning) → MeaningHas own → ((x : Meaning) → rest ≡ Some x → MeaningHas x)
      → (if b then Some own else rest) ≡ Some m → MeaningHas m
  named-has true own rest m here there e = subst MeaningHas (some-inj e) here
  named-has false own rest m here there e = there m e

  variable-has : (w : Name) (scopes : List Scope) (m : Meaning) → Each ScopeHas scopes → variable_meaning w scopes ≡ Some m → MeaningHas m
  variable-has w [] m h e = absurd cc
  variable-has w (meaning.Members ∷ scopes) m h e = variable-has w scopes m h.1 e
  variable-has w (meaning.Numbers v ∷ scopes) m h e =
      named-has (bytes_eq w v) (meaning.Variable (length scopes)) (variable_meaning w scopes) m tt (λ x g. variable-has w scopes x h.1 g) e
  variable-has w (meaning.Entries v a path ∷ scopes) m h e =
      named-has (bytes_eq w v) (meaning.Entry a path (meaning.OfLoop (length scopes))) (variable_meaning w scopes) m (h.0, refl) (λ x g. variable-has w scopes x h.1 g) e

  or-has : (a b : Option Meaning) → ((x : Meaning) → a ≡ Some x → MeaningHas x) → ((x : Meaning) → b ≡ Some x → MeaningHas x) → (m : Meaning) → option_or a b ≡ Some m → MeaningHas m
  or-has (Some x) b f g m e = f m e
  or-has None b f g m e = g m e

  unwrap-has : (a : Option Meaning) → ((x : Meaning) → a ≡ Some x → MeaningHas x) → MeaningHas (unwrap_or a meaning.Unknown)
  unwrap-has (Some x) f = f x refl
  unwrap-has None f = tt

  made : (n m : NodeTree) → n ≡ m → HasIds (row_ids modules) m → HasIds (row_ids modules) n
  made n m e h = subst (HasIds (row_ids modules)) (sym e) h

  abbrev WrittenHave : List (Option NodeTree) → Type 0
  WrittenHave written = Each (λ o. (n : NodeTree) → o ≡ Some n → HasIds (row_ids modules) n) written

  value-has : (m : Meaning) (written : List (Option NodeTree)) (n : NodeTree) → MeaningHas m → WrittenHave written → value_node m written ≡ Some n → HasIds (row_ids modules) n
  value-has meaning.Unknown written n h w e = absurd cc
  value-has meaning.Wrong written n h w e = absurd cc
  value-has (meaning.Module m) written n h w e = absurd cc
  value-has (meaning.Array m path count) written n h w e = absurd cc
  value-has (meaning.Entry m path i) written n h w e = absurd cc
  value-has (meaning.Function id kind) written n h w e = absurd cc
  value-has (meaning.Constant k) written n h w e = made n (node.Number k) (sym (some-inj e)) tt
  value-has (meaning.Field id kind meaning.NoIndex) written n h w e = made n (node.Field id kind) (sym (some-inj e)) h
  value-has (meaning.Field id kind (meaning.OfLoop k)) written n h w e = made n (node.FieldAt id kind (node.Var k)) (sym (some-inj e)) (h, tt)
  value-has (meaning.Field id kind meaning.Written) [] n h w e = absurd cc
  value-has (meaning.Field id kind meaning.Written) (o ∷ rest) n h w e =
      let s = map-some (node.FieldAt id kind) o n e in made n (node.FieldAt id kind s.0) s.2 (h, w.0 s.0 s.1)
  value-has (meaning.Result id kind) [] n h w e = absurd cc
  value-has (meaning.Result id kind) (a ∷ []) n h w e = absurd cc
  value-has (meaning.Result id kind) (a ∷ b ∷ []) n h w e =
      let s = two-some (node.Call id kind) a b n e in made n (node.Call id kind s.0 s.1) s.4 (h, w.0 s.0 s.2, w.1.0 s.1 s.3)
  value-has (meaning.Result id kind) (a ∷ b ∷ c ∷ rest) n h w e = absurd cc
  value-has (meaning.Variable k) written n h w e = made n (node.Var k) (sym (some-inj e)) tt
  value-has (meaning.External k) written n h w e = made n (node.External k) (sym (some-inj e)) tt
  value-has (meaning.RuleTruth k) written n h w e = made n (node.RuleTruth k) (sym (some-inj e)) tt

  entries-has : (m : Meaning) (d : NodeDomain) → MeaningHas m → entries_node m ≡ Some d → DomainHasIds (row_ids modules) d
  entries-has (meaning.Array m path count) d h e = subst (DomainHasIds (row_ids modules)) (some-inj e) h.1
  entries-has meaning.Unknown d h e = absurd cc
  entries-has meaning.Wrong d h e = absurd cc
  entries-has (meaning.Module m) d h e = absurd cc
  entries-has (meaning.Entry m path i) d h e = absurd cc
  entries-has (meaning.Function id kind) d h e = absurd cc
  entries-has (meaning.Constant n) d h e = absurd cc
  entries-has (meaning.Field id kind i) d h e = absurd cc
  entries-has (meaning.Result id kind) d h e = absurd cc
  entries-has (meaning.Variable k) d h e = absurd cc
  entries-has (meaning.External k) d h e = absurd cc
  entries-has (meaning.RuleTruth k) d h e = absurd cc

  steps-meaning-has : (ss : Steps) (m : Meaning) → StepsHaveForms ss → MeaningHas m → MeaningHas (steps_meaning ss m)
  steps-meaning-has tree.no_step m f h = h
  steps-meaning-has (tree.name_step w rest) m f h = steps-meaning-has rest (then_name m w) f.1 (then_name-has m w f.0 h)
  steps-meaning-has (tree.index_step c rest) m f h = steps-meaning-has rest (then_index m) f.1 (then_index-has m h)
  steps-meaning-has (tree.call_step arguments rest) m f h = steps-meaning-has rest (then_call m (count_of arguments)) f.1 (then_call-has m (count_of arguments) h)

module _ (readers : Readers) (around : Around) (modules : List NamedModule) (known : (m : NamedModule) → Contains around.modules m → Contains modules m) where
  meaning-has : (w : Name) (scopes : List Scope) → Each (ScopeHas modules) scopes → MeaningHas modules (meaning_of around w scopes)
  meaning-has w scopes h =
      unwrap-has modules
      (option_or (variable_meaning w scopes)
      (option_or (option_map meaning.Module (module_named around.modules w))
      (option_or (option_map meaning.External (place_of w (map (λ e. e.name) around.externals)))
      (option_map meaning.RuleTruth (rule_named around.rules w)))))
      (or-has modules (variable_meaning w scopes)
      (option_or (option_map meaning.Module (module_named around.modules w))
      (option_or (option_map meaning.External (place_of w (map (λ e. e.name) around.externals)))
      (option_map meaning.RuleTruth (rule_named around.rules w))))
      (λ x e. variable-has modules w scopes x h e)
      (or-has modules (option_map meaning.Module (module_named around.modules w))
      (option_or (option_map meaning.External (place_of w (map (λ e. e.name) around.externals)))
      (option_map meaning.RuleTruth (rule_named around.rules w)))
      (λ x e. let s = map-some meaning.Module (module_named around.modules w) x e in subst (MeaningHas modules) (sym s.2) (known s.0 (module-there around.modules w s.0 s.1)))
      (or-has modules (option_map meaning.External (place_of w (map (λ e. e.name) around.externals))) (option_map meaning.RuleTruth (rule_named around.rules w))
      (λ x e. let s = map-some meaning.External (place_of w (map (λ e. e.name) around.externals)) x e in subst (MeaningHas modules) (sym s.2) tt)
      (λ x e. let s = map-some meaning.RuleTruth (rule_named around.rules w) x e in subst (MeaningHas modules) (sym s.2) tt))))

  path-meaning-has : (ss : Steps) (scopes : List Scope) → StepsHaveForms ss → Each (ScopeHas modules) scopes → MeaningHas modules (path_meaning around ss scopes)
  path-meaning-has tree.no_step scopes f h = tt
  path-meaning-has (tree.index_step c rest) scopes f h = tt
  path-meaning-has (tree.call_step arguments rest) scopes f h = tt
  path-meaning-has (tree.name_step w rest) scopes f h = steps-meaning-has modules rest (meaning_of around w scopes) f.1 (meaning-has w scopes h)

  opened-has : (v : Name) (o : Domain) (scopes : List Scope) → DomainHasForms o → Each (ScopeHas modules) scopes → ScopeHas modules (opened around v o scopes)
  opened-has v (tree.OverRange low high) scopes f h = tt
  opened-has v (tree.OverList items) scopes f h = tt
  opened-has v (tree.OverPath steps) scopes f h = scope-has modules v (path_meaning around steps scopes) (path-meaning-has steps scopes f h)

  mutual
    has : (c : Condition) (scopes : List Scope) (n : NodeTree) → HasForms c → Each (ScopeHas modules) scopes → node_of readers around c scopes ≡ Some n → HasIds (row_ids modules) n
    has (tree.Number k) scopes n f h e = made modules n (node.Number k) (sym (some-inj e)) tt
    has (tree.Text t) scopes n f h e = made modules n (node.Text t) (sym (some-inj e)) tt
    has (tree.Flag b) scopes n f h e = made modules n (node.Flag b) (sym (some-inj e)) tt
    has tree.FileSize scopes n f h e = made modules n node.FileSize (sym (some-inj e)) tt
    has (tree.Path steps) scopes n f h e = path-has steps scopes n f h e
    has (tree.Found name place) scopes n f h e =
        let s = two-some node.Found (string_ref around name scopes) (place_node readers around place scopes) n e in
        made modules n (node.Found s.0 s.1) s.4 (place-has place scopes s.1 f.1 h s.3)
    has (tree.Count name) scopes n f h e = let s = map-some node.Count (string_ref around name scopes) n e in made modules n (node.Count s.0) s.2 tt
    has (tree.CountIn name from to) scopes n f h e =
        let s = three-some node.CountIn (string_ref around name scopes) (node_of readers around from scopes) (node_of readers around to scopes) n e in
        made modules n (node.CountIn s.0 s.1 s.2) s.6 (has from scopes s.1 f.1 h s.4, has to scopes s.2 f.2 h s.5)
    has (tree.Offset name) scopes n f h e = let s = map-some node.Offset (string_ref around name scopes) n e in made modules n (node.Offset s.0) s.2 tt
    has (tree.OffsetAt name index) scopes n f h e =
        let s = two-some node.OffsetAt (string_ref around name scopes) (node_of readers around index scopes) n e in
        made modules n (node.OffsetAt s.0 s.1) s.4 (has index scopes s.1 f.1 h s.3)
    has (tree.Length name) scopes n f h e = let s = map-some node.Length (string_ref around name scopes) n e in made modules n (node.Length s.0) s.2 tt
    has (tree.LengthAt name index) scopes n f h e =
        let s = two-some node.LengthAt (string_ref around name scopes) (node_of readers around index scopes) n e in
        made modules n (node.LengthAt s.0 s.1) s.4 (has index scopes s.1 f.1 h s.3)
    has (tree.Read reader at) scopes n f h e =
        let s = map-some (node.Read reader) (node_of readers around at scopes) n e in made modules n (node.Read reader s.0) s.2 (has at scopes s.0 f h s.1)
    has (tree.Prefix op inner) scopes n f h e =
        let s = map-some (node.Prefix op) (node_of readers around inner scopes) n e in made modules n (node.Prefix op s.0) s.2 (has inner scopes s.0 f h s.1)
    has (tree.Chain first rest) scopes n f h e =
        let s = two-some node.Chain (node_of readers around first scopes) (links_node readers around rest scopes) n e in
        made modules n (node.Chain s.0 s.1) s.4 (has first scopes s.0 f.0 h s.2, links-have rest scopes s.1 f.1 h s.3)
    has (tree.Matches text regex) scopes n f h e =
        let s = two-some node.Matches (node_of readers around text scopes) (regex_node (expression_of readers regex)) n e in
        made modules n (node.Matches s.0 s.1) s.4 (has text scopes s.0 f.0 h s.2)
    has (tree.Of asked set place) scopes n f h e =
        let s = two-some (λ q p. node.Of q (set_node around set) p) (asked_node readers around asked scopes) (place_node readers around place scopes) n e in
        made modules n (node.Of s.0 (set_node around set) s.1) s.4 (asked-has asked scopes s.0 f.0 h s.2, place-has place scopes s.1 f.2 h s.3)
    has (tree.ForOf asked set body) scopes n f h e =
        let s = two-some (λ q b. node.ForOf q (set_node around set) b) (asked_node readers around asked scopes) (node_of readers around body (meaning.Members ∷ scopes)) n e in
        made modules n (node.ForOf s.0 (set_node around set) s.1) s.4 (asked-has asked scopes s.0 f.0 h s.2, has body (meaning.Members ∷ scopes) s.1 f.2 (tt, h) s.3)
    has (tree.ForIn asked name domain body) scopes n f h e =
        let inner = opened around name domain scopes ∷ scopes in
        let s = three-some (λ q d b. node.ForIn q name d b) (asked_node readers around asked scopes) (domain_node readers around domain scopes) (node_of readers around body inner) n e in
        made modules n (node.ForIn s.0 name s.1 s.2) s.6
        (asked-has asked scopes s.0 f.0 h s.3, domain-has domain scopes s.1 f.2 h s.4, has body inner s.2 f.3 (opened-has name domain scopes f.2 h, h) s.5)

    links-have : (ls : Links) (scopes : List Scope) (ns : NodeLinks) → LinksHaveForms ls → Each (ScopeHas modules) scopes → links_node readers around ls scopes ≡ Some ns → LinksHaveIds (row_ids modules) ns
    links-have tree.no_link scopes ns f h e = subst (LinksHaveIds (row_ids modules)) (some-inj e) tt
    links-have (tree.link op operand rest) scopes ns f h e =
        let s = two-some (node.link op) (node_of readers around operand scopes) (links_node readers around rest scopes) ns e in
        subst (LinksHaveIds (row_ids modules)) (sym s.4) (has operand scopes s.0 f.0 h s.2, links-have rest scopes s.1 f.1 h s.3)

    path-has : (ss : Steps) (scopes : List Scope) (n : NodeTree) → StepsHaveForms ss → Each (ScopeHas modules) scopes → path_node readers around ss scopes ≡ Some n → HasIds (row_ids modules) n
    path-has tree.no_step scopes n f h e = absurd cc
    path-has (tree.index_step index rest) scopes n f h e = absurd cc
    path-has (tree.call_step arguments rest) scopes n f h e = absurd cc
    path-has (tree.name_step w rest) scopes n f h e = steps-have rest (meaning_of around w scopes) [] scopes n f.1 h (meaning-has w scopes h) tt e

    steps-have : (ss : Steps) (m : Meaning) (written : List (Option NodeTree)) (scopes : List Scope) (n : NodeTree) → StepsHaveForms ss → Each (ScopeHas modules) scopes
        → MeaningHas modules m → WrittenHave modules written → steps_node readers around ss m written scopes ≡ Some n → HasIds (row_ids modules) n
    steps-have tree.no_step m written scopes n f h g w e = value-has modules m written n g w e
    steps-have (tree.name_step word rest) m written scopes n f h g w e = steps-have rest (then_name m word) written scopes n f.1 h (then_name-has modules m word f.0 g) w e
    steps-have (tree.index_step index rest) m written scopes n f h g w e =
        steps-have rest (then_index m) (node_of readers around index scopes ∷ []) scopes n f.1 h (then_index-has modules m g) ((λ x k. has index scopes x f.0 h k), tt) e
    steps-have (tree.call_step arguments rest) m written scopes n f h g w e =
        steps-have rest (then_call m (count_of arguments)) (each_node readers around arguments scopes) scopes n f.1 h (then_call-has modules m (count_of arguments) g) (each-have arguments scopes f.0 h) e

    each-have : (items : Items) (scopes : List Scope) → ItemsHaveForms items → Each (ScopeHas modules) scopes → WrittenHave modules (each_node readers around items scopes)
    each-have tree.no_item scopes f h = tt
    each-have (tree.item c rest) scopes f h = ((λ x k. has c scopes x f.0 h k), each-have rest scopes f.1 h)

    items-have : (items : Items) (scopes : List Scope) (ns : NodeItems) → ItemsHaveForms items → Each (ScopeHas modules) scopes → items_node (each_node readers around items scopes) ≡ Some ns → ItemsHaveIds (row_ids modules) ns
    items-have tree.no_item scopes ns f h e = subst (ItemsHaveIds (row_ids modules)) (some-inj e) tt
    items-have (tree.item c rest) scopes ns f h e =
        let s = two-some node.item (node_of readers around c scopes) (items_node (each_node readers around rest scopes)) ns e in
        subst (ItemsHaveIds (row_ids modules)) (sym s.4) (has c scopes s.0 f.0 h s.2, items-have rest scopes s.1 f.1 h s.3)

    place-has : (p : Where) (scopes : List Scope) (w : NodeWhere) → PlaceHasForms p → Each (ScopeHas modules) scopes → place_node readers around p scopes ≡ Some w → PlaceHasIds (row_ids modules) w
    place-has tree.Anywhere scopes w f h e = subst (PlaceHasIds (row_ids modules)) (some-inj e) tt
    place-has (tree.At at) scopes w f h e =
        let s = map-some node.At (node_of readers around at scopes) w e in subst (PlaceHasIds (row_ids modules)) (sym s.2) (has at scopes s.0 f h s.1)
    place-has (tree.Within from to) scopes w f h e =
        let s = two-some node.Within (node_of readers around from scopes) (node_of readers around to scopes) w e in
        subst (PlaceHasIds (row_ids modules)) (sym s.4) (has from scopes s.0 f.0 h s.2, has to scopes s.1 f.1 h s.3)

    asked-has : (a : Asked) (scopes : List Scope) (q : NodeAsked) → AskedHasForms a → Each (ScopeHas modules) scopes → asked_node readers around a scopes ≡ Some q → AskedHasIds (row_ids modules) q
    asked-has tree.All scopes q f h e = subst (AskedHasIds (row_ids modules)) (some-inj e) tt
    asked-has tree.Any scopes q f h e = subst (AskedHasIds (row_ids modules)) (some-inj e) tt
    asked-has tree.Nil scopes q f h e = subst (AskedHasIds (row_ids modules)) (some-inj e) tt
    asked-has (tree.AtLeast c) scopes q f h e =
        let s = map-some node.AtLeast (node_of readers around c scopes) q e in subst (AskedHasIds (row_ids modules)) (sym s.2) (has c scopes s.0 f h s.1)
    asked-has (tree.Percent c) scopes q f h e =
        let s = map-some node.Percent (node_of readers around c scopes) q e in subst (AskedHasIds (row_ids modules)) (sym s.2) (has c scopes s.0 f h s.1)

    domain-has : (o : Domain) (scopes : List Scope) (d : NodeDomain) → DomainHasForms o → Each (ScopeHas modules) scopes → domain_node readers around o scopes ≡ Some d → DomainHasIds (row_ids modules) d
    domain-has (tree.OverRange from to) scopes d f h e =
        let s = two-some node.OverRange (node_of readers around from scopes) (node_of readers around to scopes) d e in
        subst (DomainHasIds (row_ids modules)) (sym s.4) (has from scopes s.0 f.0 h s.2, has to scopes s.1 f.1 h s.3)
    domain-has (tree.OverList items) scopes d f h e =
        let s = map-some node.OverList (items_node (each_node readers around items scopes)) d e in
        subst (DomainHasIds (row_ids modules)) (sym s.2) (items-have items scopes s.0 f h s.1)
    domain-has (tree.OverPath steps) scopes d f h e = entries-has modules (path_meaning around steps scopes) d (path-meaning-has steps scopes f h) e

pub made-has : (readers : Readers) (around : Around) (modules : List NamedModule) (c : Condition) (n : NodeTree) → ((m : NamedModule) → Contains around.modules m → Contains modules m)
    → HasForms c → node_of readers around c [] ≡ Some n → HasIds (row_ids modules) n
made-has readers around modules c n known f e = has readers around modules known c [] n f tt e
