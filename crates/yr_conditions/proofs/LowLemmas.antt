-- What words and paths mean has low numbers.
use Rattle.std.proofs.Common.{◌≡◌, ℕ, suc, ◌+◌, ◌<◌, ◌≤◌, Bool, true, false, List, [], ◌∷◌, map, length, refl, subst, arith, Some, None, Option}
use Rattle.std.specs.Prelude.{if◌then◌else◌, bytes_eq, ◌==◌}
use Rattle.std.specs.Option.{option_map, option_or, unwrap_or}
use Rattle.yr_base.specs.declared.value.Kind.{Kind}
use Rattle.yr_values.specs.declared.names.ModuleEntry.{ModuleEntry}
use Rattle.yr_values.specs.declared.names.ModuleEntry.TheVariants as row
use Rattle.yr_values.specs.Names.{NamedModule}
use Rattle.yr_name_tables.specs.Names.{Name, place_of}
use Rattle.yr_conditions.specs.Meanings as meaning
use Rattle.yr_conditions.specs.Meanings.{Around, EarlierRule, Scope, Members, Numbers, Entries, Meaning, Index, NoIndex, OfLoop, Written, meaning_of, variable_meaning, module_named, rule_named, row_named, row_meaning, member_meaning, then_name, then_index, then_call, current_of}
use Rattle.yr_conditions.specs.NodeViews.{IsLow, IsLowIndex}

-- what may be there is low
abbrev AllLow : ℕ → ℕ → Option Meaning → Type 0
AllLow n e None = Unit {0}
AllLow n e (Some m) = IsLow n e m

more-index : (n m : ℕ) (i : Index) → n ≤ m → IsLowIndex n i → IsLowIndex m i
more-index n m NoIndex h l = tt
more-index n m (OfLoop k) h l = omega arith
more-index n m Written h l = tt

pub more-low : (n m e : ℕ) (a : Meaning) → n ≤ m → IsLow n e a → IsLow m e a
more-low n m e meaning.Unknown h l = tt
more-low n m e meaning.Wrong h l = tt
more-low n m e (meaning.Module x) h l = tt
more-low n m e (meaning.Array x path count) h l = tt
more-low n m e (meaning.Entry x path i) h l = more-index n m i h l
more-low n m e (meaning.Function id kind) h l = tt
more-low n m e (meaning.Constant z) h l = tt
more-low n m e (meaning.Field id kind i) h l = more-index n m i h l
more-low n m e (meaning.Result id kind) h l = tt
more-low n m e (meaning.Variable k) h l = omega arith
more-low n m e (meaning.External k) h l = l
more-low n m e (meaning.RuleTruth k) h l = tt

more-all : (n m e : ℕ) (o : Option Meaning) → n ≤ m → AllLow n e o → AllLow m e o
more-all n m e None h l = tt
more-all n m e (Some a) h l = more-low n m e a h l

variable-low : (w : Name) (scopes : List Scope) (e : ℕ) → AllLow (length scopes) e (variable_meaning w scopes)
variable-low w [] e = tt
variable-low w (Members ∷ scopes) e = more-all (length scopes) (suc (length scopes)) e (variable_meaning w scopes) (omega arith) (variable-low w scopes e)
variable-low w (Numbers v ∷ scopes) e = by (bytes_eq w v) (variable-low w scopes e)
  where
    by : (b : Bool) → AllLow (length scopes) e (variable_meaning w scopes) → AllLow (suc (length scopes)) e (if b then Some (meaning.Variable (length scopes)) else variable_meaning w scopes)
    by true rest = omega arith
    by false rest = more-all (length scopes) (suc (length scopes)) e (variable_meaning w scopes) (omega arith) rest
variable-low w (Entries v m path ∷ scopes) e = by (bytes_eq w v) (variable-low w scopes e)
  where
    by : (b : Bool) → AllLow (length scopes) e (variable_meaning w scopes) → AllLow (suc (length scopes)) e (if b then Some (meaning.Entry m path (OfLoop (length scopes))) else variable_meaning w scopes)
    by true rest = omega arith
    by false rest = more-all (length scopes) (suc (length scopes)) e (variable_meaning w scopes) (omega arith) rest

abbrev Below : ℕ → Option ℕ → Type 0
Below n None = Unit {0}
Below n (Some k) = k < n

shifted-below : (n : ℕ) (p : Option ℕ) → Below n p → Below (suc n) (option_map (λ k. k + 1) p)
shifted-below n None h = tt
shifted-below n (Some k) h = omega arith

place-below : (n : Name) (ns : List Name) → Below (length ns) (place_of n ns)
place-below n [] = tt
place-below n (m ∷ ms) = by (bytes_eq n m) (place-below n ms)
  where
    by : (b : Bool) → Below (length ms) (place_of n ms) → Below (suc (length ms)) (if b then Some 0 else option_map (λ k. k + 1) (place_of n ms))
    by true rest = omega arith
    by false rest = shifted-below (length ms) (place_of n ms) rest

or-low : (n e : ℕ) (a b : Option Meaning) → AllLow n e a → AllLow n e b → AllLow n e (option_or a b)
or-low n e None b l r = r
or-low n e (Some x) b l r = l

module-low : (n e : ℕ) (o : Option NamedModule) → AllLow n e (option_map meaning.Module o)
module-low n e None = tt
module-low n e (Some m) = tt

truth-low : (n e : ℕ) (o : Option ℕ) → AllLow n e (option_map meaning.RuleTruth o)
truth-low n e None = tt
truth-low n e (Some k) = tt

external-low : (n e : ℕ) (o : Option ℕ) → Below e o → AllLow n e (option_map meaning.External o)
external-low n e None h = tt
external-low n e (Some k) h = h

or-unknown : (n e : ℕ) (o : Option Meaning) → AllLow n e o → IsLow n e (unwrap_or o meaning.Unknown)
or-unknown n e None h = tt
or-unknown n e (Some m) h = h

length-map' : {A B : Type 0} (f : A → B) (xs : List A) → length (map f xs) ≡ length xs
length-map' f [] = refl
length-map' f (x ∷ xs) = omega (arith, length-map' f xs)

pub meaning-low : (around : Around) (w : Name) (scopes : List Scope) → IsLow (length scopes) (length around.externals) (meaning_of around w scopes)
meaning-low around w scopes =
    let n = length scopes in let e = length around.externals in
    let names = map (λ x. x.name) around.externals in
    let below : Below e (place_of w names) = subst (λ k. Below k (place_of w names)) (length-map' (λ x. x.name) around.externals) (place-below w names) in
    let modules = option_map meaning.Module (module_named around.modules w) in
    let externals = option_map meaning.External (place_of w names) in
    let truths = option_map meaning.RuleTruth (rule_named around.rules w) in
    or-unknown n e (option_or (variable_meaning w scopes) (option_or modules (option_or externals truths)))
    (or-low n e (variable_meaning w scopes) (option_or modules (option_or externals truths)) (variable-low w scopes e)
    (or-low n e modules (option_or externals truths) (module-low n e (module_named around.modules w))
    (or-low n e externals truths (external-low n e (place_of w names) below) (truth-low n e (rule_named around.rules w)))))

row-low : (n e : ℕ) (m : NamedModule) (path : Name) (i : Index) (o : Option ModuleEntry) → IsLowIndex n i → IsLow n e (row_meaning m path i o)
row-low n e m path i None h = tt
row-low n e m path i (Some (row.Constant z)) h = tt
row-low n e m path i (Some (row.Field id kind)) h = h
row-low n e m path i (Some (row.Array count)) h = tt
row-low n e m path i (Some (row.Call id kind)) h = tt

pub name-low : (n e : ℕ) (m : Meaning) (w : Name) → IsLow n e m → IsLow n e (then_name m w)
name-low n e (meaning.Module m) w h = row-low n e m w NoIndex (row_named m.rows w) tt
name-low n e (meaning.Entry m path i) w h = row-low n e m _ i (row_named m.rows _) h
name-low n e meaning.Unknown w h = tt
name-low n e meaning.Wrong w h = tt
name-low n e (meaning.Array m path count) w h = tt
name-low n e (meaning.Function id kind) w h = tt
name-low n e (meaning.Constant z) w h = tt
name-low n e (meaning.Field id kind i) w h = tt
name-low n e (meaning.Result id kind) w h = tt
name-low n e (meaning.Variable k) w h = tt
name-low n e (meaning.External k) w h = tt
name-low n e (meaning.RuleTruth k) w h = tt

pub index-low : (n e : ℕ) (m : Meaning) → IsLow n e m → IsLow n e (then_index m)
index-low n e (meaning.Array m path count) h = tt
index-low n e (meaning.Module m) h = tt
index-low n e (meaning.Entry m path i) h = tt
index-low n e meaning.Unknown h = tt
index-low n e meaning.Wrong h = tt
index-low n e (meaning.Function id kind) h = tt
index-low n e (meaning.Constant z) h = tt
index-low n e (meaning.Field id kind i) h = tt
index-low n e (meaning.Result id kind) h = tt
index-low n e (meaning.Variable k) h = tt
index-low n e (meaning.External k) h = tt
index-low n e (meaning.RuleTruth k) h = tt

result-low : (n e id : ℕ) (kind : Kind) (b : Bool) → IsLow n e (if b then meaning.Result id kind else meaning.Wrong)
result-low n e id kind true = tt
result-low n e id kind false = tt

pub call-low : (n e : ℕ) (m : Meaning) (count : ℕ) → IsLow n e m → IsLow n e (then_call m count)
call-low n e (meaning.Function id kind) count h = result-low n e id kind (count == 2)
call-low n e (meaning.Array m path k) count h = tt
call-low n e (meaning.Module m) count h = tt
call-low n e (meaning.Entry m path i) count h = tt
call-low n e meaning.Unknown count h = tt
call-low n e meaning.Wrong count h = tt
call-low n e (meaning.Constant z) count h = tt
call-low n e (meaning.Field id kind i) count h = tt
call-low n e (meaning.Result id kind) count h = tt
call-low n e (meaning.Variable k) count h = tt
call-low n e (meaning.External k) count h = tt
call-low n e (meaning.RuleTruth k) count h = tt

pub current-low : (scopes : List Scope) (k : ℕ) → current_of scopes ≡ Some k → k < length scopes
current-low [] k e = absurd cc
current-low (Members ∷ scopes) k e = let same : length scopes ≡ k = cc in omega arith
current-low (Numbers v ∷ scopes) k e = let below = current-low scopes k e in omega arith
current-low (Entries v m path ∷ scopes) k e = let below = current-low scopes k e in omega arith
