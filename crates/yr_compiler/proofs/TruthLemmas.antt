-- The truths of a built image's rules are those of the rules.
use Rattle.std.proofs.Common.{◌≡◌, ℕ, zero, suc, ◌+◌, ◌<◌, ◌≤◌, ⊎_elim, Bool, List, [], ◌∷◌, ◌++◌, length, map, take, Some, slice_get, refl, sym, ap, ap₂, ◌∙◌, subst, arith, inl, inr}
use Rattle.std.proofs.lemmas.Bool.{cases_order}
use Rattle.std.proofs.lemmas.List.{length-append, length-map, append_assoc, append-nil, length-take-le}
use Rattle.std.proofs.Math.Seq.{take-length}
use Rattle.std.proofs.lemmas.Option.{none-some, same_Some, slice_get_within, slice_get_cases}
use Rattle.yr_values.specs.Values.{holds}
use Rattle.yr_rules.specs.NodeTree.{NodeTree}
use Rattle.yr_rules.specs.Rules.{PlainRule, PlainRules}
use Rattle.yr_rules.specs.Kinds.{kind_of}
use Rattle.yr_rules.specs.Fits.{Fits}
use Rattle.yr_rules.specs.Ids.{HasIds}
use Rattle.yr_rules.specs.Wellformed.{IsWellformed, IsGoodRule}
use Rattle.yr_meaning.specs.Conditions.{Environment, value_of}
use Rattle.yr_meaning.specs.Fitting.{ids_of, FitsKinds}
use Rattle.yr_meaning.specs.Truths.{truth_after, truths_after, truths_of}
use Rattle.yr_image.specs.declared.rows.CodeRow.{CodeRow}
use Rattle.yr_image.specs.declared.rows.RuleRow.{RuleRow}
use Rattle.yr_image.specs.Image.{code_of}
use Rattle.yr_image.specs.ModuleTable.{field_row_of, call_row_of}
use Rattle.yr_machine.specs.Operations.{Context}
use Rattle.yr_machine.specs.Machine.{Machine, Outcome, going, done, run, start, EndsAfter, Ends}
use Rattle.yr_machine.specs.ImageRun.{AreImageTruths, KnowsPrograms}
use Rattle.yr_emission.specs.Parts.{rule_part}
use Rattle.yr_emission.specs.Setting.{environment_of, bounds_of}
use Rattle.yr_emission.specs.Standing.{Stands}
use Rattle.yr_emission.proofs.Runs.{kinded}
use Rattle.yr_emission.proofs.ValueRoom.{placed as has_room}
use Rattle.yr_emission.proofs.Ends as emission
use Rattle.yr_compiler.specs.Built.{IsBuilt}
use Rattle.yr_preserves.specs.RuleIds.{HaveIds}
use Rattle.yr_compiler.proofs.CheckLemmas.{all_at, some_of, rule_code, fits_there}

-- ---- one truth

not_both : (o : Outcome) (m : Machine) (truth : Bool) → o ≡ going m → o ≡ done truth → ⊥
not_both o m truth e f = let bad : going m ≡ done truth = sym e ∙ f in cc

same_truth : (b c : Bool) → done b ≡ done c → b ≡ c
same_truth b c e = cc

one_truth : (context : Context) (truths : List Bool) (rows : List CodeRow) (m n : ℕ) (b c : Bool) → EndsAfter context truths rows m b → EndsAfter context truths rows n c → b ≡ c
one_truth context truths rows m n b c p q =
    elim (cases_order m n) [
      | inl eq ↦ same_truth b c (sym p.ends ∙ ap (λ k. run context truths rows k start) eq ∙ q.ends)
      | inr (inl lt) ↦ let g = q.no_sooner m lt in absurd (not_both (run context truths rows m start) g.0 b g.1 p.ends)
      | inr (inr lt) ↦ let g = p.no_sooner n lt in absurd (not_both (run context truths rows n start) g.0 c g.1 q.ends)
    ]

there : {A : Type 0} (xs : List A) (n : ℕ) → n < length xs → (x : A) × (slice_get xs n ≡ Some x)
there xs n b = ⊎_elim (λ g. (g.0, g.2)) (λ g. absurd (omega (arith, b, g.0))) (slice_get_cases xs n).1

take_next : {A : Type 0} (xs : List A) (n : ℕ) (x : A) → slice_get xs n ≡ Some x → take (suc n) xs ≡ take n xs ++ (x ∷ [])
take_next [] n x e = absurd (none-some x e)
take_next (y ∷ xs) zero x e = ap (λ z. z ∷ []) (same_Some y x e)
take_next (y ∷ xs) (suc n) x e = ap (λ zs. y ∷ zs) (take_next xs n x e)

module _ (context : Context) (truths others : List Bool) (p : AreImageTruths context truths) (q : AreImageTruths context others) where
  same_front : (n : ℕ) → n ≤ length context.image.rules → take n truths ≡ take n others
  same_front zero b = refl
  same_front (suc n) b =
      let before = same_front n (omega (arith, b)) in
      let count = p.count in
      let other_count = q.count in
      let row = there context.image.rules n (omega (arith, b)) in
      let x = there truths n (omega (arith, b, count)) in
      let y = there others n (omega (arith, b, other_count)) in
      let one = p.each n row.0 x.0 row.1 x.1 in
      let P : List Bool → Type 0 = λ l. Ends context l (code_of context.image row.0) y.0 in
      let two = subst P (sym before) (q.each n row.0 y.0 row.1 y.1) in
      let same : x.0 ≡ y.0 = one_truth context (take n truths) (code_of context.image row.0) one.0 two.0 x.0 y.0 one.1 two.1 in
      take_next truths n x.0 x.1 ∙ ap₂ (λ (l : List Bool) (z : Bool). l ++ z ∷ []) before same ∙ sym (take_next others n y.0 y.1)

  pub same_truths : truths ≡ others
  same_truths =
      let n : ℕ = length context.image.rules in
      sym (ap (λ k. take k truths) (sym p.count) ∙ take-length truths) ∙ same_front n (omega arith) ∙ ap (λ k. take k others) (sym q.count) ∙ take-length others

-- ---- truths one after another

truths_begin : (e : Environment) (ts : List Bool) (cs : List NodeTree) → (more : List Bool) × (truths_after e ts cs ≡ ts ++ more) × (length more ≡ length cs)
truths_begin e ts [] = ([], sym (append-nil ts), refl)
truths_begin e ts (c ∷ cs) =
    let t = truth_after e ts c in
    let r = truths_begin e (ts ++ t ∷ []) cs in
    let long = r.2 in
    (t ∷ r.0, r.1 ∙ append_assoc ts (t ∷ []) r.0, omega (arith, long))

taken_front : {A : Type 0} (xs ys : List A) → take (length xs) (xs ++ ys) ≡ xs
taken_front [] ys = refl
taken_front (x ∷ xs) ys = ap (λ l. x ∷ l) (taken_front xs ys)

at_end : {A : Type 0} (xs ys : List A) (y : A) → slice_get (xs ++ y ∷ ys) (length xs) ≡ Some y
at_end [] ys y = refl
at_end (x ∷ xs) ys y = at_end xs ys y

-- the truth of rule k, after those before it
truth_at : (e : Environment) (ts : List Bool) (cs : List NodeTree) (k : ℕ) (c : NodeTree) → slice_get cs k ≡ Some c
    → slice_get (truths_after e ts cs) (length ts + k) ≡ Some (truth_after e (take (length ts + k) (truths_after e ts cs)) c)
truth_at e ts [] k c h = absurd (none-some c h)
truth_at e ts (d ∷ cs) zero c h =
    let t = truth_after e ts d in
    let r = truths_begin e (ts ++ t ∷ []) cs in
    let all : truths_after e ts (d ∷ cs) ≡ ts ++ t ∷ r.0 = r.1 ∙ append_assoc ts (t ∷ []) r.0 in
    let n : length ts + 0 ≡ length ts = omega arith in
    let front : take (length ts + 0) (truths_after e ts (d ∷ cs)) ≡ ts = ap₂ (λ (m : ℕ) (l : List Bool). take m l) n all ∙ taken_front ts (t ∷ r.0) in
    ap₂ (λ (l : List Bool) (m : ℕ). slice_get l m) all n ∙ at_end ts r.0 t
    ∙ ap₂ (λ (l : List Bool) (x : NodeTree). Some (truth_after e l x)) (sym front) (same_Some d c h)
truth_at e ts (d ∷ cs) (suc k) c h =
    let t = truth_after e ts d in
    let long = length-append ts (t ∷ []) in
    let n : length (ts ++ t ∷ []) + k ≡ length ts + suc k = omega (arith, long) in
    let P : ℕ → Type 0 = λ m. slice_get (truths_after e (ts ++ t ∷ []) cs) m ≡ Some (truth_after e (take m (truths_after e (ts ++ t ∷ []) cs)) c) in
    subst P n (truth_at e (ts ++ t ∷ []) cs k c h)

map_at : {X Y : Type 0} (f : X → Y) (xs : List X) (k : ℕ) (x : X) → slice_get xs k ≡ Some x → slice_get (map f xs) k ≡ Some (f x)
map_at f [] k x h = absurd (none-some x h)
map_at f (y ∷ xs) zero x h = ap (λ z. Some (f z)) (same_Some y x h)
map_at f (y ∷ xs) (suc k) x h = map_at f xs k x h

-- ---- a built image

module _ (context : Context) (rules : PlainRules) (good : IsWellformed rules) (ids : HaveIds rules) (built : IsBuilt context.image rules)
    (knows : KnowsPrograms context) (kinds : (truths : List Bool) → FitsKinds rules.externals field_row_of call_row_of (environment_of context truths)) where
  rule_ends : (k : ℕ) (row : RuleRow) (rule : PlainRule) (truths : List Bool) → slice_get context.image.rules k ≡ Some row → slice_get rules.rules k ≡ Some rule → length truths ≡ k
      → Ends context truths (code_of context.image row) (holds (value_of (environment_of context truths) rule.condition []))
  rule_ends k row rule truths h at long =
      let c = rule_code context.image rules good ids built k row h in
      let same : c.0 ≡ rule = same_Some c.0 rule (sym c.1 ∙ at) in
      let g : IsGoodRule rules k rule = good.good_rules k rule at in
      let kind = some_of (kind_of rules.externals rule.condition []) g.kinds in
      let low = g.low in
      let P : ℕ → Type 0 = λ n. Fits (bounds_of context.image n) rule.condition [] in
      let fit = subst P (sym long) (fits_there context.image rules good ids built k rule at) in
      let id : HasIds (ids_of field_row_of call_row_of) rule.condition = all_at (λ (r : PlainRule). HasIds (ids_of field_row_of call_row_of) r.condition) rules.rules k rule ids at in
      let Q : PlainRule → Type 0 = λ r. Stands context.image (code_of context.image row) (rule_part rules.externals r.condition) 0 c.2 in
      emission.rule_ends context truths (code_of context.image row) rules.externals rule.condition kind.0 c.2 knows (kinds truths) kind.1 fit id
      (has_room (bounds_of context.image (length truths)) rules.externals rule.condition [] kind.0 0 (kinded rules.externals rule.condition [] kind.0 kind.1) fit (omega (arith, low)))
      (subst Q same c.4)

  pub truths_are : AreImageTruths context (truths_of (environment_of context []) rules.rules)
  truths_are = record { count = count; each = each }
    where
      count : length (truths_of (environment_of context []) rules.rules) ≡ length context.image.rules
      count =
          let r = truths_begin (environment_of context []) [] (map (λ (rule : PlainRule). rule.condition) rules.rules) in
          let long = r.2 in
          let e = length-map rules.rules (λ (rule : PlainRule). rule.condition) in
          let n = built.listed.count in
          ap length r.1 ∙ omega (arith, long, e, n)

      each : (k : ℕ) (row : RuleRow) (truth : Bool) → slice_get context.image.rules k ≡ Some row → slice_get (truths_of (environment_of context []) rules.rules) k ≡ Some truth
          → Ends context (take k (truths_of (environment_of context []) rules.rules)) (code_of context.image row) truth
      each k row truth h g =
          let all = truths_of (environment_of context []) rules.rules in
          let n = built.listed.count in
          let inside : k < length context.image.rules = slice_get_within context.image.rules k row h in
          let rule = there rules.rules k (omega (arith, inside, n)) in
          let zero_more : 0 + k ≡ k = omega arith in
          let P : ℕ → Type 0 = λ m. slice_get all m ≡ Some (truth_after (environment_of context []) (take m all) rule.0.condition) in
          let is = subst P zero_more (truth_at (environment_of context []) [] (map (λ (r : PlainRule). r.condition) rules.rules) k rule.0.condition (map_at (λ (r : PlainRule). r.condition) rules.rules k rule.0 rule.1)) in
          let same : truth_after (environment_of context []) (take k all) rule.0.condition ≡ truth = same_Some _ truth (sym is ∙ g) in
          let whole = count in
          let Q : Bool → Type 0 = λ b. Ends context (take k all) (code_of context.image row) b in
          subst Q same (rule_ends k row rule.0 (take k all) h rule.1 (length-take-le k all (omega (arith, inside, whole))))
