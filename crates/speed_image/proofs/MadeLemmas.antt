-- Rules that were made one after another are wellformed.
use Rattle.std.proofs.Common.{◌≡◌, ℕ, zero, suc, ◌+◌, ◌*◌, ◌≤◌, ◌<◌, Bool, true, false, ◌||◌, if◌then◌else◌, ◌⊎◌, inl, inr, List, [], ◌∷◌, ◌++◌, length, map, take, codes, Option, All, Some, slice_get, is_some, refl, sym, ap, ◌∙◌, subst, arith}
use Rattle.std.specs.Str.{bytes_eq}
use Rattle.std.specs.List.{list_any, list_all}
use Rattle.std.proofs.lemmas.List.{length-append, length-take-le}
use Rattle.std.proofs.lemmas.List.Elements.{All-nil, All-cons, All-push}
use Rattle.std.proofs.lemmas.List.Sums.{AllPass-from_list_all}
use Rattle.std.proofs.lemmas.Cmp.{nat_list_eq_equiv}
use Rattle.std.proofs.lemmas.Map.Views.{list_any-from_Contains}
use Rattle.std.proofs.lemmas.Option.{none-some, same_Some, slice_get_within}
use Rattle.std.proofs.lemmas.Slice.Eq.{bytes_eq-Decides}
use Rattle.yr_base.specs.Bytes.{is_word_byte}
use Rattle.yr_base.specs.Words.{IsWord, reserved_words, IsReserved}
use Rattle.yr_syntax.specs.Forms.{IsName, IsWordName}
use Rattle.yr_pattern.specs.Variants.{PlainVariant}
use Rattle.yr_rules.specs.Rules.{PlainString, PlainRule, PlainRules}
use Rattle.yr_rules.specs.Wellformed.{IsShortWord, IsGoodVariant, IsGoodString, IsGoodRule, HasItsStrings, IsWellformed, count_different}
use Rattle.yr_rules.specs.Weight.{total, string_weight, rule_weight}
use Rattle.yr_meaning.specs.Fitting.{ids_of}
use Rattle.yr_rules.specs.Ids.{HasIds}
use Rattle.yr_image.specs.ModuleTable.{field_row_of, call_row_of}
use Rattle.yr_preserves.specs.RuleIds.{HaveIds}
use Rattle.speed_image.specs.Made.{plain_rule, plain_string, AreMade}

-- ---- one more

pushed : {A : Type 0} (xs : List A) (x : A) (k : ℕ) (y : A) → slice_get (xs ++ x ∷ []) k ≡ Some y → (slice_get xs k ≡ Some y) ⊎ ((k ≡ length xs) × (x ≡ y))
pushed [] x zero y h = inr (refl, same_Some x y h)
pushed [] x (suc k) y h = absurd (none-some y h)
pushed (z ∷ xs) x zero y h = inl h
pushed (z ∷ xs) x (suc k) y h = at (pushed xs x k y h)
  where
    at : (slice_get xs k ≡ Some y) ⊎ ((k ≡ length xs) × (x ≡ y)) → (slice_get xs k ≡ Some y) ⊎ ((suc k ≡ suc (length xs)) × (x ≡ y))
    at (inl g) = inl g
    at (inr g) = inr (ap suc g.0, g.1)

good_name : IsName (codes "a")
good_name = ((refl, tt), omega arith)

pub none_made : AreMade [] []
none_made = record {
  as_many = refl;
  are = λ k rule h. absurd (none-some rule h);
  own = λ k string h. absurd (none-some string h);
  good = All-nil IsGoodString;
}

pub more_made : (rules : List PlainRule) (strings : List PlainString) (k : ℕ) (variants : List PlainVariant) (rule : PlainRule) (string : PlainString)
    → AreMade rules strings → k ≡ length rules → rule ≡ plain_rule k → string ≡ plain_string k variants → All IsGoodVariant variants
    → AreMade (rules ++ rule ∷ []) (strings ++ string ∷ [])
more_made rules strings k variants rule string m count is_rule is_string good = record {
  as_many = let a = m.as_many in let b = length-append rules (rule ∷ []) in let c = length-append strings (string ∷ []) in omega (arith, a, b, c);
  are = λ j r h. at_rule j r (pushed rules rule j r h);
  own = λ j s h. at_string j s (pushed strings string j s h);
  good = All-push IsGoodString strings string m.good (subst IsGoodString (sym is_string) (good_name, good));
}
  where
    at_rule : (j : ℕ) (r : PlainRule) → (slice_get rules j ≡ Some r) ⊎ ((j ≡ length rules) × (rule ≡ r)) → r ≡ plain_rule j
    at_rule j r (inl g) = m.are j r g
    at_rule j r (inr g) = sym g.1 ∙ is_rule ∙ ap plain_rule (count ∙ sym g.0)

    at_string : (j : ℕ) (s : PlainString) → (slice_get strings j ≡ Some s) ⊎ ((j ≡ length strings) × (string ≡ s)) → s.rule ≡ j
    at_string j s (inl g) = m.own j s g
    at_string j s (inr g) = ap (λ (x : PlainString). x.rule) (sym g.1 ∙ is_string) ∙ count ∙ m.as_many ∙ sym g.0

-- ---- names

good_space : IsShortWord (codes "default")
good_space = (record { first = 100; rest = codes "efault"; whole = refl; begins = refl; goes_on = AllPass-from_list_all is_word_byte (codes "efault") refl }, omega arith)

good_rule_name : IsWordName (codes "made")
good_rule_name = (
  record { first = 109; rest = codes "ade"; whole = refl; begins = refl; goes_on = AllPass-from_list_all is_word_byte (codes "ade") refl },
  unreserved,
  omega arith,
)
  where
    unreserved : IsReserved (codes "made") → ⊥
    unreserved h = let e : list_any (bytes_eq (codes "made")) reserved_words ≡ true = list_any-from_Contains nat_list_eq_equiv (codes "made") reserved_words h in cc

-- ---- sums over rules that are alike

module _ (rules : List PlainRule) (strings : List PlainString) (made : AreMade rules strings) where
  abbrev whole : PlainRules
  whole = record { rules = rules; strings = strings; externals = [] }

  abbrev IsPlain : PlainRule → Type 0
  IsPlain r = (k : ℕ) × (r ≡ plain_rule k)

  plain_at : (k : ℕ) (r : PlainRule) → slice_get rules k ≡ Some r → IsPlain r
  plain_at k r h = (k, made.are k r h)

  count_all : (rs : List PlainRule) → ((k : ℕ) (r : PlainRule) → slice_get rs k ≡ Some r → IsPlain r) → total (λ rule. rule.string_count) rs ≡ length rs
  count_all [] h = refl
  count_all (r ∷ rs) h =
      let rest = count_all rs (λ k q e. h (suc k) q e) in
      let one : r.string_count ≡ 1 = ap (λ (q : PlainRule). q.string_count) (h 0 r refl).1 in omega (arith, rest, one)

  weigh_all : (rs : List PlainRule) → ((k : ℕ) (r : PlainRule) → slice_get rs k ≡ Some r → IsPlain r) → total rule_weight rs ≡ 84 * length rs
  weigh_all [] h = refl
  weigh_all (r ∷ rs) h =
      let rest = weigh_all rs (λ k q e. h (suc k) q e) in
      let one : rule_weight r ≡ 84 = ap rule_weight (h 0 r refl).1 in omega (arith, rest, one)

  one_space : (rs : List PlainRule) → ((k : ℕ) (r : PlainRule) → slice_get rs k ≡ Some r → IsPlain r) → count_different (map (λ rule. rule.space) rs) ≤ 1
  one_space [] h = omega arith
  one_space (r ∷ []) h = omega arith
  one_space (r ∷ q ∷ rs) h =
      let rest = one_space (q ∷ rs) (λ k x e. h (suc k) x e) in
      let same : r.space ≡ q.space = ap (λ (x : PlainRule). x.space) (h 0 r refl).1 ∙ sym (ap (λ (x : PlainRule). x.space) (h 1 q refl).1) in
      at (bytes_eq r.space q.space) ((bytes_eq-Decides r.space q.space).1 same) rest
    where
      at : (b : Bool) → b ≡ true → count_different (q.space ∷ map (λ rule. rule.space) rs) ≤ 1
          → (if b || list_any (bytes_eq r.space) (map (λ rule. rule.space) rs) then count_different (q.space ∷ map (λ rule. rule.space) rs)
          else count_different (q.space ∷ map (λ rule. rule.space) rs) + 1) ≤ 1
      at true e low = low
      at false e low = cc

  taken : (xs : List PlainRule) (count k : ℕ) (x : PlainRule) → slice_get (take count xs) k ≡ Some x → slice_get xs k ≡ Some x
  taken [] zero k x h = h
  taken [] (suc count) k x h = h
  taken (y ∷ xs) zero k x h = absurd (none-some x h)
  taken (y ∷ xs) (suc count) zero x h = h
  taken (y ∷ xs) (suc count) (suc k) x h = taken xs count k x h

  good_rule : (k : ℕ) (r : PlainRule) → slice_get rules k ≡ Some r → IsGoodRule whole k r
  good_rule k r h = subst (IsGoodRule whole k) (sym (made.are k r h)) (record {
    space = good_space;
    name = good_rule_name;
    tags = All-nil IsWordName;
    keys = All-nil (λ m. IsWordName m.key);
    low = omega arith;
    kinds = refl;
    fits = (let a = slice_get_within rules k r h in let b = made.as_many in omega (arith, a, b), tt);
  })

  its_strings : (k : ℕ) (r : PlainRule) → slice_get rules k ≡ Some r → HasItsStrings whole k r
  its_strings k r h = record {
    first =
        let a = slice_get_within rules k r h in
        let b = length-take-le k rules (omega (arith, a)) in
        let c = count_all (take k rules) (λ j q e. plain_at j q (taken rules k j q e)) in
        let d : r.first_string ≡ k = ap (λ (x : PlainRule). x.first_string) (made.are k r h) in omega (arith, b, c, d);
    own = λ j s low high e.
        let a : r.first_string ≡ k = ap (λ (x : PlainRule). x.first_string) (made.are k r h) in
        let b : r.string_count ≡ 1 = ap (λ (x : PlainRule). x.string_count) (made.are k r h) in
        let c = made.own j s e in omega (arith, a, b, c, low, high);
  }

  pub are_wellformed : length rules ≤ 65535 → total string_weight strings ≤ 28000000 → IsWellformed whole
  are_wellformed few low = record {
    good_rules = good_rule;
    good_strings = made.good;
    own_strings = its_strings;
    all_strings = count_all rules plain_at ∙ made.as_many;
    externals_named = All-nil (λ e. IsShortWord e.name);
    externals_differ = refl;
    few_rules = few;
    few_strings = let a = made.as_many in omega (arith, a, few);
    few_spaces = let a = one_space rules plain_at in omega (arith, a);
    light = let a = weigh_all rules plain_at in omega (arith, a, few, low);
  }

  have_ids : (rs : List PlainRule) → ((k : ℕ) (r : PlainRule) → slice_get rs k ≡ Some r → IsPlain r) → All (λ rule. HasIds (ids_of field_row_of call_row_of) rule.condition) rs
  have_ids [] h = All-nil (λ rule. HasIds (ids_of field_row_of call_row_of) rule.condition)
  have_ids (r ∷ rs) h = All-cons (λ rule. HasIds (ids_of field_row_of call_row_of) rule.condition) r rs
      (subst (λ (rule : PlainRule). HasIds (ids_of field_row_of call_row_of) rule.condition) (sym (h 0 r refl).1) tt) (have_ids rs (λ k q e. h (suc k) q e))

  pub ids_there : HaveIds whole
  ids_there = have_ids rules plain_at
