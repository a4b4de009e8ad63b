-- Each string of checked rules lies in the range of its rule.
use Rattle.std.proofs.Common.{◌≡◌, ℕ, suc, ◌+◌, ◌-◌, ◌<◌, ◌≤◌, nat_le, nat_lt, true, false, ⊎_elim, List, [], ◌∷◌, length, take, Option, Some, None, slice_get, refl, sym, ap, ◌∙◌, arith}
use Rattle.std.specs.Option.{option_map_or}
use Rattle.std.proofs.lemmas.Bool.{le-leb, cases_lt}
use Rattle.std.proofs.lemmas.Bool.Decides.{Decides-ltb}
use Rattle.std.proofs.lemmas.Option.{slice_get_within}
use Rattle.yr_rules.specs.Rules.{PlainString, PlainRule, PlainRules}
use Rattle.yr_rules.specs.Weight.{total}
use Rattle.yr_rules.specs.Wellformed.{IsWellformed, HasItsStrings}
use Rattle.yr_image.specs.declared.rows.RuleRow.{RuleRow}
use Rattle.yr_image.specs.declared.rows.StringRow.{StringRow}
use Rattle.yr_image.specs.Image.{Image, in_pool}
use Rattle.yr_machine.specs.Rows.{is_good_string, lies_in, row_passes}
use Rattle.yr_splits.specs.Placed.{Placed}
use Rattle.yr_splits.specs.Filling.{HasStrings, SayRanges}
use Rattle.yr_splits.proofs.CountLemmas.{there_too}
use Rattle.yr_splits.proofs.WholeLemmas.{both, string_says, string_place_passes, string_flags_pass}

-- some item holds place k of what all hold together
place_of : {X : Type 0} (count : X → ℕ) (xs : List X) (k : ℕ) → k < total count xs
    → (i : ℕ) × (x : X) × (slice_get xs i ≡ Some x) × (total count (take i xs) ≤ k) × (k < total count (take i xs) + count x)
place_of count [] k h = absurd (omega (arith, h))
place_of count (x ∷ xs) k h =
    ⊎_elim (λ b. (0, x, refl, omega arith, omega (arith, b)))
    (λ b. let n : ℕ = k - count x in
    let r = place_of count xs n (omega (arith, b, h)) in
    let low = r.3 in
    let high = r.4 in
    (suc r.0, r.1, r.2, omega (arith, b, low), omega (arith, b, high)))
    (cases_lt k (count x))

-- the rule of a string is there, and its range has the string
pub in_its_rule : (rules : PlainRules) → IsWellformed rules → (k : ℕ) (string : PlainString) → slice_get rules.strings k ≡ Some string
    → (rule : PlainRule) × (slice_get rules.rules string.rule ≡ Some rule) × (rule.first_string ≤ k) × (k < rule.first_string + rule.string_count)
in_its_rule rules good k string h =
    let all = good.all_strings in
    let inside : k < length rules.strings = slice_get_within rules.strings k string h in
    let p = place_of (λ (rule : PlainRule). rule.string_count) rules.rules k (omega (arith, inside, all)) in
    let its : HasItsStrings rules p.0 p.1 = good.own_strings p.0 p.1 p.2 in
    let first = its.first in
    let low : p.1.first_string ≤ k = let l = p.3 in omega (arith, l, first) in
    let high : k < p.1.first_string + p.1.string_count = let l = p.4 in omega (arith, l, first) in
    let own : string.rule ≡ p.0 = its.own k string low high h in
    (p.1, ap (λ n. slice_get rules.rules n) own ∙ p.2, low, high)

-- so the row of a string passes its check, if the rows of rules have their ranges
pub strings_pass : (image : Image) (placed : List Placed) (rules : PlainRules) → IsWellformed rules → HasStrings image placed rules.strings → SayRanges image rules
    → (k : ℕ) → row_passes image (is_good_string image k) image.strings k ≡ true
strings_pass image placed rules good has ranges k = at (slice_get image.strings k) refl
  where
    at : (o : Option StringRow) → slice_get image.strings k ≡ o → option_map_or (is_good_string image k) o true ≡ true
    at None e = refl
    at (Some row) e =
        let s = string_says image placed rules.strings has k row e in
        let r = in_its_rule rules good k s.0 s.1 in
        let there : (row : RuleRow) × (slice_get image.rules s.0.rule ≡ Some row) = there_too rules.rules image.rules s.0.rule r.0 (sym ranges.count) r.1 in
        let range = ranges.each s.0.rule r.0 there.0 r.1 there.1 in
        let here : slice_get image.rules row.rule ≡ Some there.0 = ap (λ n. slice_get image.rules n) s.2.rule ∙ there.1 in
        let first = range.0 in
        let low : nat_le there.0.first_string k ≡ true = let l = r.2 in le-leb there.0.first_string k (omega (arith, first, l)) in
        let high : nat_lt k (there.0.first_string + there.0.strings) ≡ true =
        let l = r.3 in let count = range.1 in (Decides-ltb k (there.0.first_string + there.0.strings)).1 (omega (arith, first, count, l)) in
        let lies : option_map_or (lies_in image k) (slice_get image.rules row.rule) false ≡ true =
        ap (λ (o : Option RuleRow). option_map_or (lies_in image k) o false) here ∙ both (nat_le there.0.first_string k) (nat_lt k (there.0.first_string + there.0.strings)) low high in
        both (in_pool image row.name_place row.name_length) _ (string_place_passes image placed rules.strings has k row e)
        (both (nat_le row.flags 3) _ (string_flags_pass image placed rules.strings has k row e) lies)
