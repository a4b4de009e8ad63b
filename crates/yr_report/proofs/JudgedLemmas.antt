-- The rules of a scene with their truths, from one of them on.
use Rattle.std.proofs.Common.{◌≡◌, ℕ, suc, ◌+◌, ◌<◌, ◌≤◌, Bool, false, cond, ◌||◌, List, [], ◌∷◌, ◌++◌, length, map, drop, get_or, zip, flat_map, Some, refl, sym, ap, ap₂, ◌∙◌, arith}
use Rattle.std.specs.Prelude.{slice_get}
use Rattle.std.specs.List.{list_any, count_by}
use Rattle.std.proofs.lemmas.List.{drop_all}
use Rattle.std.proofs.lemmas.List.Sums.{sum_by-cons}
use Rattle.std.proofs.Math.Seq.{drop-cons}
use Rattle.yr_base.specs.declared.value.Truth.{Truth}
use Rattle.yr_answer.specs.Listing.{ListedRule}
use Rattle.yr_answer.specs.Report.{on_request}
use Rattle.yr_answer.specs.Reported.{shuts, is_reported, reported_of}
use Rattle.yr_answer.specs.Truths.{is_yes, truths_shown}
use Rattle.yr_answer.proofs.ReportedLemmas.{text_by_rule, count_by_rule}
use Rattle.yr_image.specs.declared.rows.RuleRow.{RuleRow}
use Rattle.yr_image.specs.Views.{image_of}
use Rattle.yr_machine.specs.Listing.{listed_rule, listed_rules}
use Rattle.yr_report.specs.declared.scene.Scene.{Scene}
use Rattle.yr_report.specs.Scenes.{judged_of}
use Rattle.yr_report.proofs.RangeLemmas.{drop-none, drop-next}

zip-none : {A B : Type 0} (xs : List A) → zip {X = B} xs [] ≡ []
zip-none [] = refl
zip-none (x ∷ xs) = refl

module _ (scene : Scene) where
  abbrev pub judged_from : ℕ → List (ListedRule × Bool)
  judged_from k = zip (map (listed_rule (image_of scene.view)) (drop k (image_of scene.view).rules)) (map is_yes (drop k scene.results.now))

  pub judged-first : judged_of scene ≡ judged_from 0
  judged-first =
      ap₂ (λ (rules : List RuleRow) (truths : List Truth). zip (map (listed_rule (image_of scene.view)) rules) (map is_yes truths))
      (sym (drop-none (image_of scene.view).rules)) (sym (drop-none scene.results.now))

  pub judged-next : (k : ℕ) (row : RuleRow) (d : Truth) → k < length scene.results.now → slice_get (image_of scene.view).rules k ≡ Some row
      → judged_from k ≡ (listed_rule (image_of scene.view) row, is_yes (get_or scene.results.now k d)) ∷ judged_from (k + 1)
  judged-next k row d lt e =
      let one : suc k ≡ k + 1 = omega arith in
      ap₂ (λ (rules : List RuleRow) (truths : List Truth). zip (map (listed_rule (image_of scene.view)) rules) (map is_yes truths))
      (drop-next (image_of scene.view).rules k row e)
      (drop-cons scene.results.now k d lt ∙ ap (λ n. get_or scene.results.now k d ∷ drop n scene.results.now) one)

  pub judged-none : (k : ℕ) → length scene.results.now ≤ k → judged_from k ≡ []
  judged-none k le =
      ap (λ (truths : List Truth). zip (map (listed_rule (image_of scene.view)) (drop k (image_of scene.view).rules)) (map is_yes truths)) (drop_all k scene.results.now le)
      ∙ zip-none (map (listed_rule (image_of scene.view)) (drop k (image_of scene.view).rules))

  -- ---- the texts of the reported rules

  abbrev is_one : ListedRule × Bool → Bool
  is_one = is_reported scene.options.negate (judged_of scene)

  abbrev pub text_if : (ListedRule → List ℕ) → ListedRule × Bool → List ℕ
  text_if text judged = on_request (is_one judged) (text judged.0)

  abbrev pub report_from : (ListedRule → List ℕ) → ℕ → List ℕ
  report_from text k = flat_map (text_if text) (judged_from k)

  pub report-first : (text : ListedRule → List ℕ)
      → flat_map text (reported_of scene.options.negate (listed_rules (image_of scene.view)) (truths_shown scene.results.now)) ≡ report_from text 0
  report-first text =
      text_by_rule scene.options.negate (listed_rules (image_of scene.view)) (truths_shown scene.results.now) text ∙ ap (flat_map (text_if text)) judged-first

  pub report-next : (text : ListedRule → List ℕ) (k : ℕ) (row : RuleRow) (d : Truth) → k < length scene.results.now → slice_get (image_of scene.view).rules k ≡ Some row
      → report_from text k ≡ text_if text (listed_rule (image_of scene.view) row, is_yes (get_or scene.results.now k d)) ++ report_from text (k + 1)
  report-next text k row d lt e = ap (flat_map (text_if text)) (judged-next k row d lt e)

  pub report-none : (text : ListedRule → List ℕ) (k : ℕ) → length scene.results.now ≤ k → report_from text k ≡ []
  report-none text k le = ap (flat_map (text_if text)) (judged-none k le)

  -- ---- their number

  abbrev pub count_from : ℕ → ℕ
  count_from k = count_by is_one (judged_from k)

  pub count-first : length (reported_of scene.options.negate (listed_rules (image_of scene.view)) (truths_shown scene.results.now)) ≡ count_from 0
  count-first = count_by_rule scene.options.negate (listed_rules (image_of scene.view)) (truths_shown scene.results.now) ∙ ap (count_by is_one) judged-first

  pub count-next : (k : ℕ) (row : RuleRow) (d : Truth) (r : Bool) → k < length scene.results.now → slice_get (image_of scene.view).rules k ≡ Some row
      → r ≡ is_one (listed_rule (image_of scene.view) row, is_yes (get_or scene.results.now k d)) → count_from k ≡ cond r 1 0 + count_from (k + 1)
  count-next k row d r lt e is =
      let one : ListedRule × Bool = (listed_rule (image_of scene.view) row, is_yes (get_or scene.results.now k d)) in
      ap (count_by is_one) (judged-next k row d lt e) ∙ sum_by-cons (λ judged. cond (is_one judged) 1 0) one (judged_from (k + 1)) ∙ ap (λ b. cond b 1 0 + count_from (k + 1)) (sym is)

  pub count-none : (k : ℕ) → length scene.results.now ≤ k → count_from k ≡ 0
  count-none k le = ap (count_by is_one) (judged-none k le)

  -- ---- namespaces that are shut

  abbrev pub shut_from : List ℕ → ℕ → Bool
  shut_from name k = list_any (shuts name) (judged_from k)

  pub shut-first : (name : List ℕ) → list_any (shuts name) (judged_of scene) ≡ shut_from name 0
  shut-first name = ap (list_any (shuts name)) judged-first

  pub shut-next : (name : List ℕ) (k : ℕ) (row : RuleRow) (d : Truth) (r : Bool) → k < length scene.results.now → slice_get (image_of scene.view).rules k ≡ Some row
      → r ≡ shuts name (listed_rule (image_of scene.view) row, is_yes (get_or scene.results.now k d)) → shut_from name k ≡ (r || shut_from name (k + 1))
  shut-next name k row d r lt e is = ap (list_any (shuts name)) (judged-next k row d lt e) ∙ ap (λ b. b || shut_from name (k + 1)) (sym is)

  pub shut-none : (name : List ℕ) (k : ℕ) → length scene.results.now ≤ k → shut_from name k ≡ false
  shut-none name k le = ap (list_any (shuts name)) (judged-none k le)
