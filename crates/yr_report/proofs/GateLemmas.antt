-- Names in their order, and a search among them.
use Rattle.std.proofs.Common.{◌≡◌, ℕ, ◌+◌, ◌<◌, inl, inr, Bool, true, false, ◌&&◌, ◌||◌, List, [], ◌∷◌, length, take, set, get_or, Result, Ok, Err, Bor, refl, sym, ap, ap₂, ◌∙◌, arith}
use Rattle.std.specs.Str.{bytes_eq}
use Rattle.std.specs.List.{list_any}
use Rattle.std.specs.List.Sorted.{IsSearchInRange, IsBinarySearchResult}
use Rattle.std.specs.Ordering.{is_eq, nat_cmp}
use Rattle.std.specs.Result.{is_ok}
use Rattle.std.specs.Cmp.Lexicographic.{slice_cmp}
use Rattle.std.proofs.lemmas.Bool.{cases_lt}
use Rattle.std.proofs.lemmas.Bool.Decides.{nat_tests}
use Rattle.std.proofs.lemmas.Cmp.{nat_list_cmp_total, same_from_slice_cmp}
use Rattle.std.proofs.lemmas.List.{take_more_set}
use Rattle.std.proofs.lemmas.List.Folds.{list_any_at, list_any_none, list_any-append}
use Rattle.std.proofs.lemmas.List.Sorted.{searchable_from_sorted}
use Rattle.yr_report.specs.Scenes.{is_text, AreSorted}

abbrev Name : Type 0
Name = Bor (List ℕ)

-- the test for a name, by the order of names
by_order : (asked : List ℕ) (name : Name) → is_text asked name ≡ is_eq (slice_cmp nat_cmp name.now asked)
by_order asked name =
    sym (same_from_slice_cmp nat_cmp is_eq bytes_eq refl (λ y ys. refl) (λ x xs. refl) (λ x y xs ys o h. grind (arith, nat_tests)) name.now asked
    (slice_cmp nat_cmp name.now asked) refl)

-- what a binary search finds
pub found : (names : List Name) (asked : List ℕ) (r : Result ℕ ℕ) → IsSearchInRange r (length names) → IsBinarySearchResult (λ y. slice_cmp nat_cmp y.now asked) names r
    → AreSorted names → is_ok r ≡ list_any (is_text asked) names
found [] asked (Ok i) bound at sorted = absurd (omega (arith, bound))
found (x ∷ names) asked (Ok i) bound at sorted =
    sym (list_any_at (is_text asked) (x ∷ names) i x bound (by_order asked (get_or (x ∷ names) i x) ∙ ap is_eq (at x)))
found names asked (Err i) bound at sorted =
    let parts = at (searchable_from_sorted nat_list_cmp_total (λ (b : Name). b.now) names asked sorted) in
    sym (list_any_none (is_text asked) names (λ k d lt.
    elim (cases_lt k i) [
      | inl low ↦ by_order asked (get_or names k d) ∙ ap is_eq (parts.0 k d (omega arith) low)
      | inr high ↦ by_order asked (get_or names k d) ∙ ap is_eq (parts.1 k d high lt)
    ]))

pub or-false : (b : Bool) → (b || false) ≡ b
or-false true = refl
or-false false = refl

-- one name more
pub name-more : (names : List Name) (count : ℕ) (name : Name) (asked : List ℕ) → count < length names
    → list_any (is_text asked) (take (count + 1) (set names count name)) ≡ (list_any (is_text asked) (take count names) || is_text asked name)
name-more names count name asked lt =
    ap (list_any (is_text asked)) (take_more_set names count name lt) ∙ list_any-append (is_text asked) (take count names) (name ∷ [])
    ∙ ap (λ b. list_any (is_text asked) (take count names) || b) (or-false (is_text asked name))

pub or-assoc : (a b c : Bool) → ((a || b) || c) ≡ (a || (b || c))
or-assoc true b c = refl
or-assoc false b c = refl

pub and-three : (more global fails text same : Bool) → more ≡ (global && fails) → text ≡ same → (more && text) ≡ (global && (fails && same))
and-three more true fails text same e h = ap₂ (λ a b. a && b) e h
and-three more false fails text same e h = ap (λ a. a && text) e

pub and-none : (global fails text : Bool) → (global && fails) ≡ false → (global && (fails && text)) ≡ false
and-none true fails text e = ap (λ a. a && text) e
and-none false fails text e = refl
