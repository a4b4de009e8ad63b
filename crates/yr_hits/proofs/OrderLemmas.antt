-- Numbers in order, and how many of them are less than another.
use Rattle.std.proofs.Common.{◌≡◌, ℕ, ◌+◌, ◌-◌, ◌<◌, ◌≤◌, ◌⊎◌, inl, inr, List, length, Contains, sym, ◌∙◌, subst, arith}
use Rattle.std.specs.Prelude.{slice_index}
use Rattle.std.specs.List.Sorted.{IsNonDecreasing}
use Rattle.std.proofs.lemmas.List.{get_or_default}
use Rattle.std.proofs.lemmas.List.Elements.{Contains-get_or}
use Rattle.std.proofs.lemmas.Bool.{cases_lt}
use Rattle.yr_hits.specs.Sweeps.{IsCountBelow}

-- a member by its place
pub contains_at : (hits : List ℕ) (q : ℕ) → q < length hits → Contains hits (slice_index hits q)
contains_at hits q lt = Contains-get_or hits q 0 lt

pub place_of : (hits : List ℕ) (e : ℕ) → Contains hits e → (q : ℕ) × (q < length hits) × (slice_index hits q ≡ e)
place_of hits e h = (h.0, h.1, sym (get_or_default hits h.0 e 0 h.1) ∙ h.2)

-- what is counted below a place, and below the next
module _ (hits : List ℕ) (place count below : ℕ) (next : IsCountBelow hits (place + 1) count) (here : IsCountBelow hits place below) where
  pub is_there : below < count → Contains hits place
  is_there lt =
      let inside : below < length hits = omega (arith, lt, next.inside) in
      let most = next.below below lt in
      let least = here.behind below (omega arith) inside in
      let is : slice_index hits below ≡ place = omega (arith, most, least) in
      subst (Contains hits) is (contains_at hits below inside)

  pub is_counted : Contains hits place → below < count
  is_counted h =
      let at = place_of hits place h in
      elim (cases_lt at.0 below) [
        | inl lt ↦ let less = here.below at.0 lt in absurd (omega (arith, less, at.2))
        | inr le ↦ elim (cases_lt at.0 count) [
          | inl lt ↦ omega (arith, le, lt)
          | inr past ↦ let more = next.behind at.0 past at.1 in absurd (omega (arith, more, at.2))
        ]
      ]

-- all that are less are counted
pub count_all : (hits : List ℕ) (place : ℕ) → ((e : ℕ) → Contains hits e → e < place) → IsCountBelow hits place (length hits)
count_all hits place less = record {
  inside = omega arith;
  below = λ q lt. less (slice_index hits q) (contains_at hits q lt);
  behind = λ q le lt. absurd (omega (arith, le, lt));
}

-- the last that is counted is the greatest
pub count_to : (hits : List ℕ) (place count left : ℕ) → IsNonDecreasing hits → IsCountBelow hits (place + 1) count → left ≤ count
    → ((q : ℕ) → left ≤ q → q < length hits → place ≤ slice_index hits q)
    → (left ≡ 0) ⊎ ((slice_index hits (left - 1) ≡ place) → ⊥) → IsCountBelow hits place left
count_to hits place count left ascending next le behind (inl none) = record {
  inside = omega (arith, le, next.inside);
  below = λ q lt. absurd (omega (arith, none, lt));
  behind = behind;
}
count_to hits place count left ascending next le behind (inr other) = record {
  inside = omega (arith, le, next.inside);
  below = λ q lt.
      let last = next.below (left - 1) (omega (arith, lt, le)) in
      let less : slice_index hits (left - 1) < place = omega (arith, last, other) in
      let up = ascending q (left - 1) 0 (omega (arith, lt)) (omega (arith, lt, le, next.inside)) in
      omega (arith, less, up);
  behind = behind;
}

pub behind_more : (hits : List ℕ) (place left : ℕ) → ((q : ℕ) → left + 1 ≤ q → q < length hits → place ≤ slice_index hits q)
    → slice_index hits left ≡ place → (q : ℕ) → left ≤ q → q < length hits → place ≤ slice_index hits q
behind_more hits place left behind is q le lt =
    elim (cases_lt left q) [
      | inl more ↦ behind q (omega (arith, more)) lt
      | inr here ↦
          let same : q ≡ left = omega (arith, le, here) in
          subst (λ k. place ≤ slice_index hits k) (sym same) (omega (arith, is))
    ]
