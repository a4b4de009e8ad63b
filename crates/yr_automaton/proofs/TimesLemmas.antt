-- How often numbers stand in parts of a list.
use Rattle.std.proofs.Common.{◌≡◌, ◌≢◌, ℕ, zero, suc, ◌+◌, ◌<◌, ◌≤◌, inl, inr, List, [], ◌∷◌, ◌++◌, map, length, length-take, take, drop, length-drop, get_or, get_or-take, get_or-drop, refl, sym, ap, ◌∙◌, arith}
use Rattle.std.proofs.lemmas.Bool.{cases_lt}
use Rattle.std.proofs.lemmas.Bool.Decides.{nat_tests}
use Rattle.yr_rows.specs.declared.nodes.EdgeRow.{EdgeRow}
use Rattle.yr_rows.specs.Words.{times}
use Rattle.yr_rows.specs.Nodes.{Each}
use Rattle.yr_automaton.proofs.SuffixLemmas.{times-append}

pub times_none : (i : ℕ) (xs : List ℕ) → ((k : ℕ) → k < length xs → get_or xs k 0 ≢ i) → times i xs ≡ 0
times_none i [] h = refl
times_none i (x ∷ xs) h =
    let here : x ≢ i = h 0 (omega arith) in
    let rest = times_none i xs (λ k lt. h (suc k) (omega (arith, lt))) in
    grind (arith, nat_tests, here, rest)

pub join_segment : (f : ℕ) (xs : List ℕ) → take f xs ++ drop f xs ≡ xs
join_segment zero xs = refl
join_segment (suc f) [] = refl
join_segment (suc f) (x ∷ xs) = ap (λ l. x ∷ l) (join_segment f xs)

-- the segment from f to f + c has all of them, or none
pub times_segment : (i c f : ℕ) (xs : List ℕ) → f + c ≤ length xs → ((k : ℕ) → k < length xs → get_or xs k 0 ≡ i → (f ≤ k) × (k < f + c)) → times i (take c (drop f xs)) ≡ times i xs
times_segment i c f xs fits only =
    let back = drop c (drop f xs) in
    let none_before = times_none i (take f xs) (λ k lt e. let lf : k < f = omega (arith, lt, length-take f xs) in omega (arith, lf, (only k (omega (arith, lf, fits)) (sym (get_or-take f xs k 0 lf) ∙ e)).0)) in
    let none_after = times_none i back (λ k lt e.
    let lk : f + (c + k) < length xs = omega (arith, lt, length-drop c (drop f xs), length-drop f xs) in
    omega (arith, (only (f + (c + k)) lk (sym (get_or-drop f xs (c + k) 0) ∙ (sym (get_or-drop c (drop f xs) k 0) ∙ e))).1)) in
    omega (arith, none_before, none_after, ap (times i) (join_segment f xs), times-append i (take f xs) (drop f xs), ap (times i) (join_segment c (drop f xs)), times-append i (take c (drop f xs)) back)

pub times_part : (i c f : ℕ) (xs : List ℕ) → times i xs ≡ 0 → times i (take c (drop f xs)) ≡ 0
times_part i c f xs none =
    omega (
      arith,
      none,
      ap (times i) (join_segment f xs),
      times-append i (take f xs) (drop f xs),
      ap (times i) (join_segment c (drop f xs)),
      times-append i (take c (drop f xs)) (drop c (drop f xs)),
    )

-- targets that count up from f: each number from there on stands once among them
pub times_below : (f : ℕ) (es : List EdgeRow) → Each (λ k e. e.target ≡ k + f) es → (n : ℕ) → n < f → times n (map (λ (e : EdgeRow). e.target) es) ≡ 0
times_below f [] each n lt = refl
times_below f (e ∷ es) each n lt =
    let here : e.target ≡ 0 + f = each 0 e refl in
    let rest = times_below (f + 1) es (λ k d at. each (suc k) d at ∙ omega arith) n (omega (arith, lt)) in
    let other : e.target ≢ n = λ same. omega (arith, here, same, lt) in
    grind (arith, nat_tests, other, rest)

pub times_targets : (f : ℕ) (es : List EdgeRow) → Each (λ k e. e.target ≡ k + f) es → (n : ℕ) → f ≤ n → n < length es + f → times n (map (λ (e : EdgeRow). e.target) es) ≡ 1
times_targets f [] each n le lt = absurd (omega (arith, le, lt))
times_targets f (e ∷ es) each n le lt =
    let here : e.target ≡ 0 + f = each 0 e refl in
    let up : Each (λ k d. d.target ≡ k + (f + 1)) es = λ k d at. each (suc k) d at ∙ omega arith in
    elim (cases_lt f n) [
      | inl more ↦
          let rest = times_targets (f + 1) es up n (omega (arith, more)) (omega (arith, lt)) in
          let other : e.target ≢ n = λ same. omega (arith, here, same, more) in
          grind (arith, nat_tests, other, rest)
      | inr not ↦
          let rest = times_below (f + 1) es up n (omega (arith, not)) in
          let same : e.target ≡ n = omega (arith, here, le, not) in
          grind (arith, nat_tests, same, rest)
    ]
