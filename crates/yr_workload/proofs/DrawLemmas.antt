-- Draws after other draws, and lists that grow by one number.
use Rattle.std.proofs.Common.{◌≡◌, ℕ, zero, suc, ◌+◌, ◌*◌, ◌/◌, ◌%◌, ◌^◌, List, [], ◌∷◌, ◌++◌, map, append-nil, append_assoc, refl, sym, ap, ◌∙◌, arith}
use Rattle.std.specs.List.{flat_map, range_with_len}
use Rattle.std.proofs.lemmas.Grind.{flat_map-append}
use Rattle.yr_workload.specs.Workload.{next, after_draws, drawn_letters, draw, word, word_after}

pub draws_after : (number a b : ℕ) → after_draws (after_draws number a) b ≡ after_draws number (a + b)
draws_after number a zero = ap (after_draws number) (omega arith)
draws_after number a (suc b) =
    let more : suc (a + b) ≡ a + suc b = omega arith in
    ap next (draws_after number a b) ∙ ap (after_draws number) more

draw_after : (number a j below : ℕ) → draw (after_draws number a) j below ≡ draw number (a + j) below
draw_after number a j below =
    let more : a + (j + 1) ≡ a + j + 1 = omega arith in
    ap (λ x. x / 2 ^ 33 % below) (draws_after number a (j + 1) ∙ ap (after_draws number) more)

map_same : (f g : ℕ → ℕ) (xs : List ℕ) → ((x : ℕ) → f x ≡ g x) → map f xs ≡ map g xs
map_same f g [] h = refl
map_same f g (x ∷ xs) h = ap (λ y. y ∷ map f xs) (h x) ∙ ap (λ ys. g x ∷ ys) (map_same f g xs h)

-- a word by the number before its draws
pub word_by : (number i before : ℕ) → before ≡ after_draws number (drawn_letters * i) → word_after before i ≡ word number i
word_by number i before e =
    ap (λ (b : ℕ). word_after b i) e
    ∙ ap (λ letters. (97 + i) ∷ 113 ∷ letters)
    (map_same (λ j. 97 + draw (after_draws number (drawn_letters * i)) j 26) (λ j. 97 + draw number (drawn_letters * i + j) 26)
    (range_with_len 0 drawn_letters) (λ j. ap (λ d. 97 + d) (draw_after number (drawn_letters * i) j 26)))

-- one more number
range_next : (a n : ℕ) → range_with_len a (suc n) ≡ range_with_len a n ++ (a + n) ∷ []
range_next a zero = let same : a ≡ a + 0 = omega arith in ap (λ k. k ∷ []) same
range_next a (suc n) =
    let same : a + 1 + n ≡ a + suc n = omega arith in
    ap (λ l. a ∷ l) (range_next (a + 1) n ∙ ap (λ k. range_with_len (a + 1) n ++ k ∷ []) same)

counting_next : (n : ℕ) → range_with_len 0 (n + 1) ≡ range_with_len 0 n ++ n ∷ []
counting_next n =
    let more : n + 1 ≡ suc n = omega arith in
    let same : 0 + n ≡ n = omega arith in
    ap (range_with_len 0) more ∙ range_next 0 n ∙ ap (λ k. range_with_len 0 n ++ k ∷ []) same

-- one more of the lists for the numbers below n
pub flat_map_next : (f : ℕ → List ℕ) (n : ℕ) → flat_map f (range_with_len 0 (n + 1)) ≡ flat_map f (range_with_len 0 n) ++ f n
flat_map_next f n =
    ap (flat_map f) (counting_next n) ∙ flat_map-append f (range_with_len 0 n) (n ∷ [])
    ∙ ap (λ l. flat_map f (range_with_len 0 n) ++ l) (append-nil (f n))

-- one more draw
pub draw_next : (number k : ℕ) → after_draws number (k + 1) ≡ next (after_draws number k)
draw_next number k = let more : k + 1 ≡ suc k = omega arith in ap (after_draws number) more

-- what is added in two steps
pub and_then : (x a b : List ℕ) {y z : List ℕ} → y ≡ x ++ a → z ≡ y ++ b → z ≡ x ++ (a ++ b)
and_then x a b first second = second ∙ ap (λ l. l ++ b) first ∙ append_assoc x a b
