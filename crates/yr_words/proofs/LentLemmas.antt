-- Lists of lent words: tests on them, their fronts and backs, and the run of last words that give values.
use Rattle.std.proofs.Common.{◌≡◌, ℕ, zero, suc, ◌+◌, ◌-◌, ◌<◌, ◌≤◌, Bool, true, false, ◌&&◌, ◌||◌, List, [], ◌∷◌, ◌++◌, length, take, drop, get_or, Some, None, refl, sym, ap, subst, ◌∙◌, true≢false, nat_lt, arith}
use Rattle.std.proofs.lemmas.Bool.{ltb-true}
use Rattle.std.specs.Borrow.{Bor}
use Rattle.std.specs.List.{list_any, list_all}
use Rattle.std.specs.Option.{option_map}
use Rattle.yr_words.specs.Values.{Word, gives}
use Rattle.yr_words.specs.Words.{Split, last_apart, split_of, last_givens, before_givens, check_by, check_of}
use Rattle.yr_words.specs.Shown.{lent_words}

pub any-lent : (p : Word → Bool) (words : List (Bor Word)) → list_any (λ w. p w.now) words ≡ list_any p (lent_words words)
any-lent p [] = refl
any-lent p (w ∷ ws) = ap (λ b. p w.now || b) (any-lent p ws)

pub all-lent : (p : Word → Bool) (words : List (Bor Word)) → list_all (λ w. p w.now) words ≡ list_all p (lent_words words)
all-lent p [] = refl
all-lent p (w ∷ ws) = ap (λ b. p w.now && b) (all-lent p ws)

pub lent_take : (n : ℕ) (words : List (Bor Word)) → lent_words (take n words) ≡ take n (lent_words words)
lent_take zero words = refl
lent_take (suc n) [] = refl
lent_take (suc n) (w ∷ ws) = ap (λ xs. w.now ∷ xs) (lent_take n ws)

pub lent_drop : (n : ℕ) (words : List (Bor Word)) → lent_words (drop n words) ≡ drop n (lent_words words)
lent_drop zero words = refl
lent_drop (suc n) [] = refl
lent_drop (suc n) (w ∷ ws) = lent_drop n ws

pub lent_length : (words : List (Bor Word)) → length (lent_words words) ≡ length words
lent_length [] = refl
lent_length (w ∷ ws) = ap suc (lent_length ws)

both_true : (a b : Bool) → a ≡ true → b ≡ true → (a && b) ≡ true
both_true true b h k = k
both_true false b h k = absurd (true≢false (sym h))

later_false : (a b : Bool) → b ≡ false → (a && b) ≡ false
later_false true b h = h
later_false false b h = refl

first_false : (a b : Bool) → a ≡ false → (a && b) ≡ false
first_false a b h = rw h refl

-- one word more that passes
pub all-before : (p : Word → Bool) (ws : List Word) (n : ℕ) → n < length ws → p (get_or ws n []) ≡ true → list_all p (drop (suc n) ws) ≡ true → list_all p (drop n ws) ≡ true
all-before p [] n l h k = absurd (omega (arith, l))
all-before p (w ∷ ws) zero l h k = both_true (p w) (list_all p ws) h k
all-before p (w ∷ ws) (suc n) l h k = all-before p ws n (omega (arith, l)) h k

-- a word that does not pass
not-all : (p : Word → Bool) (ws : List Word) (n : ℕ) → n < length ws → p (get_or ws n []) ≡ false → list_all p ws ≡ false
not-all p [] n l h = absurd (omega (arith, l))
not-all p (w ∷ ws) zero l h = first_false (p w) (list_all p ws) h
not-all p (w ∷ ws) (suc n) l h = later_false (p w) (list_all p ws) (not-all p ws n (omega (arith, l)) h)

-- the run of last words begins here: they all give, and the word before, if there is one, does not
module _ where
  pub run-from-front : (ws : List Word) → list_all gives ws ≡ true → (before_givens ws ≡ []) × (last_givens ws ≡ ws)
  run-from-front [] h = (refl, refl)
  run-from-front (w ∷ ws) h = (rw h refl, rw h refl)

  pub run-from : (ws : List Word) (n : ℕ) → n < length ws → gives (get_or ws n []) ≡ false → list_all gives (drop (suc n) ws) ≡ true
      → (before_givens ws ≡ take (suc n) ws) × (last_givens ws ≡ drop (suc n) ws)
  run-from [] n l h k = absurd (omega (arith, l))
  run-from (w ∷ ws) zero l h k =
      let e = not-all gives (w ∷ ws) zero l h in
      let r = run-from-front ws k in
      (rw e (ap (λ xs. w ∷ xs) r.0), rw e r.1)
  run-from (w ∷ ws) (suc n) l h k =
      let e = not-all gives (w ∷ ws) (suc n) l h in
      let r = run-from ws n (omega (arith, l)) h k in
      (rw e (ap (λ xs. w ∷ xs) r.0), rw e r.1)

pub get-lent : (words : List (Bor Word)) (k : ℕ) (d : Bor Word) → k < length words → (get_or words k d).now ≡ get_or (lent_words words) k []
get-lent [] k d l = absurd (omega (arith, l))
get-lent (w ∷ ws) zero d l = refl
get-lent (w ∷ ws) (suc k) d l = get-lent ws k d (omega (arith, l))

less-one : (n : ℕ) → suc n - 1 ≡ n
less-one n = omega arith

-- the same, from the end of the loop: nothing stands before, or a word that does not give
pub run-at : (ws : List Word) (n : ℕ) → 0 < n → n ≤ length ws → gives (get_or ws (n - 1) []) ≡ false → list_all gives (drop n ws) ≡ true
    → (before_givens ws ≡ take n ws) × (last_givens ws ≡ drop n ws)
run-at ws zero some l h k = absurd (omega (arith, some))
run-at ws (suc n) some l h k = run-from ws n (omega (arith, l)) (ap (λ i. gives (get_or ws i [])) (sym (less-one n)) ∙ h) k

pub more-at : (ws : List Word) (n : ℕ) → 0 < n → n ≤ length ws → gives (get_or ws (n - 1) []) ≡ true → list_all gives (drop n ws) ≡ true → list_all gives (drop (n - 1) ws) ≡ true
more-at ws zero some l h k = absurd (omega (arith, some))
more-at ws (suc n) some l h k =
    subst (λ (i : ℕ). list_all gives (drop i ws) ≡ true) (sym (less-one n)) (all-before gives ws n (omega (arith, l)) (ap (λ i. gives (get_or ws i [])) (sym (less-one n)) ∙ h) k)

-- ---- splits

last-of : (givens places : List Word) (n : ℕ) → n < length places → last_apart givens (take (suc n) places) ≡ Some (record { sources = take n places; file = get_or places n []; givens = givens })
last-of givens [] n l = absurd (omega (arith, l))
last-of givens (w ∷ ws) zero l = refl
last-of givens (w ∷ []) (suc n) l = absurd (omega (arith, l))
last-of givens (w ∷ v ∷ vs) (suc n) l =
    ap (option_map {T = Split} {U = Split} (λ s. record { sources = w ∷ s.sources; file = s.file; givens = s.givens })) (last-of givens (v ∷ vs) n (omega (arith, l)))

not-less : (a b : ℕ) → b ≤ a → nat_lt a b ≡ false
not-less a b h = by (nat_lt a b) refl
  where
    by : (t : Bool) → nat_lt a b ≡ t → nat_lt a b ≡ false
    by true e = let less = ltb-true a b e in absurd (omega (arith, h, less))
    by false e = e

enough : (places : List Word) → 2 ≤ length places → split_of places ≡ last_apart (last_givens (drop 2 places)) (take 2 places ++ before_givens (drop 2 places))
enough places h = rw (not-less (length places) 2 h) refl

one-more : (n : ℕ) → n + 1 ≡ suc n
one-more n = omega arith

-- the file stands behind the first word and so many more
pub split-here : (places : List Word) (more : ℕ) → 2 + more ≤ length places → before_givens (drop 2 places) ≡ take more (drop 2 places) → last_givens (drop 2 places) ≡ drop more (drop 2 places)
    → split_of places ≡ Some (record { sources = take (more + 1) places; file = get_or places (more + 1) []; givens = drop (more + 1 + 1) places })
split-here [] more l f b = absurd (omega (arith, l))
split-here (v ∷ []) more l f b = absurd (omega (arith, l))
split-here (v ∷ w ∷ ws) more l f b =
    enough (v ∷ w ∷ ws) (omega (arith, l)) ∙ ap (λ xs. last_apart (last_givens ws) (v ∷ w ∷ xs)) f ∙ ap (λ g. last_apart g (v ∷ w ∷ take more ws)) b
    ∙ last-of (drop more ws) (v ∷ w ∷ ws) (suc more) (omega (arith, l))
    ∙ ap (λ n. Some (record { sources = take n (v ∷ w ∷ ws); file = get_or (v ∷ w ∷ ws) n []; givens = drop more ws })) (sym (one-more more))
    ∙ ap (λ n. Some (record { sources = take (more + 1) (v ∷ w ∷ ws); file = get_or (v ∷ w ∷ ws) (more + 1) []; givens = drop n (v ∷ w ∷ ws) })) (two-more more)
  where
    two-more : (n : ℕ) → suc (suc n) ≡ n + 1 + 1
    two-more n = omega arith

pub no-split : (places : List Word) → length places < 2 → split_of places ≡ None
no-split [] l = refl
no-split (w ∷ []) l = refl
no-split (w ∷ v ∷ vs) l = absurd (omega (arith, l))

-- the rule files of a check end behind the first word and so many more
pub check-here : (places : List Word) (more : ℕ) → 1 ≤ length places → before_givens (drop 1 places) ≡ take more (drop 1 places) → last_givens (drop 1 places) ≡ drop more (drop 1 places)
    → check_of places ≡ check_by (take (more + 1) places) (drop (more + 1) places)
check-here [] more l f b = absurd (omega (arith, l))
check-here (w ∷ ws) more l f b =
    ap (λ xs. check_by (w ∷ xs) (last_givens ws)) f ∙ ap (check_by (w ∷ take more ws)) b ∙ ap (λ n. check_by (take n (w ∷ ws)) (drop n (w ∷ ws))) (sym (one-more more))
