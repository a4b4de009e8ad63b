-- Numbers of names, one after another.
use Rattle.std.proofs.Common.{◌≡◌, ℕ, zero, suc, ◌+◌, ◌*◌, ◌<◌, ◌≤◌, Bool, true, false, List, [], ◌∷◌, ◌++◌, length, map, take, get_or, refl, sym, ap, ◌∙◌, arith}
use Rattle.std.specs.Prelude.{if◌then◌else◌}
use Rattle.std.specs.List.{range_with_len}
use Rattle.std.proofs.lemmas.List.{take_all, take_more, map-append, length-map}
use Rattle.yr_name_tables.specs.Names.{Name, is_meant, numbers_meant}
use Rattle.yr_syntax.specs.Condition.{ItemTree}
use Rattle.yr_rules.specs.NodeTree.{Strings, Rules}
use Rattle.yr_rules.specs.Weight.{set_weight}
use Rattle.yr_conditions.specs.UseViews.{earlier_rules}
use Rattle.yr_conditions.specs.Nodes.{rules_meant}

pub range-last : (a n : ℕ) → range_with_len a (n + 1) ≡ range_with_len a n ++ (a + n) ∷ []
range-last a n = let same : n + 1 ≡ suc n = omega arith in ap (range_with_len a) same ∙ more a n
  where
    more : (b k : ℕ) → range_with_len b (suc k) ≡ range_with_len b k ++ (b + k) ∷ []
    more b zero = let same : b ≡ b + zero = omega arith in ap (λ m. m ∷ []) same
    more b (suc k) = let same : b + 1 + k ≡ b + suc k = omega arith in ap (λ l. b ∷ l) (more (b + 1) k ∙ ap (λ m. range_with_len (b + 1) k ++ m ∷ []) same)

-- one more element behind a function
pub map-step : (f : ℕ → ℕ) (xs met new : List ℕ) (i x y : ℕ) → i < length xs → x ≡ get_or xs i x → y ≡ f x → new ≡ met ++ y ∷ [] → met ≡ map f (take i xs) → new ≡ map f (take (i + 1) xs)
map-step f xs met new i x y h is t e m =
    e ∙ ap (λ l. l ++ y ∷ []) m
    ∙ ap (λ z. map f (take i xs) ++ z ∷ []) (t ∙ ap f is)
    ∙ sym (map-append f (take i xs) (get_or xs i x ∷ []))
    ∙ ap (map f) (sym (take_more xs i x h))

-- numbers from another one on
pub numbers-shifted : (items : List ItemTree) (k j : ℕ) (ns : List Name) → map (λ p. k + p) (numbers_meant items j ns) ≡ numbers_meant items (k + j) ns
numbers-shifted items k j [] = refl
numbers-shifted items k j (n ∷ ns) =
    let same : k + (j + 1) ≡ k + j + 1 = omega arith in
    by (is_meant items n) (numbers-shifted items k (j + 1) ns ∙ ap (λ m. numbers_meant items m ns) same)
  where
    by : (b : Bool) → map (λ p. k + p) (numbers_meant items (j + 1) ns) ≡ numbers_meant items (k + j + 1) ns
        → map (λ p. k + p) (if b then j ∷ numbers_meant items (j + 1) ns else numbers_meant items (j + 1) ns)
        ≡ (if b then (k + j) ∷ numbers_meant items (k + j + 1) ns else numbers_meant items (k + j + 1) ns)
    by true e = ap (λ l. (k + j) ∷ l) e
    by false e = e

-- the numbers of rules, by their places
pub rules-placed : (items : List ItemTree) (f : ℕ → ℕ) (j : ℕ) (ns : List Name) (ks : List ℕ) → length ks ≡ length ns → ((i : ℕ) → i < length ks → f (j + i) ≡ get_or ks i 0)
    → map f (numbers_meant items j ns) ≡ rules_meant items (earlier_rules ns ks)
rules-placed items f j [] ks l same = refl
rules-placed items f j (n ∷ ns) [] l same = absurd (omega arith)
rules-placed items f j (n ∷ ns) (k ∷ ks) l same =
    let none : j ≡ j + 0 = omega arith in let here : f j ≡ k = ap f none ∙ same 0 (omega arith) in
    by (is_meant items n) here
    (rules-placed items f (j + 1) ns ks (omega arith) (λ i h. let more : j + 1 + i ≡ j + suc i = omega arith in ap f more ∙ same (suc i) (omega (arith, h))))
  where
    by : (b : Bool) → f j ≡ k → map f (numbers_meant items (j + 1) ns) ≡ rules_meant items (earlier_rules ns ks)
        → map f (if b then j ∷ numbers_meant items (j + 1) ns else numbers_meant items (j + 1) ns)
        ≡ (if b then k ∷ rules_meant items (earlier_rules ns ks) else rules_meant items (earlier_rules ns ks))
    by true h e = ap (λ m. m ∷ map f (numbers_meant items (j + 1) ns)) h ∙ ap (λ l. k ∷ l) e
    by false h e = e

pub rules-at : (items : List ItemTree) (ns : List Name) (ks : List ℕ) → length ks ≡ length ns → map (λ p. get_or ks p 0) (numbers_meant items 0 ns) ≡ rules_meant items (earlier_rules ns ks)
rules-at items ns ks l = rules-placed items (λ p. get_or ks p 0) 0 ns ks l (λ i h. let same : 0 + i ≡ i = omega arith in ap (λ m. get_or ks m 0) same)

-- what a walk over all numbers gives
pub numbers-end : (items : List ItemTree) (first i : ℕ) (all : List Name) (met xs ys : List ℕ) → length ys ≤ i → ys ≡ xs → xs ≡ numbers_meant items 0 all
    → met ≡ map (λ p. first + p) (take i ys) → met ≡ numbers_meant items first all
numbers-end items first i all met xs ys over same is m =
    let none : first + 0 ≡ first = omega arith in
    m ∙ ap (map (λ p. first + p)) (take_all i ys over ∙ same ∙ is) ∙ numbers-shifted items first 0 all ∙ ap (λ k. numbers_meant items k all) none

pub rules-end : (items : List ItemTree) (i : ℕ) (ns : List Name) (ks met xs ys : List ℕ) → length ks ≡ length ns → length ys ≤ i → ys ≡ xs → xs ≡ numbers_meant items 0 ns
    → met ≡ map (λ p. get_or ks p 0) (take i ys) → met ≡ rules_meant items (earlier_rules ns ks)
rules-end items i ns ks met xs ys l over same is m = m ∙ ap (map (λ p. get_or ks p 0)) (take_all i ys over ∙ same ∙ is) ∙ rules-at items ns ks l

range-counted : (a n : ℕ) → length (range_with_len a n) ≡ n
range-counted a zero = refl
range-counted a (suc n) = ap (λ l. suc l) (range-counted (a + 1) n)

pub them_weigh : (a n c : ℕ) → c ≡ n → 16 * c ≡ set_weight (Strings (range_with_len a n))
them_weigh a n c e = ap (λ m. 16 * m) (e ∙ sym (range-counted a n))

pub strings_weigh : (items : List ItemTree) (a : ℕ) (ns : List Name) (c : ℕ) → c ≡ length (numbers_meant items 0 ns) → 16 * c ≡ set_weight (Strings (numbers_meant items a ns))
strings_weigh items a ns c e =
    let same : a + 0 ≡ a = omega arith in
    ap (λ m. 16 * m)
    (e ∙ sym (length-map (numbers_meant items 0 ns) (λ p. a + p)) ∙ ap length (numbers-shifted items a 0 ns) ∙ ap (λ m. length (numbers_meant items m ns)) same)

pub rules_weigh : (items : List ItemTree) (ns : List Name) (ks : List ℕ) (c : ℕ) → length ks ≡ length ns → c ≡ length (numbers_meant items 0 ns)
    → 16 * c ≡ set_weight (Rules (rules_meant items (earlier_rules ns ks)))
rules_weigh items ns ks c h e = ap (λ m. 16 * m) (e ∙ sym (length-map (numbers_meant items 0 ns) (λ p. get_or ks p 0)) ∙ ap length (rules-at items ns ks h))
