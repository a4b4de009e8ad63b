-- Which states lead to a state that accepts, found by trying: as many rounds as there are states are enough.
use Rattle.std.proofs.Common.{◌≡◌, ℕ, zero, suc, ◌+◌, ◌≤◌, ◌⊎◌, inl, inr, ⊎_elim, Bool, true, false, ◌&&◌, ◌||◌, List, [], ◌∷◌, length, refl, sym, ap, subst, ◌∙◌, true≢false, arith}
use Rattle.std.specs.List.{list_any}
use Rattle.std.proofs.lemmas.Bool.{cases_lt}

-- x is among the elements of a list
abbrev pub In : {X : Type 0} → List X → X → Type 0
In [] x = ⊥
In (y ∷ ys) x = (y ≡ x) ⊎ In ys x

-- how many elements pass a test
abbrev one_if : Bool → ℕ
one_if true = 1
one_if false = 0

abbrev count : {X : Type 0} → (X → Bool) → List X → ℕ
count p [] = 0
count p (x ∷ xs) = one_if (p x) + count p xs

or_left : (a b : Bool) → a ≡ true → (a || b) ≡ true
or_left true b h = refl
or_left false b h = absurd (true≢false (sym h))

or_right : (a b : Bool) → b ≡ true → (a || b) ≡ true
or_right true b h = refl
or_right false b h = h

or_cases : (a b : Bool) → (a || b) ≡ true → (a ≡ true) ⊎ (b ≡ true)
or_cases true b h = inl refl
or_cases false b h = inr h

and_both : (a b : Bool) → (a && b) ≡ true → (a ≡ true) × (b ≡ true)
and_both true b h = (refl, h)
and_both false b h = absurd (true≢false (sym h))

both_and : (a b : Bool) → a ≡ true → b ≡ true → (a && b) ≡ true
both_and true b h k = k
both_and false b h k = absurd (true≢false (sym h))

module _ {X : Type 0} where
  some-there : (p : X → Bool) (xs : List X) → list_any p xs ≡ true → (x : X) × In xs x × (p x ≡ true)
  some-there p [] h = absurd (true≢false (sym h))
  some-there p (y ∷ ys) h = ⊎_elim (λ e. (y, inl refl, e)) (λ e. later (some-there p ys e)) (or_cases (p y) (list_any p ys) h)
    where
      later : (x : X) × In ys x × (p x ≡ true) → (x : X) × In (y ∷ ys) x × (p x ≡ true)
      later s = (s.0, inr s.1, s.2)

  there-some : (p : X → Bool) (xs : List X) (x : X) → In xs x → p x ≡ true → list_any p xs ≡ true
  there-some p [] x h e = absurd h
  there-some p (y ∷ ys) x (inl same) e = or_left (p y) (list_any p ys) (ap p same ∙ e)
  there-some p (y ∷ ys) x (inr later) e = or_right (p y) (list_any p ys) (there-some p ys x later e)

  some-same : (p q : X → Bool) (xs : List X) → ((x : X) → In xs x → p x ≡ q x) → list_any p xs ≡ list_any q xs
  some-same p q [] h = refl
  some-same p q (y ∷ ys) h = ap (λ b. b || list_any p ys) (h y (inl refl)) ∙ ap (λ b. q y || b) (some-same p q ys (λ x i. h x (inr i)))

  count-few : (p : X → Bool) (xs : List X) → count p xs ≤ length xs
  count-few p [] = omega arith
  count-few p (y ∷ ys) = few (p y) (count-few p ys)
    where
      few : (b : Bool) → count p ys ≤ length ys → one_if b + count p ys ≤ suc (length ys)
      few true h = omega (arith, h)
      few false h = omega (arith, h)

  -- A test that passes whatever another one does passes the same elements of the list, or more of them.
  count-grows : (p q : X → Bool) → ((x : X) → p x ≡ true → q x ≡ true) → (xs : List X) → (((x : X) → In xs x → q x ≡ p x) ⊎ (count p xs + 1 ≤ count q xs)) × (count p xs ≤ count q xs)
  count-grows p q up [] = (inl (λ x h. absurd h), omega arith)
  count-grows p q up (y ∷ ys) = by-tests (p y) (q y) refl refl (count-grows p q up ys)
    where
      Same : List X → Type 0
      Same zs = (x : X) → In zs x → q x ≡ p x

      longer : (b : Bool) → p y ≡ b → q y ≡ b → Same ys → Same (y ∷ ys)
      longer b e f same x (inl here) = ap q (sym here) ∙ f ∙ sym e ∙ ap p here
      longer b e f same x (inr later) = same x later

      by-tests : (b c : Bool) → p y ≡ b → q y ≡ c → ((Same ys ⊎ (count p ys + 1 ≤ count q ys)) × (count p ys ≤ count q ys))
          → (Same (y ∷ ys) ⊎ (one_if (p y) + count p ys + 1 ≤ one_if (q y) + count q ys)) × (one_if (p y) + count p ys ≤ one_if (q y) + count q ys)
      by-tests true false e f h = absurd (true≢false (sym (up y e) ∙ f))
      by-tests true true e f h =
          let a = ap one_if e in
          let b = ap one_if f in
          (⊎_elim (λ same. inl (longer true e f same)) (λ more. inr (omega (arith, more, a, b))) h.0, omega (arith, h.1, a, b))
      by-tests false false e f h =
          let a = ap one_if e in
          let b = ap one_if f in
          (⊎_elim (λ same. inl (longer false e f same)) (λ more. inr (omega (arith, more, a, b))) h.0, omega (arith, h.1, a, b))
      by-tests false true e f h =
          let a = ap one_if e in
          let b = ap one_if f in
          (inr (omega (arith, h.1, a, b)), omega (arith, h.1, a, b))

-- from a state a step leads to others, some states accept, and these states are looked at
module _ {X : Type 0} (leads : X → X → Bool) (accepts : X → Bool) (states : List X) where
  -- some chain of at most so many steps leads from the state to one that accepts
  abbrev pub within : ℕ → X → Bool
  within zero s = accepts s
  within (suc t) s = within t s || list_any (λ s'. leads s s' && within t s') states

  within-step : (t : ℕ) (s : X) → within t s ≡ true → within (suc t) s ≡ true
  within-step t s h = or_left (within t s) (list_any (λ s'. leads s s' && within t s') states) h

  within-more : (n t : ℕ) (s : X) → t ≤ n → within t s ≡ true → within n s ≡ true
  within-more zero t s b h = let e : t ≡ 0 = omega (arith, b) in subst (λ (k : ℕ). within k s ≡ true) e h
  within-more (suc n) t s b h = ⊎_elim (λ c. within-step n s (within-more n t s (omega (arith, c)) h)) (λ c. let e : t ≡ suc n = omega (arith, b, c) in subst (λ (k : ℕ). within k s ≡ true) e h) (cases_lt t (suc n))

  -- one step more
  pub within-leads : (t : ℕ) (s s' : X) → In states s' → leads s s' ≡ true → within t s' ≡ true → within (suc t) s ≡ true
  within-leads t s s' there e h =
      or_right (within t s) (list_any (λ x. leads s x && within t x) states) (there-some (λ x. leads s x && within t x) states s' there (both_and (leads s s') (within t s') e h))

  -- the last round found nothing, or that many states at least are found
  abbrev Settled : ℕ → Type 0
  Settled t = (s : X) → In states s → within (suc t) s ≡ within t s

  settled-on : (t : ℕ) → Settled t → Settled (suc t)
  settled-on t h s there =
      ap (λ b. b || list_any (λ x. leads s x && within (suc t) x) states) (h s there)
      ∙ ap (λ b. within t s || b) (some-same (λ x. leads s x && within (suc t) x) (λ x. leads s x && within t x) states (λ x i. ap (λ b. leads s x && b) (h x i)))

  settled-or-many : (t : ℕ) → Settled t ⊎ (t + 1 ≤ count (within (suc t)) states)
  settled-or-many zero = first (count-grows (within zero) (within (suc zero)) (within-step zero) states).0
    where
      first : Settled zero ⊎ (count (within zero) states + 1 ≤ count (within (suc zero)) states) → Settled zero ⊎ (zero + 1 ≤ count (within (suc zero)) states)
      first (inl same) = inl same
      first (inr more) = inr (omega (arith, more))
  settled-or-many (suc t) = by (settled-or-many t) (count-grows (within (suc t)) (within (suc (suc t))) (within-step (suc t)) states).0
    where
      by : Settled t ⊎ (t + 1 ≤ count (within (suc t)) states) → Settled (suc t) ⊎ (count (within (suc t)) states + 1 ≤ count (within (suc (suc t))) states)
          → Settled (suc t) ⊎ (suc t + 1 ≤ count (within (suc (suc t))) states)
      by (inl same) more = inl (settled-on t same)
      by (inr many) (inl same) = inl same
      by (inr many) (inr more) = inr (omega (arith, many, more))

  settled : Settled (length states)
  settled = ⊎_elim (λ h. h) (λ many. absurd (omega (arith, many, count-few (within (suc (length states))) states))) (settled-or-many (length states))

  -- after as many rounds as there are states nothing more is found
  after-all : (k : ℕ) → length states ≤ k → (s : X) → In states s → within k s ≡ within (length states) s
  after-all zero b s there = let e : zero ≡ length states = omega (arith, b) in ap (λ (n : ℕ). within n s) e
  after-all (suc k) b s there =
      ⊎_elim (λ c. settled-at k (omega (arith, c)) (after-all k (omega (arith, c)))) (λ c. let e : suc k ≡ length states = omega (arith, b, c) in ap (λ (n : ℕ). within n s) e) (cases_lt (length states) (suc k))
    where
      settled-at : (k : ℕ) → length states ≤ k → ((x : X) → In states x → within k x ≡ within (length states) x) → within (suc k) s ≡ within (length states) s
      settled-at k b same =
          ap (λ c. c || list_any (λ x. leads s x && within k x) states) (same s there)
          ∙ ap (λ c. within (length states) s || c) (some-same (λ x. leads s x && within k x) (λ x. leads s x && within (length states) x) states (λ x i. ap (λ c. leads s x && c) (same x i)))
          ∙ settled s there

  -- what some number of rounds finds, as many as there are states find
  pub found-in-time : (k : ℕ) (s : X) → In states s → within k s ≡ true → within (length states) s ≡ true
  found-in-time k s there h =
      ⊎_elim (λ c. within-more (length states) k s (omega (arith, c)) h) (λ c. sym (after-all k c s there) ∙ h) (cases_lt k (length states))

  -- what is found is led to
  module _ (Leads : X → Type 0) (ends : (s : X) → accepts s ≡ true → Leads s) (steps : (s s' : X) → leads s s' ≡ true → Leads s' → Leads s) where
    pub found-leads : (k : ℕ) (s : X) → within k s ≡ true → Leads s
    found-leads zero s h = ends s h
    found-leads (suc k) s h = ⊎_elim (λ e. found-leads k s e) (λ e. by-step (some-there (λ x. leads s x && within k x) states e) (found-leads k)) (or_cases (within k s) (list_any (λ x. leads s x && within k x) states) h)
      where
        by-step : (x : X) × In states x × ((leads s x && within k x) ≡ true) → ((x : X) → within k x ≡ true → Leads x) → Leads s
        by-step f later = let b = and_both (leads s f.0) (within k f.0) f.2 in steps s f.0 b.0 (later f.0 b.1)
