-- What is known to hold or not to hold, and the least number at which something fails.
use Rattle.std.proofs.Common.{◌≡◌, ℕ, zero, suc, ◌≤◌, ◌<◌, ◌==◌, ◌⊎◌, inl, inr, ⊎_elim, Bool, true, false, List, [], ◌∷◌, length, All, Option, Some, None, slice_get, Decides, refl, sym, subst, ◌∙◌, true≢false, arith}
use Rattle.std.specs.Str.{bytes_eq}
use Rattle.std.proofs.lemmas.Bool.{cases_lt}
use Rattle.std.proofs.lemmas.Bool.Decides.{Decides-eqb}
use Rattle.std.proofs.lemmas.Slice.Eq.{bytes_eq-Decides}
use Rattle.std.proofs.lemmas.List.Elements.{All-nil, All-cons, All-head, All-tail}
use Rattle.std.proofs.lemmas.Option.{slice_get_past}
use Rattle.yr_machine.specs.Names.{At}

-- it holds, or it does not
abbrev pub Known : Type 0 → Type 0
Known P = P ⊎ (P → ⊥)

pub known-test : {P : Type 0} (b : Bool) → Decides b P → Known P
known-test true d = inl (d.0 refl)
known-test false d = inr (λ p. true≢false (sym (d.1 p)))

pub known-true : (b : Bool) → Known (b ≡ true)
known-true b = known-test b (λ h. h, λ h. h)

pub known-equal : (a b : ℕ) → Known (a ≡ b)
known-equal a b = known-test (a == b) (Decides-eqb a b)

pub known-bytes : (a b : List ℕ) → Known (a ≡ b)
known-bytes a b = known-test (bytes_eq a b) (bytes_eq-Decides a b)

pub known-less : (a b : ℕ) → Known (a < b)
known-less a b = ⊎_elim (λ c. inl c) (λ c. inr (λ d. omega (arith, c, d))) (cases_lt a b)

pub known-most : (a b : ℕ) → Known (a ≤ b)
known-most a b = ⊎_elim (λ c. inr (λ d. omega (arith, c, d))) (λ c. inl c) (cases_lt b a)

module _ {P Q : Type 0} where
  pub known-like : (P → Q) → (Q → P) → Known P → Known Q
  known-like f g (inl p) = inl (f p)
  known-like f g (inr n) = inr (λ q. n (g q))

  pub known-and : Known P → Known Q → Known (P × Q)
  known-and (inl p) (inl q) = inl (p, q)
  known-and (inl p) (inr n) = inr (λ h. n h.1)
  known-and (inr n) k = inr (λ h. n h.0)

  pub known-if : Known P → Known Q → Known (P → Q)
  known-if (inl p) (inl q) = inl (λ h. q)
  known-if (inl p) (inr n) = inr (λ h. n (h p))
  known-if (inr n) k = inl (λ p. absurd (n p))

pub known-not : {P : Type 0} → Known P → Known (P → ⊥)
known-not (inl p) = inr (λ h. h p)
known-not (inr n) = inl n

-- ---- the least number at which something fails

abbrev pub Least : (ℕ → Type 0) → Type 0
Least P = (k : ℕ) × (P k → ⊥) × ((j : ℕ) → j < k → P j)

module _ (P : ℕ → Type 0) (known : (k : ℕ) → Known (P k)) where
  pub least-below : (n : ℕ) → ((k : ℕ) → k < n → P k) ⊎ Least P
  least-below zero = inl (λ k h. absurd (omega (arith, h)))
  least-below (suc n) = by (least-below n) (known n)
    where
      by : (((k : ℕ) → k < n → P k) ⊎ Least P) → Known (P n) → ((k : ℕ) → k < suc n → P k) ⊎ Least P
      by (inr l) k = inr l
      by (inl all) (inr fails) = inr (n, fails, all)
      by (inl all) (inl passes) = inl (λ k h. ⊎_elim (all k) (λ c. let e : n ≡ k = omega (arith, h, c) in subst P e passes) (cases_lt k n))

  pub least : (n : ℕ) → ((k : ℕ) → n ≤ k → P k) → ((k : ℕ) → P k) ⊎ Least P
  least n past = ⊎_elim (λ all. inl (λ k. ⊎_elim (all k) (past k) (cases_lt k n))) (λ l. inr l) (least-below n)

  pub known-every : (n : ℕ) → ((k : ℕ) → n ≤ k → P k) → Known ((k : ℕ) → P k)
  known-every n past = ⊎_elim (λ all. inl all) (λ l. inr (λ h. l.1 (h l.0))) (least n past)

-- ---- rows

module _ {A : Type 0} where
  some-is : (x y : A) → ◌≡◌ {A = Option A} (Some x) (Some y) → x ≡ y
  some-is x y h = cc

  none-is : (x : A) → ◌≡◌ {A = Option A} None (Some x) → ⊥
  none-is x h = cc

  pub at-past : (P : A → Type 0) (rows : List A) (k : ℕ) → length rows ≤ k → At P rows k
  at-past P rows k h row e = absurd (none-is row (sym (slice_get_past rows k h) ∙ e))

  pub known-at : (P : A → Type 0) → ((row : A) → Known (P row)) → (rows : List A) (k : ℕ) → Known (At P rows k)
  known-at P known rows k = by (slice_get rows k) refl
    where
      by : (o : Option A) → slice_get rows k ≡ o → Known (At P rows k)
      by None e = inl (λ row f. absurd (none-is row (sym e ∙ f)))
      by (Some row) e = known-like (λ p other f. subst P (some-is row other (sym e ∙ f)) p) (λ h. h row e) (known row)

  -- each row at its place
  pub known-each : (P : ℕ → A → Type 0) → ((k : ℕ) (row : A) → Known (P k row)) → (rows : List A) → Known ((k : ℕ) (row : A) → slice_get rows k ≡ Some row → P k row)
  known-each P known rows =
      known-every (λ k. At (P k) rows k) (λ k. known-at (P k) (known k) rows k) (length rows) (λ k h. at-past (P k) rows k h)

  pub known-all : (P : A → Type 0) → ((row : A) → Known (P row)) → (rows : List A) → Known (All P rows)
  known-all P known [] = inl (All-nil P)
  known-all P known (row ∷ rows) = known-like (λ h. All-cons P row rows h.0 h.1) (λ h. (All-head P row rows h, All-tail P row rows h)) (known-and (known row) (known-all P known rows))
