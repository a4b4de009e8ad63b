-- Units up to a closing quote.
use Rattle.std.proofs.Common.{◌≡◌, ◌≢◌, ℕ, Bool, true, false, [], ◌∷◌, ◌++◌, Option, Some, None, if◌then◌else◌, refl, sym, ap, subst, ◌∙◌}
use Rattle.std.specs.Prelude.{◌==◌}
use Rattle.std.proofs.lemmas.Bool.{ne_eqb, eqb-true, eqb-false, eq-eqb}
use Rattle.yr_lexer.specs.Gaps.{Text}
use Rattle.yr_lexer.specs.Texts.{AreUnits, no_unit, plain_unit, escaped_unit}
use Rattle.yr_lexer.specs.Reading.{past_units}
use Rattle.yr_lexer.proofs.Basics.{by_test}

-- the text has units, the quote and this rest
abbrev pub HasUnits : ℕ → Text → Text → Type 0
HasUnits q t rest = (inside : Text) × (t ≡ inside ++ q ∷ rest) × AreUnits q inside

abbrev Found : ℕ → Text → Option Text → Type 0
Found q t None = Unit {0}
Found q t (Some rest) = HasUnits q t rest

module _ (q : ℕ) (feed : (q == 10) ≡ false) (slash : (92 == q) ≡ false) where
  pub units-read : {inside : Text} → AreUnits q inside → (rest : Text) → past_units q false (inside ++ q ∷ rest) ≡ Some rest
  unfolding past_units
  units-read no_unit rest = rw (feed, eq-eqb q q refl) refl
  units-read (plain_unit {b = b} n10 nq n92 u) rest = rw (ne_eqb b 10 n10, ne_eqb b q nq, ne_eqb b 92 n92) (units-read u rest)
  units-read (escaped_unit {b = b} n10 u) rest = rw (slash, ne_eqb b 10 n10) (units-read u rest)

  found-plain : (b : ℕ) (t : Text) (o : Option Text) → b ≢ 10 → b ≢ q → b ≢ 92 → Found q t o → Found q (b ∷ t) o
  found-plain b t None n10 nq n92 h = tt
  found-plain b t (Some x) n10 nq n92 h = (b ∷ h.0, ap (λ (l : Text). b ∷ l) h.1, plain_unit n10 nq n92 h.2)

  found-escaped : (b : ℕ) (t : Text) (o : Option Text) → b ≢ 10 → Found q t o → Found q (92 ∷ b ∷ t) o
  found-escaped b t None n10 h = tt
  found-escaped b t (Some x) n10 h = (92 ∷ b ∷ h.0, ap (λ (l : Text). 92 ∷ b ∷ l) h.1, escaped_unit n10 h.2)

  found-quote : (b : ℕ) (t : Text) → b ≡ q → Found q (b ∷ t) (Some t)
  found-quote b t e = ([], ap (λ (x : ℕ). x ∷ t) e, no_unit)

  -- after the tests for a line feed and a quote
  found-next : (b c : ℕ) (t : Text) → b ≢ 10 → b ≢ q → Found q (c ∷ t) (past_units q false (c ∷ t)) → Found q t (past_units q false t)
      → (y : Bool) → (b == 92) ≡ y → Found q (b ∷ c ∷ t) (past_units q y (c ∷ t))
  unfolding past_units
  found-next b c t n10 nq h h' false e = found-plain b (c ∷ t) (past_units q false (c ∷ t)) n10 nq (eqb-false b 92 e) h
  found-next b c t n10 nq h h' true e =
      let is : b ≡ 92 = eqb-true b 92 e in
      subst (λ (x : ℕ). Found q (x ∷ c ∷ t) (past_units q true (c ∷ t))) (sym is)
      (by_test (c == 10) None (past_units q false t) (Found q (92 ∷ c ∷ t)) (λ f. tt)
      (λ f. found-escaped c t (past_units q false t) (eqb-false c 10 f) h'))

  last-none : (b : ℕ) (y : Bool) → Found q (b ∷ []) (past_units q y [])
  unfolding past_units
  last-none b true = tt
  last-none b false = tt

  pub units-found : (t : Text) → Found q t (past_units q false t)
  unfolding past_units
  units-found [] = tt
  units-found (b ∷ []) =
      by_test (b == 10) None (if b == q then Some [] else past_units q (b == 92) []) (Found q (b ∷ [])) (λ e. tt)
      (λ n10. by_test (b == q) (Some []) (past_units q (b == 92) []) (Found q (b ∷ [])) (λ e. found-quote b [] (eqb-true b q e)) (λ nq. last-none b (b == 92)))
  units-found (b ∷ c ∷ t) =
      by_test (b == 10) None (if b == q then Some (c ∷ t) else past_units q (b == 92) (c ∷ t)) (Found q (b ∷ c ∷ t)) (λ e. tt)
      (λ n10. by_test (b == q) (Some (c ∷ t)) (past_units q (b == 92) (c ∷ t)) (Found q (b ∷ c ∷ t)) (λ e. found-quote b (c ∷ t) (eqb-true b q e))
      (λ nq. found-next b c t (eqb-false b 10 n10) (eqb-false b q nq) (units-found (c ∷ t)) (units-found t) (b == 92) refl))

  pub units-some : (t rest : Text) → past_units q false t ≡ Some rest → HasUnits q t rest
  units-some t rest e = subst (Found q t) e (units-found t)

  -- the units end at one place
  pub units-one : (t r s : Text) → HasUnits q t r → HasUnits q t s → r ≡ s
  units-one t r s h k =
      let e = ap (λ (x : Text). past_units q false x) h.1 ∙ units-read h.2 r in
      let f = ap (λ (x : Text). past_units q false x) k.1 ∙ units-read k.2 s in
      cc

  pub units-none : (t : Text) → past_units q false t ≡ None → (rest : Text) → ¬ HasUnits q t rest
  units-none t e rest h = let f = ap (λ (x : Text). past_units q false x) h.1 ∙ units-read h.2 rest in cc

  pub units-read_at : (t rest : Text) → HasUnits q t rest → past_units q false t ≡ Some rest
  units-read_at t rest h = ap (λ (x : Text). past_units q false x) h.1 ∙ units-read h.2 rest
