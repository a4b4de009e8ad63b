-- Bytes: what is read is what the grammar has.
use Rattle.std.proofs.Common.{◌≡◌, ℕ, Bool, true, false, [], ◌∷◌, Option, Some, None, if◌then◌else◌, refl, sym, ap, subst, ◌∙◌}
use Rattle.std.specs.Prelude.{◌&&◌}
use Rattle.yr_hex.specs.Gaps.{Text}
use Rattle.yr_hex.specs.Items.{Byte}
use Rattle.yr_hex.specs.Grammar.{half, ReadsItem, byte, other}
use Rattle.yr_hex.specs.Meaning.{class_of}
use Rattle.yr_hex.specs.Reading.{Outcome, and_then, with_rest, sees, after, read_half, read_halves, read_byte, is_any}
use Rattle.yr_hex.proofs.StepLemmas.{if_false, then-some}
use Rattle.yr_hex.proofs.OutcomeLemmas.{bind-some, some_is, unless, after-true, after-false, sees-other}

-- a byte that stands for half of a byte is no sign
pub half-is_no : (h sign : ℕ) (high : Option ℕ) → half h ≡ Some high → half sign ≡ None → h ≡ sign → ⊥
half-is_no h sign high e f s = let g = ap (λ (x : ℕ). half x) s in cc

half-read : (h : ℕ) (t : Text) (d : Option ℕ) → half h ≡ Some d → read_half (h ∷ t) ≡ Some (d, t)
unfolding read_half
half-read h t d e = ap (λ (o : Option (Option ℕ)). with_rest o t) e

module _ (negated : Bool) (h l : ℕ) (rest : Text) (high low : Option ℕ) (e : half h ≡ Some high) (f : half l ≡ Some low) where
  abbrev after_low : Option ℕ → Text → Outcome (ℕ → Bool)
  after_low d v = if negated && (is_any high && is_any d) then None else Some (class_of negated high d, v)

  abbrev after_high : Option ℕ → Text → Outcome (ℕ → Bool)
  after_high d u = and_then (read_half u) (λ low' v. if negated && (is_any d && is_any low') then None else Some (class_of negated d low', v))

  pub halves-read : (negated && (is_any high && is_any low)) ≡ false → read_halves negated (h ∷ l ∷ rest) ≡ Some (class_of negated high low, rest)
  unfolding read_halves
  halves-read good =
      then-some (read_half (h ∷ l ∷ rest)) after_high (high, l ∷ rest) (half-read h (l ∷ rest) high e)
      ∙ then-some (read_half (l ∷ rest)) after_low (low, rest) (half-read l rest low f)
      ∙ if_false (negated && (is_any high && is_any low)) None (Some (class_of negated high low, rest)) good

pub byte-read : (h l : ℕ) (rest : Text) (high low : Option ℕ) → half h ≡ Some high → half l ≡ Some low → read_byte (h ∷ l ∷ rest) ≡ Some (class_of false high low, rest)
unfolding read_byte
byte-read h l rest high low e f =
    let no : sees 126 (h ∷ l ∷ rest) ≡ false = sees-other 126 h (l ∷ rest) (half-is_no h 126 high e refl) in
    ap (λ (b : Bool). read_halves b (after 126 (h ∷ l ∷ rest))) no ∙ ap (λ (t : Text). read_halves false t) (after-false 126 (h ∷ l ∷ rest) no)
    ∙ halves-read false h l rest high low e f refl

not_both : (high low : Option ℕ) → ¬ ((high ≡ None) × (low ≡ None)) → (is_any high && is_any low) ≡ false
not_both None None n = absurd (n (refl, refl))
not_both None (Some d) n = refl
not_both (Some d) low n = refl

pub other-read : (h l : ℕ) (rest : Text) (high low : Option ℕ) → half h ≡ Some high → half l ≡ Some low → ¬ ((high ≡ None) × (low ≡ None))
    → read_byte (126 ∷ h ∷ l ∷ rest) ≡ Some (class_of true high low, rest)
unfolding read_byte sees after
other-read h l rest high low e f n = halves-read true h l rest high low e f (not_both high low n)

-- ---- what is read the grammar has

half-found : (t : Text) (x : Option ℕ × Text) → read_half t ≡ Some x → (h : ℕ) × (t ≡ h ∷ x.1) × (half h ≡ Some x.0)
unfolding read_half
half-found [] x e = absurd cc
half-found (h ∷ t) x e = go (half h) refl e
  where
    go : (o : Option (Option ℕ)) → half h ≡ o → with_rest o t ≡ Some x → (g : ℕ) × (h ∷ t ≡ g ∷ x.1) × (half g ≡ Some x.0)
    go None k e' = absurd cc
    go (Some d) k e' =
        let s = some_is (d, t) x e' in
        (h, ap (λ (y : Option ℕ × Text). h ∷ y.1) s, k ∙ ap (λ (y : Option ℕ × Text). Some y.0) s)

-- two halves in front
abbrev HalvesFound : Bool → Text → (ℕ → Bool) × Text → Type 0
HalvesFound negated t x = (h : ℕ) × (l : ℕ) × (high : Option ℕ) × (low : Option ℕ) × (half h ≡ Some high) × (half l ≡ Some low) × (t ≡ h ∷ l ∷ x.1)
    × ((negated && (is_any high && is_any low)) ≡ false) × (x.0 ≡ class_of negated high low)

halves-found : (negated : Bool) (t : Text) (x : (ℕ → Bool) × Text) → read_halves negated t ≡ Some x → HalvesFound negated t x
unfolding read_halves
halves-found negated t x e =
    let a = bind-some (read_half t) (λ high u. and_then (read_half u) (λ low v. if negated && (is_any high && is_any low) then None else Some (class_of negated high low, v))) x e in
    let b = bind-some (read_half a.0.1) (λ low v. if negated && (is_any a.0.0 && is_any low) then None else Some (class_of negated a.0.0 low, v)) x a.2 in
    let c = unless (negated && (is_any a.0.0 && is_any b.0.0)) (Some (class_of negated a.0.0 b.0.0, b.0.1)) x b.2 in
    let s = some_is (class_of negated a.0.0 b.0.0, b.0.1) x c.1 in
    let h = half-found t a.0 a.1 in
    let l = half-found a.0.1 b.0 b.1 in (
      h.0,
      l.0,
      a.0.0,
      b.0.0,
      h.2,
      l.2,
      h.1 ∙ ap (λ (u : Text). h.0 ∷ u) l.1 ∙ ap (λ (y : (ℕ → Bool) × Text). h.0 ∷ l.0 ∷ y.1) s,
      c.0,
      sym (ap (λ (y : (ℕ → Bool) × Text). y.0) s),
    )

-- a byte in front
abbrev pub ByteFound : ℕ → Text → (ℕ → Bool) × Text → Type 0
ByteFound n t x = (negated : Bool) × (high : Option ℕ) × (low : Option ℕ) × ReadsItem n t (Byte negated high low) x.1 × (x.0 ≡ class_of negated high low)

both_any : (high low : Option ℕ) → (is_any high && is_any low) ≡ false → ¬ ((high ≡ None) × (low ≡ None))
both_any None None h e = absurd cc
both_any None (Some d) h e = let f = e.1 in absurd cc
both_any (Some d) low h e = let f = e.0 in absurd cc

pub byte-found : (n : ℕ) (t : Text) (x : (ℕ → Bool) × Text) → read_byte t ≡ Some x → ByteFound n t x
unfolding read_byte
byte-found n t x e = go (sees 126 t) refl e
  where
    go : (b : Bool) → sees 126 t ≡ b → read_halves b (after 126 t) ≡ Some x → ByteFound n t x
    go true k e' =
        let f = halves-found true (after 126 t) x e' in
        let whole : t ≡ 126 ∷ f.0 ∷ f.1 ∷ x.1 = after-true 126 t k ∙ ap (λ (u : Text). 126 ∷ u) f.6 in
        (true, f.2, f.3, subst (λ (u : Text). ReadsItem n u (Byte true f.2 f.3) x.1) (sym whole) (other f.4 f.5 (both_any f.2 f.3 f.7)), f.8)
    go false k e' =
        let f = halves-found false (after 126 t) x e' in
        let whole : t ≡ f.0 ∷ f.1 ∷ x.1 = sym (after-false 126 t k) ∙ f.6 in
        (false, f.2, f.3, subst (λ (u : Text). ReadsItem n u (Byte false f.2 f.3) x.1) (sym whole) (byte f.4 f.5), f.8)
