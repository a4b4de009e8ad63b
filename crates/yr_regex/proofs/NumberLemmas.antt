-- Numbers and quantifiers: what is read is what the grammar has.
use Rattle.std.proofs.Common.{◌≡◌, ℕ, ◌+◌, ◌-◌, ◌*◌, ◌<◌, ◌≤◌, ⊎_elim, Bool, true, false, [], ◌∷◌, length, Option, Some, None, if◌then◌else◌, refl, sym, ap, subst, ◌∙◌, arith}
use Rattle.std.specs.Prelude.{◌==◌, nat_le}
use Rattle.std.proofs.lemmas.Bool.{leb-true, and_parts, eqb-true, ne_eqb}
use Rattle.yr_base.specs.Bytes.{is_digit}
use Rattle.yr_regex.specs.declared.bounds.Bounds.{Bounds}
use Rattle.yr_regex.specs.Escapes.{Text}
use Rattle.yr_regex.specs.Quantifiers.{begins_digit, Digits, end, digit, Number, number, ReadsQuantifier, star, plus, maybe, exactly, from, up_to, between}
use Rattle.yr_regex.specs.Reading.{and_then, sees, after, expect, tail, bounds, read_close, past_digits, read_number, read_most, read_last, read_next, read_braced, read_quantifier, same}
use Rattle.yr_regex.proofs.Basics.{bool_cases}
use Rattle.yr_regex.proofs.StepLemmas.{if_true, if_false, then-some}
use Rattle.yr_regex.proofs.OutcomeLemmas.{bind-some, some_is, chosen, guarded, sees-true, after-true, after-false}

-- ---- numbers

digits-found : (t : Text) (n : ℕ) → (v : ℕ) × (rest : Text) × Digits n t v rest
digits-found [] n = (n, [], end refl)
digits-found (b ∷ t) n = bool_cases ((v : ℕ) × (rest : Text) × Digits n (b ∷ t) v rest) (is_digit b)
    (λ h. let d = digits-found t (10 * n + (b - 48)) in (d.0, d.1, digit h d.2))
    (λ h. (n, b ∷ t, end h))

pub digit-small : (b : ℕ) → is_digit b ≡ true → (48 ≤ b) × (b ≤ 57)
digit-small b h =
    let p = and_parts (nat_le 48 b) (nat_le b 57) h in (leb-true 48 b p.0, leb-true b 57 p.1)

no_digits : (n : ℕ) (t : Text) → begins_digit t ≡ false → ◌≡◌ {A = ℕ × Text} (past_digits same n t) (n, t)
unfolding past_digits
no_digits n [] h = refl
no_digits n (b ∷ t) h = if_false (is_digit b) _ _ h

digits-read : {n v : ℕ} {t rest : Text} → Digits n t v rest → ◌≡◌ {A = ℕ × Text} (past_digits same n t) (v, rest)
unfolding past_digits
digits-read (end {n = n} {t = t} h) = no_digits n t h
digits-read (digit {n = n} {b = b} {t = t} h d) = if_true (is_digit b) _ _ h ∙ digits-read d

number-read : {v : ℕ} {t rest : Text} → Number t v rest → read_number same t ≡ Some (v, rest)
unfolding read_number
number-read (number {b = b} {t = t} h d) = if_true (is_digit b) _ _ h ∙ ap (λ (x : ℕ × Text). Some x) (digits-read d)

number-is : (t rest : Text) (v : ℕ) (x : ℕ × Text) → Number t v rest → read_number same t ≡ Some x → Number t x.0 x.1
number-is t rest v x d e =
    let s : ◌≡◌ {A = ℕ × Text} (v, rest) x = some_is (v, rest) x (sym (number-read d) ∙ e) in
    subst (λ (y : ℕ × Text). Number t y.0 y.1) s d

number-found : (t : Text) (x : ℕ × Text) → read_number same t ≡ Some x → Number t x.0 x.1
unfolding read_number
number-found [] x e = absurd cc
number-found (b ∷ t) x e =
    let h = guarded (is_digit b) (Some (past_digits same (b - 48) t)) x e in
    let d = digits-found t (b - 48) in
    number-is (b ∷ t) d.1 d.0 x (number h.0 d.2) e

number-begins : {v : ℕ} {t rest : Text} → Number t v rest → (sees 44 t ≡ false) × (sees 125 t ≡ false)
unfolding sees
number-begins (number {b = b} h d) =
    let s = digit-small b h in let p : 48 ≤ b = s.0 in let q : b ≤ 57 = s.1 in
    (ne_eqb b 44 (λ e. omega arith), ne_eqb b 125 (λ e. omega arith))

-- ---- a quantifier is read

most-read : {m : ℕ} {t rest : Text} (least : ℕ) → Number t m (125 ∷ rest) → read_most same least t ≡ Some (bounds least (Some m) false, rest)
unfolding read_most read_close expect sees
most-read {m = m} {t = t} {rest = rest} least d = then-some (read_number same t) (λ most u. read_close (bounds least (Some most) false) u) (m, 125 ∷ rest) (number-read d)

last-number : {m : ℕ} {t rest : Text} (least : ℕ) → Number t m (125 ∷ rest) → read_last same least t ≡ Some (bounds least (Some m) false, rest)
unfolding read_last
last-number {t = t} least d =
    let b = number-begins d in
    if_false (sees 125 t) _ _ b.1 ∙ ap (λ (u : Text). read_most same least u) (after-false 125 t b.1) ∙ most-read least d

braced-number : {n : ℕ} {t u : Text} → Number t n u → read_braced same t ≡ read_next same n u
unfolding read_braced
braced-number {n = n} {t = t} {u = u} d =
    let b = number-begins d in
    if_false (sees 44 t) _ _ b.0 ∙ ap (λ (x : Text). and_then (read_number same x) (read_next same)) (after-false 44 t b.0)
    ∙ then-some (read_number same t) (read_next same) (n, u) (number-read d)

pub quantifier-complete : {least : ℕ} {most : Option ℕ} {exact : Bool} {t rest : Text} → ReadsQuantifier t least most exact rest
    → read_quantifier same t ≡ Some (bounds least most exact, rest)
unfolding read_quantifier read_next read_last read_close read_braced expect sees after
quantifier-complete star = refl
quantifier-complete plus = refl
quantifier-complete maybe = refl
quantifier-complete (exactly d) = braced-number d
quantifier-complete (from d) = braced-number d
quantifier-complete (up_to d) = most-read 0 d
quantifier-complete (between {n = n} d e) = braced-number d ∙ last-number n e

-- ---- what is read is a quantifier

abbrev QuantifierFound : Text → Bounds × Text → Type 0
QuantifierFound t x = ReadsQuantifier t x.0.least x.0.most x.0.exact x.1

close-found : (b : Bounds) (t : Text) (x : Bounds × Text) → read_close b t ≡ Some x → (t ≡ 125 ∷ x.1) × (b ≡ x.0)
unfolding read_close expect
close-found b t x e =
    let a = bind-some (if sees 125 t then Some (tt, tail t) else None) (λ _ u. Some (b, u)) x e in
    let g = guarded (sees 125 t) (Some (tt, tail t)) a.0 a.1 in
    let s = some_is (b, a.0.1) x a.2 in
    (sees-true 125 t g.0 ∙ ap (λ (y : Unit {0} × Text). 125 ∷ y.1) (some_is (tt, tail t) a.0 g.1) ∙ ap (λ (y : Bounds × Text). 125 ∷ y.1) s, ap (λ (y : Bounds × Text). y.0) s)

-- a last number and its `}`
most-found : (least : ℕ) (t : Text) (x : Bounds × Text) → read_most same least t ≡ Some x → (m : ℕ) × Number t m (125 ∷ x.1) × (bounds least (Some m) false ≡ x.0)
unfolding read_most
most-found least t x e =
    let a = bind-some (read_number same t) (λ most u. read_close (bounds least (Some most) false) u) x e in
    let c = close-found (bounds least (Some a.0.0) false) a.0.1 x a.2 in
    (a.0.0, subst (λ (y : Text). Number t a.0.0 y) c.0 (number-found t a.0 a.1), c.1)

module _ (t : Text) where
  abbrev Braced : Bounds × Text → Type 0
  Braced x = ReadsQuantifier (123 ∷ t) x.0.least x.0.most x.0.exact x.1

  same_braced : (b : Bounds) (x : Bounds × Text) → b ≡ x.0 → ReadsQuantifier (123 ∷ t) b.least b.most b.exact x.1 → Braced x
  same_braced b x e r = subst (λ (y : Bounds). ReadsQuantifier (123 ∷ t) y.least y.most y.exact x.1) e r

  last-found : (n : ℕ) (u : Text) → Number t n (44 ∷ u) → (x : Bounds × Text) → read_last same n u ≡ Some x → Braced x
  unfolding read_last
  last-found n u d x e = ⊎_elim
      (λ c. let s = some_is (bounds n None false, after 125 u) x c.1 in
      let k : u ≡ 125 ∷ x.1 = after-true 125 u c.0 ∙ ap (λ (y : Bounds × Text). 125 ∷ y.1) s in
      same_braced (bounds n None false) x (ap (λ (y : Bounds × Text). y.0) s) (from (subst (λ (y : Text). Number t n (44 ∷ y)) k d)))
      (λ c. let m = most-found n u x (ap (λ (y : Text). read_most same n y) (sym (after-false 125 u c.0)) ∙ c.1) in
      same_braced (bounds n (Some m.0) false) x m.2 (between d m.1))
      (chosen (sees 125 u) (Some (bounds n None false, after 125 u)) (read_most same n (after 125 u)) (Some x) e)

  next-found : (n : ℕ) (u : Text) → Number t n u → (x : Bounds × Text) → read_next same n u ≡ Some x → Braced x
  unfolding read_next
  next-found n u d x e = ⊎_elim
      (λ c. last-found n (after 44 u) (subst (λ (y : Text). Number t n y) (after-true 44 u c.0) d) x c.1)
      (λ c. let k = close-found (bounds n (Some n) true) (after 44 u) x c.1 in
      same_braced (bounds n (Some n) true) x k.1 (exactly (subst (λ (y : Text). Number t n y) (sym (after-false 44 u c.0) ∙ k.0) d)))
      (chosen (sees 44 u) (read_last same n (after 44 u)) (read_close (bounds n (Some n) true) (after 44 u)) (Some x) e)

  up_to-found : sees 44 t ≡ true → (x : Bounds × Text) → read_most same 0 (after 44 t) ≡ Some x → Braced x
  up_to-found h x e =
      let m = most-found 0 (after 44 t) x e in
      same_braced (bounds 0 (Some m.0) false) x m.2 (subst (λ (y : Text). ReadsQuantifier (123 ∷ y) 0 (Some m.0) false x.1) (sym (after-true 44 t h)) (up_to m.1))

  braced-found : (x : Bounds × Text) → read_braced same t ≡ Some x → Braced x
  unfolding read_braced
  braced-found x e = ⊎_elim
      (λ c. up_to-found c.0 x c.1)
      (λ c. let a = bind-some (read_number same t) (read_next same) x (ap (λ (y : Text). and_then (read_number same y) (read_next same)) (sym (after-false 44 t c.0)) ∙ c.1) in
      next-found a.0.0 a.0.1 (number-found t a.0 a.1) x a.2)
      (chosen (sees 44 t) (read_most same 0 (after 44 t)) (and_then (read_number same (after 44 t)) (read_next same)) (Some x) e)

-- a quantifier of one sign
sign-found : (b : ℕ) (t : Text) (sign : ℕ) (q : Bounds) (x : Bounds × Text) → (b == sign) ≡ true → ◌≡◌ {A = Option (Bounds × Text)} (Some (q, t)) (Some x)
    → ReadsQuantifier (sign ∷ t) q.least q.most q.exact t → QuantifierFound (b ∷ t) x
sign-found b t sign q x h e r =
    subst (λ (y : Bounds × Text). QuantifierFound (b ∷ t) y) (some_is (q, t) x e)
    (subst (λ (c : ℕ). ReadsQuantifier (c ∷ t) q.least q.most q.exact t) (sym (eqb-true b sign h)) r)

pub quantifier-found : (t : Text) (x : Bounds × Text) → read_quantifier same t ≡ Some x → QuantifierFound t x
unfolding read_quantifier
quantifier-found [] x e = absurd cc
quantifier-found (b ∷ t) x e = ⊎_elim
    (λ c. sign-found b t 42 (bounds 0 None false) x c.0 c.1 star)
    (λ c. ⊎_elim
    (λ d. sign-found b t 43 (bounds 1 None false) x d.0 d.1 plus)
    (λ d. ⊎_elim
    (λ f. sign-found b t 63 (bounds 0 (Some 1) false) x f.0 f.1 maybe)
    (λ f. let g = guarded (b == 123) (read_braced same t) x f.1 in
    subst (λ (y : ℕ). QuantifierFound (y ∷ t) x) (sym (eqb-true b 123 g.0)) (braced-found t x g.1))
    (chosen (b == 63) (Some (bounds 0 (Some 1) false, t)) (if b == 123 then read_braced same t else None) (Some x) d.1))
    (chosen (b == 43) (Some (bounds 1 None false, t)) (if b == 63 then Some (bounds 0 (Some 1) false, t) else if b == 123 then read_braced same t else None) (Some x) c.1))
    (chosen (b == 42) (Some (bounds 0 None false, t))
    (if b == 43 then Some (bounds 1 None false, t) else if b == 63 then Some (bounds 0 (Some 1) false, t) else if b == 123 then read_braced same t else None) (Some x) e)

Digits-shorter : {n v : ℕ} {t rest : Text} → Digits n t v rest → length rest ≤ length t
Digits-shorter (end h) = omega arith
Digits-shorter (digit h d) = let s = Digits-shorter d in omega arith

Number-shorter : {v : ℕ} {t rest : Text} → Number t v rest → length rest < length t
Number-shorter (number h d) = let s = Digits-shorter d in omega arith

pub Quantifier-shorter : {least : ℕ} {most : Option ℕ} {exact : Bool} {t rest : Text} → ReadsQuantifier t least most exact rest → length rest < length t
Quantifier-shorter star = omega arith
Quantifier-shorter plus = omega arith
Quantifier-shorter maybe = omega arith
Quantifier-shorter (exactly d) = let a = Number-shorter d in omega arith
Quantifier-shorter (from d) = let a = Number-shorter d in omega arith
Quantifier-shorter (up_to d) = let a = Number-shorter d in omega arith
Quantifier-shorter (between d e) = let a = Number-shorter d in let b = Number-shorter e in omega arith
