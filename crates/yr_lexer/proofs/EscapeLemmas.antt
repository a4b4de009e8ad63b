-- The bytes that a text stands for.
use Rattle.std.proofs.Common.{◌≡◌, ℕ, zero, suc, ◌+◌, ◌*◌, ◌<◌, ◌≤◌, Bool, true, false, List, [], ◌∷◌, length, Option, Some, None, refl, sym, ap, subst, ◌∙◌, ◌⊎◌, inl, inr, arith}
use Rattle.std.specs.Prelude.{◌==◌, ◌&&◌, ◌||◌, nat_lt}
use Rattle.std.proofs.lemmas.Bool.{ne_eqb, eqb-true, eqb-false, and_parts, or_parts, ltb-true, lt-ltb}
use Rattle.yr_lexer.specs.Gaps.{Text}
use Rattle.yr_lexer.specs.Texts.{digit_of, Stands, itself, quote, backslash, tab, feed, carriage_return, code, Unescapes, nothing, unit}
use Rattle.yr_lexer.specs.Reading.{code_in, escape_in, escape_of, unit_of}
use Rattle.yr_lexer.proofs.Basics.{by_test}

abbrev IsUnit : Text → Option (ℕ × Text) → Type 0
IsUnit t None = Unit {0}
IsUnit t (Some x) = Stands t x.0 x.1

code-found : (t : Text) → IsUnit (92 ∷ 120 ∷ t) (code_in t)
code-found [] = tt
code-found (h ∷ []) = tt
code-found (h ∷ l ∷ t) = by_test (nat_lt (digit_of h) 16 && nat_lt (digit_of l) 16) (Some (16 * digit_of h + digit_of l, t)) None (IsUnit (92 ∷ 120 ∷ h ∷ l ∷ t))
    (λ e. let p = and_parts _ _ e in code (ltb-true (digit_of h) 16 p.0) (ltb-true (digit_of l) 16 p.1)) (λ _. tt)

escape-found : (b : ℕ) (t : Text) → IsUnit (92 ∷ b ∷ t) (escape_in b t)
escape-found b t =
    by_test (b == 34) _ _ (IsUnit (92 ∷ b ∷ t)) (λ e. subst (λ (x : ℕ). Stands (92 ∷ x ∷ t) 34 t) (sym (eqb-true b 34 e)) quote)
    (λ _. by_test (b == 92) _ _ (IsUnit (92 ∷ b ∷ t)) (λ e. subst (λ (x : ℕ). Stands (92 ∷ x ∷ t) 92 t) (sym (eqb-true b 92 e)) backslash)
    (λ _. by_test (b == 116) _ _ (IsUnit (92 ∷ b ∷ t)) (λ e. subst (λ (x : ℕ). Stands (92 ∷ x ∷ t) 9 t) (sym (eqb-true b 116 e)) tab)
    (λ _. by_test (b == 110) _ _ (IsUnit (92 ∷ b ∷ t)) (λ e. subst (λ (x : ℕ). Stands (92 ∷ x ∷ t) 10 t) (sym (eqb-true b 110 e)) feed)
    (λ _. by_test (b == 114) _ _ (IsUnit (92 ∷ b ∷ t)) (λ e. subst (λ (x : ℕ). Stands (92 ∷ x ∷ t) 13 t) (sym (eqb-true b 114 e)) carriage_return)
    (λ _. by_test (b == 120) _ _ (IsUnit (92 ∷ b ∷ t)) (λ e. subst (λ (x : ℕ). IsUnit (92 ∷ x ∷ t) (code_in t)) (sym (eqb-true b 120 e)) (code-found t))
    (λ _. tt))))))

escape_of-found : (t : Text) → IsUnit (92 ∷ t) (escape_of t)
escape_of-found [] = tt
escape_of-found (b ∷ t) = escape-found b t

unit-found : (t : Text) → IsUnit t (unit_of t)
unfolding unit_of
unit-found [] = tt
unit-found (b ∷ t) =
    by_test (b == 92) (escape_of t) _ (IsUnit (b ∷ t)) (λ e. subst (λ (x : ℕ). IsUnit (x ∷ t) (escape_of t)) (sym (eqb-true b 92 e)) (escape_of-found t))
    (λ n. by_test (b == 10 || b == 34) None (Some (b, t)) (IsUnit (b ∷ t)) (λ _. tt)
    (λ m. let p = or_parts _ _ m in itself (eqb-false b 10 p.0) (eqb-false b 34 p.1) (eqb-false b 92 n)))

pub unit-some : (t : Text) (b : ℕ) (more : Text) → unit_of t ≡ Some (b, more) → Stands t b more
unit-some t b more e = subst (IsUnit t) e (unit-found t)

pub unit-read : {t more : Text} {b : ℕ} → Stands t b more → unit_of t ≡ Some (b, more)
unfolding unit_of
unit-read (itself {b = b} n10 n34 n92) = rw (ne_eqb b 92 n92, ne_eqb b 10 n10, ne_eqb b 34 n34) refl
unit-read quote = refl
unit-read backslash = refl
unit-read tab = refl
unit-read feed = refl
unit-read carriage_return = refl
unit-read (code {h = h} {l = l} p q) = rw (lt-ltb (digit_of h) 16 p, lt-ltb (digit_of l) 16 q) refl

pub Stands-shorter : {t more : Text} {b : ℕ} → Stands t b more → length more < length t
Stands-shorter (itself a b c) = omega arith
Stands-shorter quote = omega arith
Stands-shorter backslash = omega arith
Stands-shorter tab = omega arith
Stands-shorter feed = omega arith
Stands-shorter carriage_return = omega arith
Stands-shorter (code a b) = omega arith

-- where no unit begins, nothing is left or nothing is meant
pub unescapes-end : {t : Text} {bytes : List ℕ} → Unescapes t bytes → unit_of t ≡ None → (t ≡ []) × (bytes ≡ [])
unescapes-end nothing e = (refl, refl)
unescapes-end (unit s u) e = let h = unit-read s in absurd cc

-- the first unit is the one that is read
pub unescapes-next : {t : Text} {bytes : List ℕ} → Unescapes t bytes → (b : ℕ) (more : Text) → unit_of t ≡ Some (b, more)
    → (rest : List ℕ) × (bytes ≡ b ∷ rest) × Unescapes more rest
unfolding unit_of
unescapes-next nothing b more e = absurd cc
unescapes-next (unit {t = t} {more = m} {b = c} {bytes = bytes} s u) b more e =
    let h = unit-read s in
    let p : ◌≡◌ {A = ℕ × Text} (c, m) (b, more) = cc in
    (bytes, ap (λ (x : ℕ × Text). x.0 ∷ bytes) p, subst (λ (x : ℕ × Text). Unescapes x.1 bytes) p u)

unit_of-nil : unit_of [] ≡ None
unfolding unit_of
unit_of-nil = refl

-- a text stands for one list of bytes
pub unescapes-one : {t : Text} {bytes : List ℕ} → Unescapes t bytes → (other : List ℕ) → Unescapes t other → bytes ≡ other
unescapes-one nothing other u = sym (unescapes-end u unit_of-nil).1
unescapes-one (unit {more = m} {b = b} s u) other v =
    let n = unescapes-next v b m (unit-read s) in
    ap (λ (x : List ℕ). b ∷ x) (unescapes-one u n.0 n.2) ∙ sym n.1

pub empty-good : (rest : Text) (r : Bool) → r ≡ (length rest == 0) → r ≡ true → Unescapes rest []
empty-good [] r e y = nothing
empty-good (b ∷ t) r e y = absurd (not_empty b t (sym e ∙ y))
  where
    not_empty : (b : ℕ) (t : Text) → (length (b ∷ t) == 0) ≡ true → ⊥
    not_empty b t h = let z = eqb-true (length (b ∷ t)) 0 h in omega arith

pub rest-bad : (rest : Text) (bytes : List ℕ) (r : Bool) → r ≡ (length rest == 0) → r ≡ false → unit_of rest ≡ None → Unescapes rest bytes → ⊥
rest-bad rest bytes r e n none u =
    let z = (unescapes-end u none).0 in
    let f : (length rest == 0) ≡ true = ap (λ (x : Text). length x == 0) z in
    cc

-- all units are read
pub unescapes-all : (rest : Text) (bytes : List ℕ) → unit_of rest ≡ None → Unescapes rest bytes → Unescapes rest []
unescapes-all rest bytes none u = let z = (unescapes-end u none).1 in subst (λ (x : List ℕ). Unescapes rest x) z u

abbrev pub IsDecided : Text → Type 0
IsDecided t = ((bytes : List ℕ) × Unescapes t bytes) ⊎ ((bytes : List ℕ) → ¬ Unescapes t bytes)

decide-none : (t : Text) → unit_of t ≡ None → IsDecided t
decide-none [] e = inl ([], nothing)
decide-none (b ∷ t) e = inr (λ bytes u. let h = (unescapes-end u e).0 in cc)

decide-some : (t more : Text) (b : ℕ) → unit_of t ≡ Some (b, more) → IsDecided more → IsDecided t
decide-some t more b e (inl g) = inl (b ∷ g.0, unit (unit-some t b more e) g.1)
decide-some t more b e (inr n) = inr (λ bytes u. let x = unescapes-next u b more e in n x.0 x.2)

decide-within : (n : ℕ) (t : Text) → length t ≤ n → IsDecided t
decide-within zero [] h = inl ([], nothing)
decide-within zero (b ∷ t) h = absurd (omega arith)
decide-within (suc n) t h = go (unit_of t) refl (λ more l. decide-within n more l)
  where
    go : (o : Option (ℕ × Text)) → unit_of t ≡ o → ((more : Text) → length more ≤ n → IsDecided more) → IsDecided t
    go None e f = decide-none t e
    go (Some x) e f = let l = Stands-shorter (unit-some t x.0 x.1 e) in decide-some t x.1 x.0 e (f x.1 (omega arith))

-- a text stands for some bytes or for none
pub decided : (t : Text) → IsDecided t
decided t = decide-within (length t) t (omega arith)
