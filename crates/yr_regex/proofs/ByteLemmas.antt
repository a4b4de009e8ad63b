-- Escapes and sets: what is read is what the grammar has.
use Rattle.std.proofs.Common.{◌≡◌, ℕ, ◌+◌, ◌*◌, ◌<◌, ⊎_elim, Bool, [], ◌∷◌, length, Option, Some, None, refl, sym, ap, subst, ◌∙◌, arith}
use Rattle.std.specs.Prelude.{◌==◌}
use Rattle.std.proofs.lemmas.Bool.{eqb-true, ne_eqb}
use Rattle.yr_regex.specs.Escapes.{Text, hex_digit, escaped, kind, ReadsEscape, letter, number}
use Rattle.yr_regex.specs.Reading.{and_then, with_rest, sees, after, read_digit, read_hex, read_escaped, read_kind, read_set}
use Rattle.yr_regex.proofs.StepLemmas.{if_false, then-some}
use Rattle.yr_regex.proofs.OutcomeLemmas.{bind-some, chosen, guarded, rest-some, moved, after-true}

digit-read : (h : ℕ) (t : Text) (d : ℕ) → hex_digit h ≡ Some d → read_digit (h ∷ t) ≡ Some (d, t)
unfolding read_digit
digit-read h t d e = ap (λ (o : Option ℕ). with_rest o t) e

digit-found : (t : Text) (x : ℕ × Text) → read_digit t ≡ Some x → (h : ℕ) × (t ≡ h ∷ x.1) × (hex_digit h ≡ Some x.0)
unfolding read_digit
digit-found [] x e = absurd cc
digit-found (h ∷ t) x e = let r = rest-some (hex_digit h) t x e in (h, ap (λ (u : Text). h ∷ u) r.1, r.0)

hex-read : (h l high low : ℕ) (rest : Text) → hex_digit h ≡ Some high → hex_digit l ≡ Some low → read_hex (h ∷ l ∷ rest) ≡ Some (16 * high + low, rest)
unfolding read_hex
hex-read h l high low rest e f =
    then-some (read_digit (h ∷ l ∷ rest)) (λ high' u. and_then (read_digit u) (λ low' v. Some (16 * high' + low', v))) (high, l ∷ rest) (digit-read h (l ∷ rest) high e)
    ∙ then-some (read_digit (l ∷ rest)) (λ low' v. Some (16 * high + low', v)) (low, rest) (digit-read l rest low f)

hex-found : (t : Text) (x : ℕ × Text) → read_hex t ≡ Some x → ReadsEscape (92 ∷ 120 ∷ t) x.0 x.1
unfolding read_hex
hex-found t x e =
    let a = bind-some (read_digit t) (λ high u. and_then (read_digit u) (λ low v. Some (16 * high + low, v))) x e in
    let b = bind-some (read_digit a.0.1) (λ low v. Some (16 * a.0.0 + low, v)) x a.2 in
    let h = digit-found t a.0 a.1 in
    let l = digit-found a.0.1 b.0 b.1 in
    let whole : t ≡ h.0 ∷ l.0 ∷ b.0.1 = h.1 ∙ ap (λ (u : Text). h.0 ∷ u) l.1 in
    subst (λ (u : Text). ReadsEscape (92 ∷ 120 ∷ u) x.0 x.1) (sym whole)
    (moved (λ (v : ℕ) (u : Text). ReadsEscape (92 ∷ 120 ∷ h.0 ∷ l.0 ∷ b.0.1) v u) (16 * a.0.0 + b.0.0) b.0.1 x b.2 (number h.2 l.2))

-- a byte that an escape ends with is none of the others
pub escaped-is_no : (c other b : ℕ) → escaped c ≡ Some b → escaped other ≡ None → c ≡ other → ⊥
escaped-is_no c other b e f s = let g = ap (λ (x : ℕ). escaped x) s in cc

pub kind-is_no : (c other : ℕ) (bytes : ℕ → Bool) → kind c ≡ Some bytes → kind other ≡ None → c ≡ other → ⊥
kind-is_no c other bytes e f s = let g = ap (λ (x : ℕ). kind x) s in cc

-- what stands behind the `\` of an escape
pub escape-read : {b : ℕ} {t rest : Text} → ReadsEscape t b rest → (u : Text) × (t ≡ 92 ∷ u) × (read_escaped u ≡ Some (b, rest))
unfolding read_escaped
escape-read (letter {c = c} {b = b} {rest = rest} e) =
    (c ∷ rest, refl, if_false (c == 120) _ _ (ne_eqb c 120 (escaped-is_no c 120 b e refl)) ∙ ap (λ (o : Option ℕ). with_rest o rest) e)
escape-read (number {h = h} {l = l} {high = high} {low = low} {rest = rest} e f) = (120 ∷ h ∷ l ∷ rest, refl, hex-read h l high low rest e f)

pub escape-found : (t : Text) (x : ℕ × Text) → read_escaped t ≡ Some x → ReadsEscape (92 ∷ t) x.0 x.1
unfolding read_escaped
escape-found [] x e = absurd cc
escape-found (c ∷ t) x e = ⊎_elim
    (λ k. subst (λ (y : ℕ). ReadsEscape (92 ∷ y ∷ t) x.0 x.1) (sym (eqb-true c 120 k.0)) (hex-found t x k.1))
    (λ k. let r = rest-some (escaped c) t x k.1 in subst (λ (u : Text). ReadsEscape (92 ∷ c ∷ u) x.0 x.1) (sym r.1) (letter r.0))
    (chosen (c == 120) (read_hex t) (with_rest (escaped c) t) (Some x) e)

pub kind-read : (c : ℕ) (bytes : ℕ → Bool) (t : Text) → kind c ≡ Some bytes → read_kind (c ∷ t) ≡ Some (bytes, t)
unfolding read_kind
kind-read c bytes t e = ap (λ (o : Option (ℕ → Bool)). with_rest o t) e

pub kind-found : (t : Text) (x : (ℕ → Bool) × Text) → read_kind t ≡ Some x → (c : ℕ) × (t ≡ c ∷ x.1) × (kind c ≡ Some x.0)
unfolding read_kind
kind-found [] x e = absurd cc
kind-found (c ∷ t) x e = let r = rest-some (kind c) t x e in (c, ap (λ (u : Text). c ∷ u) r.1, r.0)

no_kind : (c b : ℕ) → escaped c ≡ Some b → kind c ≡ None
no_kind c b e =
    if_false (c == 119) _ _ (ne_eqb c 119 (escaped-is_no c 119 b e refl)) ∙ if_false (c == 87) _ _ (ne_eqb c 87 (escaped-is_no c 87 b e refl))
    ∙ if_false (c == 115) _ _ (ne_eqb c 115 (escaped-is_no c 115 b e refl)) ∙ if_false (c == 83) _ _ (ne_eqb c 83 (escaped-is_no c 83 b e refl))
    ∙ if_false (c == 100) _ _ (ne_eqb c 100 (escaped-is_no c 100 b e refl)) ∙ if_false (c == 68) _ _ (ne_eqb c 68 (escaped-is_no c 68 b e refl))

-- an escape is no set
pub escape-no_kind : {b : ℕ} {t rest : Text} → ReadsEscape t b rest → (u : Text) → t ≡ 92 ∷ u → read_kind u ≡ None
unfolding read_kind
escape-no_kind (letter {c = c} {b = b} {rest = rest} e) u s =
    let f : c ∷ rest ≡ u = cc s in ap (λ (v : Text). read_kind v) (sym f) ∙ ap (λ (o : Option (ℕ → Bool)). with_rest o rest) (no_kind c b e)
escape-no_kind (number {h = h} {l = l} {rest = rest} e g) u s =
    let f : 120 ∷ h ∷ l ∷ rest ≡ u = cc s in ap (λ (v : Text). read_kind v) (sym f)

pub escape-no_set : {b : ℕ} {t rest : Text} → ReadsEscape t b rest → read_set t ≡ None
unfolding read_set sees after
escape-no_set r = let e = escape-read r in ap (λ (v : Text). read_set v) e.1 ∙ escape-no_kind r e.0 e.1

pub set-read : (c : ℕ) (bytes : ℕ → Bool) (t : Text) → kind c ≡ Some bytes → read_set (92 ∷ c ∷ t) ≡ Some (bytes, t)
unfolding read_set sees after
set-read c bytes t e = kind-read c bytes t e

pub set-found : (t : Text) (x : (ℕ → Bool) × Text) → read_set t ≡ Some x → (c : ℕ) × (t ≡ 92 ∷ c ∷ x.1) × (kind c ≡ Some x.0)
unfolding read_set
set-found t x e =
    let g = guarded (sees 92 t) (read_kind (after 92 t)) x e in
    let k = kind-found (after 92 t) x g.1 in
    (k.0, after-true 92 t g.0 ∙ ap (λ (u : Text). 92 ∷ u) k.1, k.2)

pub Escape-shorter : {b : ℕ} {t rest : Text} → ReadsEscape t b rest → length rest < length t
Escape-shorter (letter e) = omega arith
Escape-shorter (number e f) = omega arith
