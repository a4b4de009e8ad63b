-- Tests, and the bytes before a rest.
use Rattle.std.proofs.Common.{◌≡◌, ℕ, ◌+◌, ◌-◌, Bool, true, false, [], ◌∷◌, ◌++◌, length, take, if◌then◌else◌, refl, sym, ap, ◌∙◌, arith, length-append}
use Rattle.yr_lexer.specs.Gaps.{Text, before}

pub by_test : {A : Type 0} (b : Bool) (x y : A) (P : A → Type 0) → (b ≡ true → P x) → (b ≡ false → P y) → P (if b then x else y)
by_test true x y P f g = f refl
by_test false x y P f g = g refl

pub bool_cases : (P : Type 0) (b : Bool) → (b ≡ true → P) → (b ≡ false → P) → P
bool_cases P true f g = f refl
bool_cases P false f g = g refl

pub take-front : (w rest : Text) → take (length w) (w ++ rest) ≡ w
take-front [] rest = refl
take-front (b ∷ w) rest = ap (λ (l : Text). b ∷ l) (take-front w rest)

pub before-append : (w rest : Text) → before (w ++ rest) rest ≡ w
before-append w rest =
    let e : length (w ++ rest) - length rest ≡ length w = omega (arith, length-append w rest) in
    ap (λ (n : ℕ). take n (w ++ rest)) e ∙ take-front w rest

-- the bytes before a rest, where the rest is known
pub before-is : (t w rest : Text) → t ≡ w ++ rest → before t rest ≡ w
before-is t w rest e = ap (λ (x : Text). before x rest) e ∙ before-append w rest

pub length-split : (t w rest : Text) → t ≡ w ++ rest → length t ≡ length w + length rest
length-split t w rest e = ap (λ (x : Text). length x) e ∙ length-append w rest

-- two splits of a text with rests of one length are one
pub same-rest : (v w r s : Text) → v ++ r ≡ w ++ s → length r ≡ length s → r ≡ s
same-rest [] [] r s e l = e
same-rest [] (b ∷ w) r s e l = let h = ap (λ (x : Text). length x) e in let k = length-append (b ∷ w) s in absurd (omega (arith, h, k))
same-rest (b ∷ v) [] r s e l = let h = ap (λ (x : Text). length x) e in let k = length-append (b ∷ v) r in absurd (omega (arith, h, k))
same-rest (b ∷ v) (c ∷ w) r s e l = same-rest v w r s (cc e) l

pub same-front : (v w r s : Text) → v ++ r ≡ w ++ s → length r ≡ length s → v ≡ w
same-front v w r s e l =
    let same : r ≡ s = same-rest v w r s e l in
    sym (before-append v r) ∙ ap (λ (x : Text). before x r) e ∙ ap (λ (x : Text). before (w ++ s) x) same ∙ before-append w s
