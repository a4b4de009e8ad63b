-- Lists, an element at a time.
use Rattle.std.proofs.Common.{◌≡◌, ℕ, zero, suc, ◌+◌, ◌<◌, List, [], ◌∷◌, ◌++◌, length, map, take, drop, get_or, refl, sym, ap, subst, ◌∙◌, arith}
use Rattle.std.proofs.Math.Seq.{drop-cons}
use Rattle.std.proofs.lemmas.List.{take_more}
use Rattle.yr_syntax.specs.Forms.{Each}

map-last : {A B : Type 0} (f : A → B) (xs : List A) (y : A) → map f (xs ++ y ∷ []) ≡ map f xs ++ f y ∷ []
map-last f [] y = refl
map-last f (x ∷ xs) y = ap (λ l. f x ∷ l) (map-last f xs y)

pub each_at : {A B : Type 0} (P : B → Type 0) (f : A → B) (xs : List A) (n : ℕ) (x : A) → Each P (map f xs) → n < length xs → x ≡ get_or xs n x → P (f x)
each_at P f [] n x h b e = absurd (omega arith)
each_at P f (y ∷ ys) zero x h b e = subst (λ z. P (f z)) (sym e) h.0
each_at P f (y ∷ ys) (suc n) x h b e = each_at P f ys n x h.1 (omega arith) e

-- what stands from a place on
pub from_place : {A : Type 0} (xs : List A) (n : ℕ) (x : A) → n < length xs → x ≡ get_or xs n x → drop n xs ≡ x ∷ drop (n + 1) xs
from_place xs n x b e = let next : suc n ≡ n + 1 = omega arith in drop-cons xs n x b ∙ ap (λ y. y ∷ drop (suc n) xs) (sym e) ∙ ap (λ k. x ∷ drop k xs) next

-- a copy of one more element
pub one_more : {A B C D : Type 0} (g : A → D) (h : C → D) (k : B → C) (old new : List A) (r : A) (xs : List B) (n : ℕ) (x : B)
    → new ≡ old ++ r ∷ [] → g r ≡ h (k x) → n < length xs → x ≡ get_or xs n x → map g old ≡ map h (map k (take n xs)) → map g new ≡ map h (map k (take (n + 1) xs))
one_more g h k old new r xs n x added same b e before =
    let taken : take (n + 1) xs ≡ take n xs ++ x ∷ [] = take_more xs n x b ∙ ap (λ y. take n xs ++ y ∷ []) (sym e) in
    let right : map h (map k (take (n + 1) xs)) ≡ map h (map k (take n xs)) ++ h (k x) ∷ [] =
    ap (λ l. map h (map k l)) taken ∙ ap (map h) (map-last k (take n xs) x) ∙ map-last h (map k (take n xs)) (k x) in
    ap (map g) added ∙ map-last g old r ∙ ap (λ l. l ++ g r ∷ []) before ∙ ap (λ y. map h (map k (take n xs)) ++ y ∷ []) same ∙ sym right
