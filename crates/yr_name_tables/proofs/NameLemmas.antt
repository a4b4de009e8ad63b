-- Lists of names.
use Rattle.std.proofs.Common.{◌≡◌, Bool, true, false, ◌||◌, List, [], ◌∷◌, ◌++◌, map, length, refl, sym, ap, ◌∙◌, arith}
use Rattle.std.specs.Prelude.{if◌then◌else◌}
use Rattle.std.specs.Str.{bytes_eq}
use Rattle.std.specs.Cmp.Lexicographic.{bytes_decides}
use Rattle.std.specs.List.{list_any}
use Rattle.yr_name_tables.specs.Names.{Name}
use Rattle.yr_name_tables.specs.Places.{with_name}

pub any-map : {A B : Type 0} (f : A → B) (p : B → Bool) (xs : List A) → list_any p (map f xs) ≡ list_any (λ x. p (f x)) xs
any-map f p [] = refl
any-map f p (x ∷ xs) = ap (λ b. p (f x) || b) (any-map f p xs)

pub length-map' : {A B : Type 0} (f : A → B) (xs : List A) → length (map f xs) ≡ length xs
length-map' f [] = refl
length-map' f (x ∷ xs) = grind (arith, length-map' f xs)

pub map-last : {A B : Type 0} (f : A → B) (xs : List A) (y : A) → map f (xs ++ y ∷ []) ≡ map f xs ++ f y ∷ []
map-last f [] y = refl
map-last f (x ∷ xs) y = ap (λ l. f x ∷ l) (map-last f xs y)

pub with_name-map : {A : Type 0} (f : A → Name) (x : A) (ks : List A)
    → map f (if list_any (λ k. bytes_eq (f x) (f k)) ks then ks else ks ++ x ∷ []) ≡ with_name (f x) (map f ks)
with_name-map f x ks =
    simp any-map (elim (list_any (λ k. bytes_eq (f x) (f k)) ks) as (λ b. map f (if b then ks else ks ++ x ∷ []) ≡ (if b then map f ks else map f ks ++ f x ∷ [])) [ true ↦ refl | false ↦ map-last f ks x ])

pub bytes_eq-turned : (a b : Name) → bytes_eq a b ≡ bytes_eq b a
bytes_eq-turned a b = by (bytes_eq a b) refl (bytes_eq b a) refl
  where
    by : (x : Bool) → bytes_eq a b ≡ x → (y : Bool) → bytes_eq b a ≡ y → x ≡ y
    by true e true f = refl
    by false e false f = refl
    by true e false f = sym ((bytes_decides b a).1 (sym ((bytes_decides a b).0 e))) ∙ f
    by false e true f = sym e ∙ (bytes_decides a b).1 (sym ((bytes_decides b a).0 f))
