-- Steps of the loops that put notes, externals and rules.
use Rattle.std.proofs.Common.{◌≡◌, ℕ, ◌+◌, ◌<◌, List, [], ◌∷◌, ◌++◌, length, map, take, All, get_or, sym, ap, ◌∙◌, subst, arith}
use Rattle.std.proofs.lemmas.List.{length-map, get_or-map, map_more, map-append}

-- what holds of all holds of the one at k
pub at_item : {X Y : Type 0} (P : Y → Type 0) (f : X → Y) (xs : List X) (k : ℕ) (x : X) → k < length xs → x ≡ get_or xs k x → All P (map f xs) → P (f x)
at_item P f xs k x b is all =
    let long = length-map xs f in
    subst P (get_or-map f xs k x (f x) b ∙ ap f (sym is)) (all k (f x) (omega (arith, b, long)))

-- one more of them
pub one_more : {X Y : Type 0} (f : X → Y) (xs : List X) (k : ℕ) (x : X) → k < length xs → x ≡ get_or xs k x
    → map f (take (k + 1) xs) ≡ map f (take k xs) ++ f x ∷ []
one_more f xs k x b is = map_more f xs k x b ∙ ap (λ y. map f (take k xs) ++ f y ∷ []) (sym is)

pub one_more_of : {X Y Z : Type 0} (g : Y → Z) (f : X → Y) (xs : List X) (k : ℕ) (x : X) → k < length xs → x ≡ get_or xs k x
    → map g (map f (take (k + 1) xs)) ≡ map g (map f (take k xs)) ++ g (f x) ∷ []
one_more_of g f xs k x b is = ap (map g) (one_more f xs k x b is) ∙ map-append g (map f (take k xs)) (f x ∷ [])
