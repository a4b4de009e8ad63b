-- An item means a name where the name is one of the whole ones, or begins with one of the fronts.
use Rattle.std.proofs.Common.{◌≡◌, ◌||◌, ◌++◌, Bool, true, false, List, [], ◌∷◌, refl, sym, ap, ◌∙◌}
use Rattle.std.specs.Prelude.{if◌then◌else◌}
use Rattle.std.specs.List.{flat_map}
use Rattle.std.specs.Str.{bytes_eq}
use Rattle.yr_syntax.specs.Condition.{ItemTree}
use Rattle.yr_name_tables.specs.Names.{Name, has, has_front, begins, means, is_meant}
use Rattle.yr_name_tables.specs.Wanted.{AreApart, front_name, whole_name}
use Rattle.yr_name_tables.proofs.NameLemmas.{bytes_eq-turned}

or-front : (a w f : Bool) → (a || (w || f)) ≡ (w || (a || f))
or-front true true f = refl
or-front true false f = refl
or-front false w f = refl

or-whole : (a w f : Bool) → (a || (w || f)) ≡ ((a || w) || f)
or-whole true w f = refl
or-whole false w f = refl

meant-apart : (items : List ItemTree) (n : Name) → is_meant items n ≡ (has n (flat_map whole_name items) || has_front (flat_map front_name items) n)
unfolding is_meant has_front
meant-apart [] n = refl
meant-apart (i ∷ items) n = ap (λ b. means i.name i.wild n || b) (meant-apart items n) ∙ by i.wild
  where
    by : (wild : Bool) → (means i.name wild n || (has n (flat_map whole_name items) || has_front (flat_map front_name items) n))
        ≡ (has n ((if wild then [] else i.name ∷ []) ++ flat_map whole_name items) || has_front ((if wild then i.name ∷ [] else []) ++ flat_map front_name items) n)
    by true = or-front (begins i.name n) (has n (flat_map whole_name items)) (has_front (flat_map front_name items) n)
    by false =
        or-whole (bytes_eq i.name n) (has n (flat_map whole_name items)) (has_front (flat_map front_name items) n)
        ∙ ap (λ b. (b || has n (flat_map whole_name items)) || has_front (flat_map front_name items) n) (bytes_eq-turned i.name n)

meant-among : (items : List ItemTree) (wholes fronts : List Name) (n : Name) → AreApart items wholes fronts → is_meant items n ≡ (has n wholes || has_front fronts n)
meant-among items wholes fronts n h =
    meant-apart items n ∙ ap (λ l. has n l || has_front (flat_map front_name items) n) (sym h.0) ∙ ap (λ l. has n wholes || has_front l n) (sym h.1)

-- as the code asks: for the front only where the name is not whole
pub meant_asked : (items : List ItemTree) (wholes fronts : List Name) (n : Name) (whole : Bool) → AreApart items wholes fronts → whole ≡ has n wholes → (whole || has_front fronts n) ≡ is_meant items n
meant_asked items wholes fronts n whole h e = ap (λ b. b || has_front fronts n) e ∙ sym (meant-among items wholes fronts n h)
