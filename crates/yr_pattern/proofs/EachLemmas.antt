-- A change of each of a list of trees, and a list of patterns turned round.
use Rattle.std.proofs.Common.{◌≡◌, List, [], ◌∷◌, ◌++◌, map, append_assoc, refl, sym, ap, ◌∙◌}
use Rattle.std.specs.Prelude.{reverse}
use Rattle.std.proofs.lemmas.List.{append-nil, map-append}
use Rattle.std.proofs.lemmas.Grind as grind
use Rattle.yr_pattern.specs.declared.pattern.Pattern.{Pattern}
use Rattle.yr_pattern.specs.Tree.{Tree, tree_of, trees_of, none, more}
use Rattle.yr_pattern.specs.Reverse.{reverse_tree, reverse_onto, reverse_each}
use Rattle.yr_pattern.specs.Widen.{widen_tree, widen_each}
use Rattle.yr_pattern.specs.Fold.{fold_tree, fold_each}

pub widen_each-trees_of : (xs : List Tree) → widen_each (trees_of xs) ≡ trees_of (map widen_tree xs)
widen_each-trees_of [] = refl
widen_each-trees_of (x ∷ xs) = ap (more (widen_tree x)) (widen_each-trees_of xs)

pub fold_each-trees_of : (xs : List Tree) → fold_each (trees_of xs) ≡ trees_of (map fold_tree xs)
fold_each-trees_of [] = refl
fold_each-trees_of (x ∷ xs) = ap (more (fold_tree x)) (fold_each-trees_of xs)

pub reverse_each-trees_of : (xs : List Tree) → reverse_each (trees_of xs) ≡ trees_of (map reverse_tree xs)
reverse_each-trees_of [] = refl
reverse_each-trees_of (x ∷ xs) = ap (more (reverse_tree x)) (reverse_each-trees_of xs)

reverse-cons : {A : Type 0} (x : A) (xs : List A) → reverse (x ∷ xs) ≡ reverse xs ++ x ∷ []
reverse-cons x xs = grind.reverse_onto xs x []

map-reverse : (xs : List Pattern) → map tree_of (reverse xs) ≡ reverse (map tree_of xs)
map-reverse [] = refl
map-reverse (x ∷ xs) =
    ap (map tree_of) (reverse-cons x xs) ∙ map-append tree_of (reverse xs) (x ∷ [])
    ∙ ap (λ l. l ++ tree_of x ∷ []) (map-reverse xs) ∙ sym (reverse-cons (tree_of x) (map tree_of xs))

reverse_onto-trees_of : (xs after : List Tree) → reverse_onto (trees_of xs) (trees_of after) ≡ trees_of (reverse (map reverse_tree xs) ++ after)
reverse_onto-trees_of [] after = refl
reverse_onto-trees_of (x ∷ xs) after =
    reverse_onto-trees_of xs (reverse_tree x ∷ after)
    ∙ ap trees_of (sym (append_assoc (reverse (map reverse_tree xs)) (reverse_tree x ∷ []) after)
    ∙ ap (λ l. l ++ after) (sym (reverse-cons (reverse_tree x) (map reverse_tree xs))))

reverse_onto-none : (xs : List Tree) → reverse_onto (trees_of xs) none ≡ trees_of (reverse (map reverse_tree xs))
reverse_onto-none xs = reverse_onto-trees_of xs [] ∙ ap trees_of (append-nil (reverse (map reverse_tree xs)))

-- members turned round one by one, and then their list
pub tree_of-reverse : (members all turned : List Pattern) → map tree_of all ≡ map reverse_tree (map tree_of members) → turned ≡ reverse all →
    trees_of (map tree_of turned) ≡ reverse_onto (trees_of (map tree_of members)) none
tree_of-reverse members all turned e r =
    ap (λ l. trees_of (map tree_of l)) r ∙ ap trees_of (map-reverse all) ∙ ap (λ l. trees_of (reverse l)) e ∙ sym (reverse_onto-none (map tree_of members))
