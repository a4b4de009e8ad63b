-- How many namespaces the rules of some units are in.
use Rattle.std.proofs.Common.{◌≡◌, ℕ, ◌+◌, ◌≤◌, ◌||◌, List, [], ◌∷◌, ◌++◌, length, map, Bool, true, false, refl, sym, ap, ◌∙◌, arith}
use Rattle.std.specs.Prelude.{if◌then◌else◌, bytes_eq}
use Rattle.std.specs.List.{list_any}
use Rattle.std.specs.Cmp.Lexicographic.{bytes_decides}
use Rattle.std.proofs.lemmas.List.Folds.{list_any-append}
use Rattle.yr_syntax.specs.Declaration.{Declaration}
use Rattle.yr_syntax.specs.Declaration as declaration
use Rattle.yr_rules.specs.Wellformed.{count_different}
use Rattle.yr_name_tables.specs.Names.{Name}
use Rattle.yr_checks.specs.Sources.{Item, Import, Rule, PlacedRule, UnitTree, item_of, items_from, placed_after}

-- the namespaces of the rules among items
abbrev spaces_of : List Item → List Name
spaces_of [] = []
spaces_of (Import i ∷ items) = spaces_of items
spaces_of (Rule unit space r ∷ items) = space ∷ spaces_of items

pub placed-spaces : (before items : List Item) → map (λ (p : PlacedRule). p.space) (placed_after before items) ≡ spaces_of items
placed-spaces before [] = refl
placed-spaces before (Import i ∷ items) = placed-spaces (before ++ Import i ∷ []) items
placed-spaces before (Rule unit space r ∷ items) = ap (λ l. space ∷ l) (placed-spaces (before ++ Rule unit space r ∷ []) items)

spaces-append : (xs ys : List Item) → spaces_of (xs ++ ys) ≡ spaces_of xs ++ spaces_of ys
spaces-append [] ys = refl
spaces-append (Import i ∷ xs) ys = spaces-append xs ys
spaces-append (Rule unit space r ∷ xs) ys = ap (λ l. space ∷ l) (spaces-append xs ys)

if-more : (b : Bool) (n m : ℕ) → n ≤ m → (if b then n else n + 1) ≤ m + 1
if-more true n m h = omega arith
if-more false n m h = omega arith

or-left : (a b : Bool) → (a || b) ≡ false → a ≡ false
or-left false b e = refl
or-left true b e = absurd cc

different-append : (xs ys : List Name) → count_different (xs ++ ys) ≤ count_different xs + count_different ys
different-append [] ys = omega arith
different-append (x ∷ xs) ys = by (list_any (bytes_eq x) (xs ++ ys)) refl (list_any (bytes_eq x) xs) refl (different-append xs ys)
  where
    by : (a : Bool) → list_any (bytes_eq x) (xs ++ ys) ≡ a → (b : Bool) → list_any (bytes_eq x) xs ≡ b → count_different (xs ++ ys) ≤ count_different xs + count_different ys
        → (if a then count_different (xs ++ ys) else count_different (xs ++ ys) + 1) ≤ (if b then count_different xs else count_different xs + 1) + count_different ys
    by true e true f h = h
    by true e false f h = omega arith
    by false e false f h = omega arith
    by false e true f h = let gone = or-left (list_any (bytes_eq x) xs) (list_any (bytes_eq x) ys) (sym (list_any-append (bytes_eq x) xs ys) ∙ e) in absurd cc

-- declarations of one unit are in one namespace
item-spaces : (k : ℕ) (s : Name) (ds : List Declaration) → count_different (spaces_of (map (item_of k s) ds)) ≤ 1
item-spaces k s [] = omega arith
item-spaces k s (declaration.Import name file line ∷ ds) = item-spaces k s ds
item-spaces k s (declaration.Rule r ∷ ds) = by (list_any (bytes_eq s) (spaces_of (map (item_of k s) ds))) refl (item-spaces k s ds)
  where
    alone : (es : List Declaration) → list_any (bytes_eq s) (spaces_of (map (item_of k s) es)) ≡ false → count_different (spaces_of (map (item_of k s) es)) ≡ 0
    alone [] e = refl
    alone (declaration.Import name file line ∷ es) e = alone es e
    alone (declaration.Rule q ∷ es) e = let same = (bytes_decides s s).1 refl in let gone = or-left (bytes_eq s s) (list_any (bytes_eq s) (spaces_of (map (item_of k s) es))) e in absurd cc

    by : (b : Bool) → list_any (bytes_eq s) (spaces_of (map (item_of k s) ds)) ≡ b → count_different (spaces_of (map (item_of k s) ds)) ≤ 1
        → (if b then count_different (spaces_of (map (item_of k s) ds)) else count_different (spaces_of (map (item_of k s) ds)) + 1) ≤ 1
    by true e h = h
    by false e h = let none = alone ds e in omega arith

pub few-spaces : (k : ℕ) (units : List UnitTree) → count_different (spaces_of (items_from k units)) ≤ length units
few-spaces k [] = omega arith
few-spaces k (u ∷ us) =
    let a = different-append (spaces_of (map (item_of k u.space) u.declarations)) (spaces_of (items_from (k + 1) us)) in
    let b = ap count_different (spaces-append (map (item_of k u.space) u.declarations) (items_from (k + 1) us)) in
    let c = item-spaces k u.space u.declarations in
    let d = few-spaces (k + 1) us in
    omega arith

pub different-spaces : (units : List UnitTree) (before : List Item) → count_different (map (λ (p : PlacedRule). p.space) (placed_after before (items_from 0 units))) ≤ length units
different-spaces units before =
    let a = ap count_different (placed-spaces before (items_from 0 units)) in let b = few-spaces 0 units in omega arith
