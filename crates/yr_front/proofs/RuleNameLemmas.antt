-- The names of rules in source order are those of the rules placed among all items.
use Rattle.std.proofs.Common.{◌≡◌, ℕ, zero, suc, ◌+◌, List, [], ◌∷◌, ◌++◌, length, map, Option, Some, None, refl, sym, ap, ◌∙◌, arith, slice_get, length-append}
use Rattle.std.specs.Option.{option_map}
use Rattle.std.proofs.lemmas.Option.{slice_get-map, slice_get_past}
use Rattle.yr_syntax.specs.Declaration.{Declaration}
use Rattle.yr_syntax.specs.Declaration as declaration
use Rattle.yr_checks.specs.Sources.{UnitTree, Item, Import, Rule, PlacedRule, item_of, items_from, items_of, placed_after, rules_in}
use Rattle.yr_outcome.specs.Front.{name_of, rule_name}
use Rattle.yr_front.specs.RuleNames.{names_among, all_names, Finds}

-- the names of the rules among items
abbrev item_names : List Item → List (List ℕ)
item_names [] = []
item_names (Import i ∷ items) = item_names items
item_names (Rule unit space r ∷ items) = r.name ∷ item_names items

placed-names : (before items : List Item) → map (λ p. p.rule.name) (placed_after before items) ≡ item_names items
placed-names before [] = refl
placed-names before (Import i ∷ items) = placed-names (before ++ Import i ∷ []) items
placed-names before (Rule unit space r ∷ items) = ap (λ l. r.name ∷ l) (placed-names (before ++ Rule unit space r ∷ []) items)

item-append : (ds : List Declaration) (k : ℕ) (space : List ℕ) (items : List Item)
    → item_names (map (item_of k space) ds ++ items) ≡ names_among ds ++ item_names items
item-append [] k space items = refl
item-append (declaration.Import name file n ∷ ds) k space items = item-append ds k space items
item-append (declaration.Rule r ∷ ds) k space items = ap (λ l. r.name ∷ l) (item-append ds k space items)

items-names : (k : ℕ) (units : List UnitTree) → item_names (items_from k units) ≡ all_names units
items-names k [] = refl
items-names k (u ∷ us) = item-append u.declarations k u.space (items_from (k + 1) us) ∙ ap (λ l. names_among u.declarations ++ l) (items-names (k + 1) us)

all-names : (units : List UnitTree) → map (λ p. p.rule.name) (rules_in (items_of units)) ≡ all_names units
all-names units = placed-names [] (items_of units) ∙ items-names 0 units

-- a name, none past the last
abbrev or_none : Option (List ℕ) → List ℕ
or_none None = []
or_none (Some n) = n

name-or : (p : Option PlacedRule) → name_of p ≡ or_none (option_map (λ p. p.rule.name) p)
name-or None = refl
name-or (Some p) = refl

rule_name-or : (units : List UnitTree) (k : ℕ) → rule_name units k ≡ or_none (slice_get (all_names units) k)
rule_name-or units k =
    name-or (slice_get (rules_in (items_of units)) k)
    ∙ ap or_none (sym (slice_get-map (λ p. p.rule.name) (rules_in (items_of units)) k))
    ∙ ap (λ names. or_none (slice_get names k)) (all-names units)

-- what was found is the rule's name
pub found-name : (units : List UnitTree) (k left : ℕ) (name : List ℕ) → Finds (all_names units) k left (Some name) → name ≡ rule_name units k
found-name units k left name h = sym (rule_name-or units k ∙ ap or_none h)

pub found-none : (units : List UnitTree) (k left : ℕ) → Finds (all_names units) k left None → [] ≡ rule_name units k
found-none units k left h = sym (rule_name-or units k ∙ ap or_none (slice_get_past (all_names units) k (omega (arith, h))))

-- past the first names
past-front : (xs ys : List (List ℕ)) (k : ℕ) → slice_get (xs ++ ys) (length xs + k) ≡ slice_get ys k
past-front [] ys k = let e : zero + k ≡ k = omega arith in ap (slice_get ys) e
past-front (x ∷ xs) ys k = let e : suc (length xs) + k ≡ suc (length xs + k) = omega arith in ap (slice_get (x ∷ (xs ++ ys))) e ∙ past-front xs ys k

in-front : (xs ys : List (List ℕ)) (k : ℕ) (n : List ℕ) → slice_get xs k ≡ Some n → slice_get (xs ++ ys) k ≡ Some n
in-front [] ys k n h = cc
in-front (x ∷ xs) ys zero n h = h
in-front (x ∷ xs) ys (suc k) n h = in-front xs ys k n h

-- the search in the first names, and then in the others
pub Finds-front : (xs ys : List (List ℕ)) (k left : ℕ) (n : List ℕ) → Finds xs k left (Some n) → slice_get (xs ++ ys) k ≡ Some n
Finds-front xs ys k left n h = in-front xs ys k n h

pub Finds-past : (xs ys : List (List ℕ)) (k left : ℕ) → Finds xs k left None → slice_get (xs ++ ys) k ≡ slice_get ys left
Finds-past xs ys k left h = ap (slice_get (xs ++ ys)) h ∙ past-front xs ys left
