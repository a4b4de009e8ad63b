-- The items of one more unit.
use Rattle.std.proofs.Common.{◌≡◌, ℕ, ◌+◌, List, ◌∷◌, ◌++◌, map, drop, sym, ap, ◌∙◌, append_assoc}
use Rattle.yr_syntax.specs.Declaration.{declaration_of}
use Rattle.yr_checks.specs.declared.unit.Unit.{Unit as UnitType}
use Rattle.yr_checks.specs.Sources.{Item, item_of, items_from, unit_of}

pub unit_added : (units : List UnitType) (n : ℕ) (u : UnitType) (old new whole : List Item) → drop n units ≡ u ∷ drop (n + 1) units
    → new ≡ old ++ map (item_of n u.namespace.items) (map declaration_of u.decls.items)
    → old ++ items_from n (map unit_of (drop n units)) ≡ whole → new ++ items_from (n + 1) (map unit_of (drop (n + 1) units)) ≡ whole
unit_added units n u old new whole d added before =
    let rest = items_from (n + 1) (map unit_of (drop (n + 1) units)) in
    let own = map (item_of n u.namespace.items) (map declaration_of u.decls.items) in
    ap (λ l. l ++ rest) added ∙ append_assoc old own rest ∙ ap (λ l. old ++ items_from n (map unit_of l)) (sym d) ∙ before
