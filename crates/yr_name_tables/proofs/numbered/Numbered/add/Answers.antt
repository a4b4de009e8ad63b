use Rattle.std.proofs.Common.{◌≡◌, ◌++◌, ◌∷◌, [], ◌∙◌, sym, ap, subst, map, length, Bor, List, ℕ, arith}
use Rattle.yr_name_tables.specs.Places.{ArePlaces}
use Rattle.yr_name_tables.specs.Order.{IsOrder}
use Rattle.yr_name_tables.proofs.NameLemmas.{length-map', map-last}
use Rattle.yr_name_tables.proofs.OrderLemmas.{order-more}
use Rattle.yr_name_tables.proofs.PlaceLemmas.{places-added}
use Rattle.yr_name_tables.proofs.numbered.Numbered.add.Goals as goal

pub invariant_of-self-2 : goal.invariant_of-self-2
invariant_of-self-2 c =
    let f = λ (k : Bor (List ℕ)). k.now in
    let old = c.self.inside.names.items in
    let P : List (Bor (List ℕ)) → Type 0 = λ l. ArePlaces c.add_place.new.places.entries (map f l) in
    let long : c.len.result ≡ length (map f old) = omega (arith, c.len.ensures, ap length c.reserve.ensures.items, length-map' f old, c.self.inside.names.ok.0, c.reserve.new.self.ok.0) in
    let Q : List (Bor (List ℕ)) → Type 0 = λ l. IsOrder c.self.inside.order.items (map f l) in
    let new : c.push.new.self.items ≡ old ++ c.args.name ∷ [] = c.in_ok-push.ensures.items ∙ ap (λ l. l ++ c.args.name ∷ []) c.reserve.ensures.items in (
      subst P (sym new) (places-added c.self.inside.places.entries c.add_place.new.places.entries old c.args.name c.len.result long c.in_ok-add_place.ensures.ok c.self.invariant.0),
      subst Q (sym new) (subst (λ (l : List (List ℕ)). IsOrder c.self.inside.order.items l) (sym (map-last f old c.args.name)) (order-more c.self.inside.order.items (map f old) c.args.name.now c.self.invariant.1)),
    )
