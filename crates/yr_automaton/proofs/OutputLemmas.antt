-- The outputs along the links.
use Rattle.std.proofs.Common.{◌≡◌, ◌≢◌, ℕ, zero, suc, ◌+◌, ◌-◌, ◌<◌, ◌≤◌, inl, inr, ◌==◌, cond, Bool, true, false, List, [], ◌∷◌, ◌++◌, length, take, drop, get_or, drop-cons, Some, refl, sym, ap, ◌∙◌, subst, arith}
use Rattle.std.specs.Prelude.{slice_get}
use Rattle.std.specs.Option.{option_map_or}
use Rattle.std.proofs.lemmas.Bool.Decides.{nat_tests}
use Rattle.yr_rows.specs.declared.nodes.NodeRow.{NodeRow}
use Rattle.yr_rows.specs.Walk.{AreOutputs}
use Rattle.yr_rows.specs.Nodes.{link_of, own_of}
use Rattle.yr_automaton.specs.Outputs.{after, left_of, AreListable, IsPlace, IsStartOf}
use Rattle.yr_automaton.specs.declared.listing.Place.{Place}
use Rattle.yr_automaton.proofs.ListLemmas.{get_some}
use Rattle.yr_automaton.proofs.RowLemmas.{no_node}

pub cancel : (f c : ℕ) → f + c - f ≡ c
cancel f c = omega arith

module _ (nodes : List NodeRow) (outputs : List ℕ) (listable : AreListable nodes outputs) where
  pub link_below : (n : ℕ) → n < length nodes → n ≢ 0 → link_of nodes n < n
  link_below n lt other =
      let at = get_some nodes n no_node lt in
      omega (arith, ap (λ o. option_map_or (λ (r : NodeRow). r.failure) o 0) at, listable.below n (get_or nodes n no_node) at other)

  after_zero : (k : ℕ) → after nodes outputs k 0 ≡ []
  after_zero zero = refl
  after_zero (suc k) = refl

  pub after_more : (k n : ℕ) → n ≢ 0 → after nodes outputs (suc k) n ≡ own_of nodes outputs (link_of nodes n) ++ after nodes outputs k (link_of nodes n)
  after_more k n other = go (n == 0) (grind (arith, nat_tests, other)) where
    go : (t : Bool) → t ≡ false → cond t [] (own_of nodes outputs (link_of nodes n) ++ after nodes outputs k (link_of nodes n)) ≡ own_of nodes outputs (link_of nodes n) ++ after nodes outputs k (link_of nodes n)
    go true e = absurd (cc e)
    go false e = refl

  -- how far the links may lead does not matter, from the node's number on
  pub after_enough : (k j n : ℕ) → n < length nodes → n ≤ k → n ≤ j → after nodes outputs k n ≡ after nodes outputs j n
  after_enough k j zero lt a b = after_zero k ∙ sym (after_zero j)
  after_enough zero j (suc n) lt a b = absurd (omega (arith, a))
  after_enough (suc k) zero (suc n) lt a b = absurd (omega (arith, b))
  after_enough (suc k) (suc j) (suc n) lt a b =
      let other : suc n ≢ 0 = omega arith in
      let below = link_below (suc n) lt other in
      after_more k (suc n) other ∙ ap (λ l. own_of nodes outputs (link_of nodes (suc n)) ++ l) (after_enough k j (link_of nodes (suc n)) (omega (arith, below, lt)) (omega (arith, below, a)) (omega (arith, below, b))) ∙ sym (after_more j (suc n) other)

  pub all_outputs : (k n : ℕ) → n < length nodes → n ≤ k → AreOutputs (link_of nodes) (own_of nodes outputs) n (own_of nodes outputs n ++ after nodes outputs k n)
  all_outputs k zero lt le = (0 ∷ [], (refl, inl (refl, refl)), ap (λ l. own_of nodes outputs 0 ++ l) (after_zero k))
  all_outputs zero (suc n) lt le = absurd (omega (arith, le))
  all_outputs (suc k) (suc n) lt le =
      let other : suc n ≢ 0 = omega arith in
      let below = link_below (suc n) lt other in
      let r = all_outputs k (link_of nodes (suc n)) (omega (arith, below, lt)) (omega (arith, below, le)) in
      (suc n ∷ r.0, (refl, inr (other, r.1)), ap (λ l. own_of nodes outputs (suc n) ++ l) (after_more k (suc n) other ∙ r.2))

  -- one link on
  pub left_link : (n place end : ℕ) → n < length nodes → n ≢ 0 → end ≤ place → (up : NodeRow) → slice_get nodes (link_of nodes n) ≡ Some up
      → left_of nodes outputs n place end ≡ left_of nodes outputs (link_of nodes n) up.first_output (up.first_output + up.outputs)
  left_link zero place end lt other done up at = absurd (other refl)
  left_link (suc n) place end lt other done up at =
      let m = link_of nodes (suc n) in
      let below = link_below (suc n) lt other in
      let none : take (end - place) (drop place outputs) ≡ [] = ap (λ i. take i (drop place outputs)) (zero_left end place done) in
      let own : own_of nodes outputs m ≡ take (up.first_output + up.outputs - up.first_output) (drop up.first_output outputs) =
      ap (λ o. option_map_or (λ (r : NodeRow). take r.outputs (drop r.first_output outputs)) o []) at ∙ ap (λ i. take i (drop up.first_output outputs)) (sym (cancel up.first_output up.outputs)) in
      ap (λ l. l ++ after nodes outputs (suc n) (suc n)) none ∙ after_more n (suc n) other ∙ ap (λ l. l ++ after nodes outputs n m) own
      ∙ ap (λ l. take (up.first_output + up.outputs - up.first_output) (drop up.first_output outputs) ++ l) (after_enough n m m (omega (arith, below, lt)) (omega (arith, below)) (omega arith)) where
        zero_left : (e p : ℕ) → e ≤ p → e - p ≡ 0
        zero_left e p le = omega arith

  pub left_one : (n place end : ℕ) → place < end → end ≤ length outputs → left_of nodes outputs n place end ≡ get_or outputs place 0 ∷ left_of nodes outputs n (place + 1) end
  left_one n place end lt le =
      let cut : drop place outputs ≡ get_or outputs place 0 ∷ drop (suc place) outputs = drop-cons outputs place 0 (omega (arith, lt, le)) in
      let more : end - place ≡ suc (end - (place + 1)) = omega arith in
      let next : suc place ≡ place + 1 = omega arith in
      ap (λ l. l ++ after nodes outputs n n) (ap (λ i. take i (drop place outputs)) more ∙ ap (take (suc (end - (place + 1)))) cut ∙ ap (λ i. get_or outputs place 0 ∷ take (end - (place + 1)) (drop i outputs)) next)

  pub left_none : (place end : ℕ) → end ≤ place → left_of nodes outputs 0 place end ≡ []
  left_none place end done = let e : end - place ≡ 0 = omega arith in ap (λ i. take i (drop place outputs) ++ after nodes outputs 0 0) e

  -- where a listing begins
  pub start : (node : ℕ) (place : Place) → node < length nodes → IsStartOf nodes node place
      → IsPlace nodes outputs place × AreOutputs (link_of nodes) (own_of nodes outputs) node (left_of nodes outputs place.node place.next place.end)
  start node place lt begin =
      let row = get_or nodes node no_node in
      let at = get_some nodes node no_node lt in
      let next = begin.next row at in
      let end = begin.end row at in
      let inside = listable.inside node row at in
      let here : own_of nodes outputs node ≡ take (place.end - place.next) (drop place.next outputs) =
      ap (λ o. option_map_or (λ (r : NodeRow). take r.outputs (drop r.first_output outputs)) o []) at
      ∙ ap (λ i. take i (drop row.first_output outputs)) (omega (arith, next, end))
      ∙ ap (λ i. take (place.end - place.next) (drop i outputs)) (sym next) in
      let all = all_outputs node node lt (omega arith) in (
        record { node_in = omega (arith, begin.at, lt); range = omega (arith, next, end); end_in = omega (arith, end, inside) },
        subst (λ n. AreOutputs (link_of nodes) (own_of nodes outputs) node (take (place.end - place.next) (drop place.next outputs) ++ after nodes outputs n n)) (sym begin.at)
            (subst (λ l. AreOutputs (link_of nodes) (own_of nodes outputs) node (l ++ after nodes outputs node node)) here all),
      )

  -- where it goes on along a link
  pub follow : (place up : Place) → IsPlace nodes outputs place → place.node ≢ 0 → place.end ≤ place.next → IsStartOf nodes (link_of nodes place.node) up
      → IsPlace nodes outputs up × (left_of nodes outputs place.node place.next place.end ≡ left_of nodes outputs up.node up.next up.end)
  follow place up is other done begin =
      let below = link_below place.node is.node_in other in
      let lt : link_of nodes place.node < length nodes = omega (arith, below, is.node_in) in
      let row = get_or nodes (link_of nodes place.node) no_node in
      let at = get_some nodes (link_of nodes place.node) no_node lt in
      let next = begin.next row at in
      let end = begin.end row at in
      let inside = listable.inside (link_of nodes place.node) row at in (
        record { node_in = omega (arith, begin.at, lt); range = omega (arith, next, end); end_in = omega (arith, end, inside) },
        left_link place.node place.next place.end is.node_in other done row at
            ∙ ap (λ n. left_of nodes outputs n row.first_output (row.first_output + row.outputs)) (sym begin.at)
            ∙ ap (λ i. left_of nodes outputs up.node i (row.first_output + row.outputs)) (sym next)
            ∙ ap (λ i. left_of nodes outputs up.node up.next i) (sym end),
      )
