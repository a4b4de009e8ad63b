-- Nodes of an image's automaton, and the outputs there.
use Rattle.std.proofs.Common.{◌≡◌, ◌≢◌, ℕ, zero, suc, ◌+◌, ◌-◌, ◌<◌, ◌≤◌, ◌==◌, inl, inr, Bool, true, false, cond, List, [], ◌∷◌, ◌++◌, length, take, drop, get_or, Some, append_assoc, append-nil, refl, sym, ap, ◌∙◌, subst, arith}
use Rattle.std.specs.Prelude.{slice_get}
use Rattle.std.specs.Option.{option_map_or}
use Rattle.std.proofs.Math.Seq.{drop-cons}
use Rattle.std.proofs.lemmas.List.{length-drop, length-take-le, nil_from_length}
use Rattle.std.proofs.lemmas.Option.{get_or_from_slice_get, slice_get_within}
use Rattle.std.proofs.lemmas.Bool.{cases_lt}
use Rattle.std.proofs.lemmas.Bool.Decides.{nat_tests}
use Rattle.yr_rows.specs.declared.nodes.NodeRow.{NodeRow}
use Rattle.yr_rows.specs.Walk.{AreOutputs}
use Rattle.yr_rows.specs.Nodes.{link_of, own_of, outputs_end}
use Rattle.yr_automaton.proofs.SearchLemmas.{segment_put}
use Rattle.yr_image.specs.declared.fault.ImageFault.TheVariants.{Node}
use Rattle.yr_image.specs.declared.rows.SplitRow.{SplitRow}
use Rattle.yr_image.specs.Image.{Image}
use Rattle.yr_image.specs.Reading.{image_in}
use Rattle.yr_machine.specs.Wellformed.{IsWellformed}
use Rattle.yr_machine.specs.Automaton.{IsNode}
use Rattle.yr_hits.specs.Spans.{HasAtomWithin}
use Rattle.yr_search.specs.Uppers.{own, upper_by, upper, depth_of, costs}
use Rattle.yr_hits.proofs.HitLemmas.{there}

-- ---- what an image's nodes are

module _ (bytes : List ℕ) (wellformed : IsWellformed bytes) where
  pub node_is : (n : ℕ) (row : NodeRow) → slice_get (image_in bytes).nodes n ≡ Some row → IsNode (image_in bytes) n row
  node_is n row at = wellformed (Node n) row at

  -- where a node's own outputs stand
  pub own_is : (n : ℕ) (row : NodeRow) → slice_get (image_in bytes).nodes n ≡ Some row
      → own (image_in bytes) n ≡ take row.outputs (drop row.first_output (image_in bytes).outputs)
  own_is n row at = ap (λ o. option_map_or (λ (r : NodeRow). take r.outputs (drop r.first_output (image_in bytes).outputs)) o []) at

  pub depth_is : (n : ℕ) (row : NodeRow) → slice_get (image_in bytes).nodes n ≡ Some row → depth_of (image_in bytes) n ≡ row.depth
  depth_is n row at = ap (λ o. option_map_or (λ (r : NodeRow). r.depth) o 0) at

  pub link_is : (n : ℕ) (row : NodeRow) → slice_get (image_in bytes).nodes n ≡ Some row → link_of (image_in bytes).nodes n ≡ row.failure
  link_is n row at = ap (λ o. option_map_or (λ (r : NodeRow). r.failure) o 0) at

  pub outputs_inside : (n : ℕ) (row : NodeRow) → slice_get (image_in bytes).nodes n ≡ Some row → row.first_output + row.outputs ≤ length (image_in bytes).outputs
  outputs_inside n row at = (node_is n row at).wellformed.outputs_inside

  pub own_length : (n : ℕ) (row : NodeRow) → slice_get (image_in bytes).nodes n ≡ Some row → length (own (image_in bytes) n) ≡ row.outputs
  own_length n row at =
      let inside = outputs_inside n row at in
      let left = length-drop row.first_output (image_in bytes).outputs in
      ap length (own_is n row at) ∙ length-take-le row.outputs (drop row.first_output (image_in bytes).outputs) (omega (arith, inside, left))

  -- output k of a node
  pub own_at : (n : ℕ) (row : NodeRow) (k split : ℕ) → slice_get (image_in bytes).nodes n ≡ Some row → k < row.outputs
      → slice_get (image_in bytes).outputs (row.first_output + k) ≡ Some split → slice_get (own (image_in bytes) n) k ≡ Some split
  own_at n row k split at lt is =
      subst (λ l. slice_get l k ≡ Some split) (sym (own_is n row at)) (segment_put row.outputs row.first_output (image_in bytes).outputs k split lt is)

  pub own_next : (n : ℕ) (row : NodeRow) (k split : ℕ) → slice_get (image_in bytes).nodes n ≡ Some row → k < row.outputs
      → slice_get (image_in bytes).outputs (row.first_output + k) ≡ Some split
      → drop k (own (image_in bytes) n) ≡ split ∷ drop (k + 1) (own (image_in bytes) n)
  own_next n row k split at lt is =
      let all = own (image_in bytes) n in
      let here = own_at n row k split at lt is in
      let one : suc k ≡ k + 1 = omega arith in
      drop-cons all k split (omega (arith, slice_get_within all k split here))
      ∙ ap (λ x. x ∷ drop (suc k) all) (get_or_from_slice_get all k split split here) ∙ ap (λ m. split ∷ drop m all) one

  pub own_done : (n : ℕ) (row : NodeRow) (k : ℕ) → slice_get (image_in bytes).nodes n ≡ Some row → row.outputs ≤ k → drop k (own (image_in bytes) n) ≡ []
  own_done n row k at le =
      nil_from_length (drop k (own (image_in bytes) n)) (omega (arith, own_length n row at, length-drop k (own (image_in bytes) n), le))

  -- the atoms of a node's own outputs lie in a text that is as long as the node is deep
  pub own_atom : (n : ℕ) (row : NodeRow) (k split at : ℕ) → slice_get (image_in bytes).nodes n ≡ Some row → k < row.outputs
      → slice_get (image_in bytes).outputs (row.first_output + k) ≡ Some split → depth_of (image_in bytes) n ≤ at → HasAtomWithin (image_in bytes) at split
  own_atom n row k split at is lt out deep r s =
      let atoms = (node_is n row is).atoms in
      let here = segment_put row.outputs row.first_output (image_in bytes).outputs k split lt out in
      let list = take row.outputs (drop row.first_output (image_in bytes).outputs) in
      let value : get_or list k split ≡ split = get_or_from_slice_get list k split split here in
      let long : r.atom_length ≡ row.depth =
      (subst (λ x. (q : SplitRow) → slice_get (image_in bytes).splits x ≡ Some q → q.atom_length ≡ row.depth) value (atoms k split (slice_get_within list k split here))) r s in
      omega (arith, long, depth_is n row is, deep)

  -- ---- up the links

  pub link_falls : (n : ℕ) (row : NodeRow) → slice_get (image_in bytes).nodes n ≡ Some row → n ≢ 0
      → (row.failure < n) × (row.failure < length (image_in bytes).nodes) × (depth_of (image_in bytes) row.failure < depth_of (image_in bytes) n)
  link_falls n row at some =
      let good = (node_is n row at).wellformed in
      let below = good.below some in
      let within = slice_get_within (image_in bytes).nodes n row at in
      let inside : row.failure < length (image_in bytes).nodes = omega (arith, below, within) in
      let up = there (image_in bytes).nodes row.failure inside in
      let falls = good.falls some up.0 up.1 in
      (below, inside, omega (arith, falls, depth_is row.failure up.0 up.1, depth_is n row at))

-- ---- the upper outputs

module _ (image : Image) (falls : (n : ℕ) → n < length image.nodes → n ≢ 0 → link_of image.nodes n < n) where
  upper_zero : (k : ℕ) → upper_by image k 0 ≡ []
  upper_zero zero = refl
  upper_zero (suc k) = refl

  upper_more : (k n : ℕ) → n ≢ 0 → upper_by image (suc k) n ≡ own image n ++ upper_by image k (link_of image.nodes n)
  upper_more k n some = go (n == 0) (grind (arith, nat_tests, some)) where
    go : (t : Bool) → t ≡ false → cond t [] (own image n ++ upper_by image k (link_of image.nodes n)) ≡ own image n ++ upper_by image k (link_of image.nodes n)
    go true e = absurd (cc e)
    go false e = refl

  upper_enough : (k j n : ℕ) → n < length image.nodes → n ≤ k → n ≤ j → upper_by image k n ≡ upper_by image j n
  upper_enough k j zero lt a b = upper_zero k ∙ sym (upper_zero j)
  upper_enough zero j (suc n) lt a b = absurd (omega (arith, a))
  upper_enough (suc k) zero (suc n) lt a b = absurd (omega (arith, b))
  upper_enough (suc k) (suc j) (suc n) lt a b =
      let other : suc n ≢ 0 = omega arith in
      let below = falls (suc n) lt other in
      upper_more k (suc n) other
      ∙ ap (λ l. own image (suc n) ++ l) (upper_enough k j (link_of image.nodes (suc n)) (omega (arith, below, lt)) (omega (arith, below, a)) (omega (arith, below, b)))
      ∙ sym (upper_more j (suc n) other)

  -- the outputs of a node, and then those along its links
  pub upper_next : (n : ℕ) → n < length image.nodes → n ≢ 0 → upper image n ≡ own image n ++ upper image (link_of image.nodes n)
  upper_next zero lt some = absurd (some refl)
  upper_next (suc n) lt some =
      let below = falls (suc n) lt some in
      upper_more n (suc n) some
      ∙ ap (λ l. own image (suc n) ++ l) (upper_enough n (link_of image.nodes (suc n)) (link_of image.nodes (suc n)) (omega (arith, below, lt)) (omega (arith, below)) (omega arith))

  pub upper_root : upper image 0 ≡ []
  upper_root = refl

  outputs_by : (k n : ℕ) → n < length image.nodes → n ≤ k → AreOutputs (link_of image.nodes) (own_of image.nodes image.outputs) n (upper_by image k n ++ own image 0)
  outputs_by k zero lt le = (0 ∷ [], (refl, inl (refl, refl)), ap (λ l. l ++ own image 0) (upper_zero k) ∙ sym (append-nil (own image 0)))
  outputs_by zero (suc n) lt le = absurd (omega (arith, le))
  outputs_by (suc k) (suc n) lt le =
      let other : suc n ≢ 0 = omega arith in
      let below = falls (suc n) lt other in
      let r = outputs_by k (link_of image.nodes (suc n)) (omega (arith, below, lt)) (omega (arith, below, le)) in (
        suc n ∷ r.0,
        (refl, inr (other, r.1)),
        ap (λ l. l ++ own image 0) (upper_more k (suc n) other) ∙ append_assoc (own image (suc n)) (upper_by image k (link_of image.nodes (suc n))) (own image 0)
            ∙ ap (λ l. own image (suc n) ++ l) r.2,
      )

  -- all outputs at a node are the upper ones and those of node 0
  pub outputs_are : (n : ℕ) → n < length image.nodes → AreOutputs (link_of image.nodes) (own_of image.nodes image.outputs) n (upper image n ++ own image 0)
  outputs_are n lt = outputs_by n n lt (omega arith)

-- ---- costs

pub costs_append : (f : ℕ → ℕ) (xs ys : List ℕ) → costs f (xs ++ ys) ≡ costs f xs + costs f ys
costs_append f [] ys = omega arith
costs_append f (x ∷ xs) ys = let rest = costs_append f xs ys in omega (arith, rest)

-- ---- up the links of an image

module _ (bytes : List ℕ) (wellformed : IsWellformed bytes) where
  pub links_fall : (n : ℕ) → n < length (image_in bytes).nodes → n ≢ 0 → link_of (image_in bytes).nodes n < n
  links_fall n lt some =
      let row = there (image_in bytes).nodes n lt in
      let falls = link_falls bytes wellformed n row.0 row.1 some in
      omega (arith, falls.0, link_is bytes wellformed n row.0 row.1)

  pub upper_at : (n : ℕ) (row : NodeRow) → slice_get (image_in bytes).nodes n ≡ Some row → n ≢ 0
      → upper (image_in bytes) n ≡ own (image_in bytes) n ++ upper (image_in bytes) row.failure
  upper_at n row at some =
      upper_next (image_in bytes) links_fall n (slice_get_within (image_in bytes).nodes n row at) some
      ∙ ap (λ m. own (image_in bytes) n ++ upper (image_in bytes) m) (link_is bytes wellformed n row at)

  pub next_upper : (n : ℕ) → n < length (image_in bytes).nodes → n ≢ 0
      → (row : NodeRow) × ((slice_get (image_in bytes).nodes n ≡ Some row) × (upper (image_in bytes) n ≡ own (image_in bytes) n ++ upper (image_in bytes) row.failure))
  next_upper n lt some = let row = there (image_in bytes).nodes n lt in (row.0, (row.1, upper_at n row.0 row.1 some))

-- ---- all outputs at a node are among the rows, each once

take_plus : {X : Type 0} (a b : ℕ) (xs : List X) → take (a + b) xs ≡ take a xs ++ take b (drop a xs)
take_plus zero b xs = let same : 0 + b ≡ b = omega arith in ap (λ n. take n xs) same
take_plus (suc a) b [] = let same : suc a + b ≡ suc (a + b) = omega arith in ap (λ n. take n []) same ∙ sym (take_nil b)
  where
    take_nil : {X : Type 0} (n : ℕ) → take {A = X} n [] ≡ []
    take_nil zero = refl
    take_nil (suc n) = refl
take_plus (suc a) b (x ∷ xs) =
    let same : suc a + b ≡ suc (a + b) = omega arith in
    ap (λ n. take n (x ∷ xs)) same ∙ ap (λ l. x ∷ l) (take_plus a b xs)

costs_take : (f : ℕ → ℕ) (a b : ℕ) (xs : List ℕ) → a ≤ b → costs f (take a xs) ≤ costs f (take b xs)
costs_take f a b xs le =
    let parts : a + (b - a) ≡ b = omega (arith, le) in
    let whole = ap (λ n. costs f (take n xs)) (sym parts) ∙ ap (costs f) (take_plus a (b - a) xs) ∙ costs_append f (take a xs) (take (b - a) (drop a xs)) in
    omega (arith, whole)

costs_front : (f : ℕ → ℕ) (a : ℕ) (xs : List ℕ) → costs f (take a xs) ≤ costs f xs
costs_front f zero xs = omega arith
costs_front f (suc a) [] = omega arith
costs_front f (suc a) (x ∷ xs) = let rest = costs_front f a xs in omega (arith, rest)

module _ (bytes : List ℕ) (wellformed : IsWellformed bytes) (f : ℕ → ℕ) where
  end_is : (n : ℕ) (row : NodeRow) → slice_get (image_in bytes).nodes n ≡ Some row → (next : NodeRow) → slice_get (image_in bytes).nodes (suc n) ≡ Some next
      → next.first_output ≡ outputs_end row
  end_is n row at next there =
      (node_is bytes wellformed (suc n) next there).wellformed.outputs_follow ∙ ap (λ o. option_map_or outputs_end o 0) at

  -- the outputs of a node end where those of a later one begin, or before
  ends_rise : (n m : ℕ) (row up : NodeRow) → slice_get (image_in bytes).nodes n ≡ Some row → m < n → slice_get (image_in bytes).nodes m ≡ Some up
      → outputs_end up ≤ row.first_output
  ends_rise zero m row up at lt is = absurd (omega (arith, lt))
  ends_rise (suc n) m row up at lt is =
      let before = there (image_in bytes).nodes n (omega (arith, slice_get_within (image_in bytes).nodes (suc n) row at)) in
      let follows = end_is n before.0 before.1 row at in
      elim (cases_lt m n) [
        | inl less ↦ let rest = ends_rise n m before.0 up before.1 less is in omega (arith, rest, follows)
        | inr le ↦
            let here : m ≡ n = omega (arith, le, lt) in
            let same : Some up ≡ Some before.0 = sym is ∙ ap (slice_get (image_in bytes).nodes) here ∙ before.1 in
            let one : up ≡ before.0 = cc in
            let ends = ap outputs_end one in
            omega (arith, follows, ends)
      ]

  own_cost : (n : ℕ) (row : NodeRow) → slice_get (image_in bytes).nodes n ≡ Some row
      → costs f (take row.first_output (image_in bytes).outputs) + costs f (own (image_in bytes) n) ≡ costs f (take (outputs_end row) (image_in bytes).outputs)
  own_cost n row at =
      let all = (image_in bytes).outputs in
      let sum = costs_append f (take row.first_output all) (take row.outputs (drop row.first_output all)) in
      let cut = ap (costs f) (take_plus row.first_output row.outputs all) in
      let mine = ap (costs f) (own_is bytes wellformed n row at) in
      omega (arith, sum, cut, mine)

  chain_cost : (bound n : ℕ) (row : NodeRow) → n ≤ bound → slice_get (image_in bytes).nodes n ≡ Some row
      → costs f (upper (image_in bytes) n) + costs f (own (image_in bytes) 0) ≤ costs f (take (outputs_end row) (image_in bytes).outputs)
  chain_cost bound zero row le at = let mine = own_cost 0 row at in omega (arith, mine)
  chain_cost zero (suc n) row le at = absurd (omega (arith, le))
  chain_cost (suc bound) (suc n) row le at =
      let other : suc n ≢ 0 = omega arith in
      let falls = link_falls bytes wellformed (suc n) row at other in
      let up = there (image_in bytes).nodes row.failure falls.1 in
      let rest = chain_cost bound row.failure up.0 (omega (arith, falls.0, le)) up.1 in
      let ends = ends_rise (suc n) row.failure row up.0 at falls.0 up.1 in
      let more = costs_take f (outputs_end up.0) row.first_output (image_in bytes).outputs ends in
      let mine = own_cost (suc n) row at in
      let cut = ap (costs f) (upper_at bytes wellformed (suc n) row at other) ∙ costs_append f (own (image_in bytes) (suc n)) (upper (image_in bytes) row.failure) in
      omega (arith, rest, more, mine, cut)

  -- what the outputs at a node cost is no more than what all rows do
  pub outputs_cost : (n : ℕ) → n < length (image_in bytes).nodes
      → costs f (upper (image_in bytes) n) + costs f (own (image_in bytes) 0) ≤ costs f (image_in bytes).outputs
  outputs_cost n lt =
      let row = there (image_in bytes).nodes n lt in
      let chain = chain_cost n n row.0 (omega arith) row.1 in
      let front = costs_front f (outputs_end row.0) (image_in bytes).outputs in
      omega (arith, chain, front)

pub costs_count : (xs : List ℕ) → costs (λ x. 1) xs ≡ length xs
costs_count [] = refl
costs_count (x ∷ xs) = let rest = costs_count xs in omega (arith, rest)
