-- The walk, and what it passes.
use Rattle.std.proofs.Common.{◌≡◌, ℕ, zero, suc, ◌+◌, ◌<◌, ◌≤◌, ◌==◌, ◌&&◌, ◌⊎◌, inl, inr, Bool, true, false, cond, List, [], ◌∷◌, ◌++◌, length, take, Option, Some, refl, sym, ap, ◌∙◌, subst, arith, length-append}
use Rattle.std.specs.Prelude.{slice_get, nat_le, nat_lt}
use Rattle.std.specs.Option.{option_map_or, option_and_then}
use Rattle.std.proofs.lemmas.Bool.{ltb-true, leb-true}
use Rattle.yr_rows.specs.declared.nodes.NodeRow.{NodeRow}
use Rattle.yr_rows.specs.declared.nodes.EdgeRow.{EdgeRow}
use Rattle.yr_rows.specs.Walk.{Asks, Walks}
use Rattle.yr_rows.specs.Nodes.{edge_of, link_of, edges_at, target_in, AreWellformed, IsEdge}
use Rattle.yr_image.specs.declared.fault.ImageFault.TheVariants.{Index}
use Rattle.yr_image.specs.Image.{Image}
use Rattle.yr_image.specs.Reading.{image_in}
use Rattle.yr_machine.specs.Rows.{is_good_edge}
use Rattle.yr_machine.specs.Wellformed.{IsWellformed}
use Rattle.yr_search.specs.State.{State}
use Rattle.yr_search.specs.Taking.{TakesAll}
use Rattle.yr_search.specs.Uppers.{upper, depth_of, LeadsFrom0}
use Rattle.yr_search.specs.Walked.{IsUpperAfter, AreFronts, Stands, total, Walked}
use Rattle.yr_hits.proofs.SideLemmas.{and_first, and_second}
use Rattle.yr_hits.proofs.HitLemmas.{there}
use Rattle.yr_search.proofs.NodeLemmas.{node_is, depth_is, link_is, link_falls}
use Rattle.yr_search.proofs.TakeLemmas.{fronts_more}

-- ---- one byte more

module _ (edge : ℕ → ℕ → Option ℕ) (link : ℕ → ℕ) where
  pub walks_more : (text : List ℕ) (n m b x k : ℕ) → Walks edge link n text m → Asks edge link k m b x → Walks edge link n (text ++ b ∷ []) x
  walks_more [] n m b x k same asks = (k, x, subst (λ y. Asks edge link k y b x) (sym same) asks, refl)
  walks_more (c ∷ text) n m b x k w asks = (w.0, w.1, w.2, walks_more text w.1 m b x k w.3 asks)

pub take_next : {A : Type 0} → (xs : List A) (n : ℕ) (x : A) → slice_get xs n ≡ Some x → take (n + 1) xs ≡ take n xs ++ (x ∷ [])
take_next [] zero x e = cc
take_next [] (suc n) x e = cc
take_next (y ∷ xs) zero x e = let same : y ≡ x = cc in ap (λ z. z ∷ []) same
take_next (y ∷ xs) (suc n) x e =
    let one : suc n + 1 ≡ suc (n + 1) = omega arith in
    ap (λ k. take k (y ∷ xs)) one ∙ ap (λ zs. y ∷ zs) (take_next xs n x e)

-- ---- the rows of an image's automaton are wellformed

module _ (bytes : List ℕ) (wellformed : IsWellformed bytes) where
  edge_is_good : (k : ℕ) (row : EdgeRow) → slice_get (image_in bytes).edges k ≡ Some row → IsEdge (image_in bytes).nodes row
  edge_is_good k row at =
      let test : EdgeRow → Bool = is_good_edge (image_in bytes) in
      let passes : option_map_or test (slice_get (image_in bytes).edges k) true ≡ true = wellformed (Index 9 k) in
      let good : (nat_le row.byte 255 && nat_lt row.target (length (image_in bytes).nodes)) ≡ true = subst (λ o. option_map_or test o true ≡ true) at passes in
      let byte = leb-true row.byte 255 (and_first (nat_le row.byte 255) (nat_lt row.target (length (image_in bytes).nodes)) good) in
      (omega (arith, byte), ltb-true row.target (length (image_in bytes).nodes) (and_second (nat_le row.byte 255) (nat_lt row.target (length (image_in bytes).nodes)) good))

  pub rows_are_wellformed : AreWellformed (image_in bytes).nodes (image_in bytes).edges (image_in bytes).outputs
  rows_are_wellformed = record {
    each_node = λ n row at. (node_is bytes wellformed n row at).wellformed;
    each_edge = λ k row at. edge_is_good k row at;
  }

  -- the target of an edge is one deeper, and there
  target_deeper : (es : List EdgeRow) (b x depth : ℕ)
      → ((k : ℕ) (e : EdgeRow) → slice_get es k ≡ Some e → (to : NodeRow) → slice_get (image_in bytes).nodes e.target ≡ Some to → to.depth ≡ depth)
      → target_in es b ≡ Some x → (to : NodeRow) → slice_get (image_in bytes).nodes x ≡ Some to → to.depth ≡ depth
  target_deeper [] b x depth deeper found to at = cc
  target_deeper (e ∷ es) b x depth deeper found to at =
      elim (e.byte == b) as (λ t. (e.byte == b ≡ t) → cond t (Some e.target) (target_in es b) ≡ Some x → to.depth ≡ depth) [
        | true ↦ λ t f. let same : e.target ≡ x = cc in deeper 0 e refl to (subst (λ n. slice_get (image_in bytes).nodes n ≡ Some to) (sym same) at)
        | false ↦ λ t f. target_deeper es b x depth (λ k e' is. deeper (suc k) e' is) f to at
      ] refl found

  pub edge_deeper : (n b x : ℕ) → n < length (image_in bytes).nodes → edge_of (image_in bytes).nodes (image_in bytes).edges n b ≡ Some x
      → x < length (image_in bytes).nodes → depth_of (image_in bytes) x ≡ depth_of (image_in bytes) n + 1
  edge_deeper n b x lt found inside =
      let row = there (image_in bytes).nodes n lt in
      let to = there (image_in bytes).nodes x inside in
      let here : target_in (edges_at (image_in bytes).edges row.0) b ≡ Some x =
      sym (ap (λ o. option_and_then (λ (r : NodeRow). target_in (edges_at (image_in bytes).edges r) b) o) row.1) ∙ found in
      let deeper = target_deeper (edges_at (image_in bytes).edges row.0) b x (row.0.depth + 1) (λ k e is. (node_is bytes wellformed n row.0 row.1).wellformed.deeper k e is) here to.0 to.1 in
      depth_is bytes wellformed x to.0 to.1 ∙ deeper ∙ ap (λ d. d + 1) (sym (depth_is bytes wellformed n row.0 row.1))

  pub root_depth : (lt : 0 < length (image_in bytes).nodes) → depth_of (image_in bytes) 0 ≡ 0
  root_depth lt =
      let row = there (image_in bytes).nodes 0 lt in
      depth_is bytes wellformed 0 row.0 row.1 ∙ ((node_is bytes wellformed 0 row.0 row.1).wellformed.root refl).0

  -- a byte leads at most one deeper
  pub asks_depth : (k n b x : ℕ) → n < length (image_in bytes).nodes → x < length (image_in bytes).nodes
      → Asks (edge_of (image_in bytes).nodes (image_in bytes).edges) (link_of (image_in bytes).nodes) k n b x → depth_of (image_in bytes) x ≤ depth_of (image_in bytes) n + 1
  asks_depth zero n b x lt inside asks = absurd asks
  asks_depth (suc k) n b x lt inside (inl h) = omega (arith, edge_deeper n b x lt h.1 inside)
  asks_depth (suc k) n b x lt inside (inr (inl h)) =
      let some : 0 < length (image_in bytes).nodes = omega (arith, lt) in
      let zero_depth : depth_of (image_in bytes) x ≡ 0 = ap (depth_of (image_in bytes)) h.3 ∙ root_depth some in
      omega (arith, zero_depth)
  asks_depth (suc k) n b x lt inside (inr (inr h)) =
      let row = there (image_in bytes).nodes n lt in
      let falls = link_falls bytes wellformed n row.0 row.1 h.1 in
      let same = link_is bytes wellformed n row.0 row.1 in
      let rest = asks_depth k (link_of (image_in bytes).nodes n) b x (omega (arith, falls.1, same)) inside h.2 in
      let deep : depth_of (image_in bytes) (link_of (image_in bytes).nodes n) ≡ depth_of (image_in bytes) row.0.failure = ap (depth_of (image_in bytes)) same in
      omega (arith, rest, falls.2, deep)

  -- ---- where the walk stands

  pub stands_first : (file : List ℕ) → 0 < length (image_in bytes).nodes → Stands (image_in bytes) file 0 0
  stands_first file lt = record { real = 0; leads = refl; inside = lt; like = inl refl }

  -- a step from where the walk stands leads where it leads from the walk's own node
  pub stands_step : (file : List ℕ) (p node b x k : ℕ) → Stands (image_in bytes) file p node → slice_get file p ≡ Some b → x < length (image_in bytes).nodes
      → Asks (edge_of (image_in bytes).nodes (image_in bytes).edges) (link_of (image_in bytes).nodes) k node b x
      → LeadsFrom0 (image_in bytes) (take (p + 1) file) x
  stands_step file p node b x k stands at inside asks =
      let edge = edge_of (image_in bytes).nodes (image_in bytes).edges in
      let link = link_of (image_in bytes).nodes in
      let next = take_next file p b at in
      let W : List ℕ → Type 0 = λ text. Walks edge link 0 text x in
      elim stands.like [
        | inl same ↦
            subst W (sym next) (walks_more edge link (take p file) 0 stands.real b x k stands.leads (subst (λ n. Asks edge link k n b x) (sym same) asks))
        | inr far ↦
            let from0 : Asks edge link k (link stands.real) b x = subst (λ n. Asks edge link k n b x) (far.0 ∙ sym far.2) asks in
            subst W (sym next) (walks_more edge link (take p file) 0 stands.real b x (suc k) stands.leads (inr (inr (far.3 b at, far.1, from0))))
      ]

  pub stands_at : (file : List ℕ) (p x : ℕ) → LeadsFrom0 (image_in bytes) (take p file) x → x < length (image_in bytes).nodes → Stands (image_in bytes) file p x
  stands_at file p x leads inside = record { real = x; leads = leads; inside = inside; like = inl refl }

-- ---- the fronts that are done

module _ (image : Image) (file : List ℕ) where
  pub fronts_first : 0 < length image.nodes → AreFronts image file 0 ([] ∷ [])
  fronts_first lt = record {
    count = refl;
    each = first;
  }
    where
      first : (k : ℕ) (outputs : List ℕ) → slice_get ([] ∷ []) k ≡ Some outputs → IsUpperAfter image (take k file) outputs
      first zero outputs e = (0, refl, lt, cc)
      first (suc zero) outputs e = cc
      first (suc (suc k)) outputs e = cc

  push_get : {X : Type 0} (xs : List X) (x : X) (k : ℕ) (y : X) → slice_get (xs ++ x ∷ []) k ≡ Some y → (slice_get xs k ≡ Some y) ⊎ ((k ≡ length xs) × (x ≡ y))
  push_get [] x zero y e = inr (refl, cc)
  push_get [] x (suc zero) y e = cc
  push_get [] x (suc (suc k)) y e = cc
  push_get (z ∷ zs) x zero y e = inl e
  push_get (z ∷ zs) x (suc k) y e = elim (push_get zs x k y e) [ inl h ↦ inl h | inr h ↦ inr (ap suc h.0, h.1) ]

  pub fronts_next : (p : ℕ) (fronts : List (List ℕ)) (x : ℕ) → AreFronts image file p fronts → LeadsFrom0 image (take (p + 1) file) x → x < length image.nodes
      → AreFronts image file (p + 1) (fronts ++ upper image x ∷ [])
  fronts_next p fronts x are leads inside = record {
    count = let long = length-append fronts (upper image x ∷ []) in omega (arith, long, are.count);
    each = λ k outputs e. elim (push_get fronts (upper image x) k outputs e) [
      | inl h ↦ are.each k outputs h
      | inr h ↦
          let here : k ≡ p + 1 = omega (arith, h.0, are.count) in
          (x, subst (λ n. LeadsFrom0 image (take n file) x) (sym here) leads, inside, sym h.1)
    ];
  }

  pub total_more : (fronts : List (List ℕ)) (outputs : List ℕ) → total (fronts ++ outputs ∷ []) ≡ total fronts + length outputs
  total_more [] outputs = omega arith
  total_more (f ∷ fs) outputs = let rest = total_more fs outputs in omega (arith, rest)

  pub walked_first : (state : State) → 0 < length image.nodes → Walked image file 0 state state 0
  walked_first state lt = record { fronts = [] ∷ []; are = fronts_first lt; takes = (state, refl, refl); counted = refl }

  pub walked_next : (p x : ℕ) (old mid new : State) (count : ℕ) → Walked image file p old mid count → LeadsFrom0 image (take (p + 1) file) x → x < length image.nodes
      → TakesAll image file (p + 1) (upper image x) mid new → Walked image file (p + 1) old new (count + length (upper image x))
  walked_next p x old mid new count w leads inside takes = record {
    fronts = w.fronts ++ upper image x ∷ [];
    are = fronts_next p w.fronts x w.are leads inside;
    takes = fronts_more image file 0 w.fronts (upper image x) (p + 1) old mid new w.takes (omega (arith, w.are.count)) takes;
    counted = let more = total_more w.fronts (upper image x) in omega (arith, more, w.counted);
  }
