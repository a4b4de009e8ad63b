-- What a good scene says of its automaton, and how much there is of it.
use Rattle.std.proofs.Common.{◌≡◌, ℕ, zero, suc, ◌+◌, ◌-◌, ◌*◌, ◌<◌, ◌≤◌, List, [], ◌∷◌, length, Some, refl, sym, ap, ◌∙◌, subst, arith}
use Rattle.std.specs.Prelude.{slice_get}
use Rattle.std.proofs.Math.Nat.{mul-le-mul_left, mul-le-mul_right}
use Rattle.yr_rows.specs.Walk.{Asks}
use Rattle.yr_rows.specs.declared.nodes.NodeRow.{NodeRow}
use Rattle.yr_rows.specs.Nodes.{nodes_of, edges_of, outputs_of, edge_of, link_of, AreWellformed}
use Rattle.yr_rows.proofs.ByteLemmas.{node_count, output_count}
use Rattle.yr_rows.proofs.RowLemmas.{length-rows_in}
use Rattle.yr_automaton.specs.Rows.{AreWellformedRows, edge, link}
use Rattle.yr_automaton.specs.Rows as rows
use Rattle.yr_image.specs.Image.{Image}
use Rattle.yr_image.specs.Reading.{image_in, split_row}
use Rattle.yr_image.specs.Sections.{rows_of, bytes_of}
use Rattle.yr_image.specs.Views.{shown_bytes, image_of}
use Rattle.yr_machine.specs.Wellformed.{IsWellformed}
use Rattle.yr_machine.proofs.CallerLemmas.{has_sections}
use Rattle.yr_search.specs.State.{State}
use Rattle.yr_search.specs.declared.scene.Scene.{Scene}
use Rattle.yr_search.specs.Taking.{IsGoodScene, TakesAll, TakesFronts}
use Rattle.yr_search.specs.Uppers.{own, upper}
use Rattle.yr_search.specs.Walked.{repeated}
use Rattle.yr_hits.proofs.SectionLemmas.{section_bytes}
use Rattle.yr_search.proofs.NodeLemmas.{outputs_cost, costs_count}
use Rattle.yr_search.proofs.WalkLemmas.{rows_are_wellformed}

-- ---- how many rows an image has

pub some_nodes : (bytes : List ℕ) → IsWellformed bytes → 0 < length (image_in bytes).nodes
some_nodes bytes wellformed =
    let has = has_sections bytes wellformed in
    let some : 0 < rows_of bytes 8 = (has.sections 8 (omega arith)).nodes refl in
    let size = section_bytes bytes 8 has (omega arith) in
    omega (arith, some, size, node_count (bytes_of bytes 8))

pub few_outputs : (bytes : List ℕ) → IsWellformed bytes → length (image_in bytes).outputs < 1073741824
few_outputs bytes wellformed =
    let has = has_sections bytes wellformed in
    let size = section_bytes bytes 10 has (omega arith) in
    let inside = (has.sections 10 (omega arith)).inside in
    omega (arith, size, inside, has.whole.0, has.whole.1, output_count (bytes_of bytes 10))

pub few_upper : (bytes : List ℕ) → IsWellformed bytes → (n : ℕ) → n < length (image_in bytes).nodes → length (upper (image_in bytes) n) < 1073741824
few_upper bytes wellformed n lt =
    let cost = outputs_cost bytes wellformed (λ x. 1) n lt in
    omega (arith, cost, costs_count (upper (image_in bytes) n), costs_count (image_in bytes).outputs, few_outputs bytes wellformed)

pub few_own : (bytes : List ℕ) → IsWellformed bytes → length (own (image_in bytes) 0) < 1073741824
few_own bytes wellformed =
    let cost = outputs_cost bytes wellformed (λ x. 1) 0 (some_nodes bytes wellformed) in
    omega (arith, cost, costs_count (own (image_in bytes) 0), costs_count (image_in bytes).outputs, few_outputs bytes wellformed)

-- ---- the scene's automaton is the image's

module _ (scene : Scene) (good : IsGoodScene scene) where
  pub scene_rows : AreWellformedRows scene.automaton
  scene_rows =
      let image = image_of scene.view.now in
      subst (λ ns. AreWellformed ns (edges_of scene.automaton.edges.now) (outputs_of scene.automaton.outputs.now)) (sym good.nodes)
      (subst (λ es. AreWellformed image.nodes es (outputs_of scene.automaton.outputs.now)) (sym good.edges)
      (subst (λ os. AreWellformed image.nodes image.edges os) (sym good.outputs) (rows_are_wellformed (shown_bytes scene.view.now) good.wellformed)))

  pub scene_inside : (n : ℕ) → n < length (image_of scene.view.now).nodes → n < rows.node_count scene.automaton
  scene_inside n lt = omega (arith, lt, ap length good.nodes)

  pub image_inside : (n : ℕ) → n < rows.node_count scene.automaton → n < length (image_of scene.view.now).nodes
  image_inside n lt = omega (arith, lt, ap length good.nodes)

  pub scene_asks : (k n b x : ℕ) → Asks (edge scene.automaton) (link scene.automaton) k n b x
      → Asks (edge_of (image_of scene.view.now).nodes (image_of scene.view.now).edges) (link_of (image_of scene.view.now).nodes) k n b x
  scene_asks k n b x asks =
      subst (λ ns. Asks (edge_of ns (image_of scene.view.now).edges) (link_of ns) k n b x) good.nodes
      (subst (λ es. Asks (edge_of (nodes_of scene.automaton.nodes.now) es) (link_of (nodes_of scene.automaton.nodes.now)) k n b x) good.edges asks)

  pub scene_node : (n : ℕ) (row : NodeRow) → slice_get (nodes_of scene.automaton.nodes.now) n ≡ Some row → slice_get (image_of scene.view.now).nodes n ≡ Some row
  scene_node n row at = subst (λ ns. slice_get ns n ≡ Some row) good.nodes at

-- ---- fronts without outputs

pub nothing_taken : (image : Image) (file : List ℕ) (e n : ℕ) (outputs : List ℕ) (state : State) → outputs ≡ []
    → TakesFronts image file e (repeated n outputs) state state
nothing_taken image file e zero outputs state none = refl
nothing_taken image file e (suc n) outputs state none =
    (state, subst (λ o. TakesAll image file e o state state) (sym none) refl, nothing_taken image file (e + 1) n outputs state none)

pub repeated_next : (n at : ℕ) (outputs : List ℕ) → at < n → repeated (n - at) outputs ≡ outputs ∷ repeated (n - (at + 1)) outputs
repeated_next n at outputs lt =
    let one : n - at ≡ suc (n - (at + 1)) = omega (arith, lt) in ap (λ k. repeated k outputs) one

pub repeated_done : (n at : ℕ) (outputs : List ℕ) → n ≤ at → repeated (n - at) outputs ≡ []
repeated_done n at outputs le = let none : n - at ≡ 0 = omega (arith, le) in ap (λ k. repeated k outputs) none

pub times_more : (a x : ℕ) → (a + 1) * x ≡ a * x + x
times_more a x = omega arith

pub times_bound : (a b x : ℕ) → a ≤ b → a * x ≤ b * x
times_bound a b x le = mul-le-mul_right x le

-- what one byte costs beside the outputs of node 0
pub paid_front : (at root front mine before now stepped last : ℕ) → now + at * root ≤ before + 5 * at + at * front → stepped ≤ now + 5 → last ≤ stepped + mine → mine + root ≤ front
    → last + (at + 1) * root ≤ before + 5 * (at + 1) + (at + 1) * front
paid_front at root front mine before now stepped last paid step taken share =
    let a = times_more at root in
    let b = times_more at front in
    omega (arith, paid, step, taken, share, a, b)

-- the same, up to the file's end
pub paid_to_end : (at n root front mine before now stepped last : ℕ) → now + at * root ≤ before + 5 * at + at * front → stepped ≤ now + 5 → last ≤ stepped + mine → mine + root ≤ front → at < n
    → last + n * root ≤ before + 5 * n + n * front
paid_to_end at n root front mine before now stepped last paid step taken share lt =
    let here = paid_front at root front mine before now stepped last paid step taken share in
    let parts : (at + 1) + (n - (at + 1)) ≡ n = omega (arith, lt) in
    let rest = n - (at + 1) in
    let bound : rest * root ≤ rest * front = mul-le-mul_left rest (omega (arith, share)) in
    let a : n * root ≡ (at + 1) * root + rest * root = ap (λ k. k * root) (sym parts) ∙ add_times (at + 1) rest root in
    let b : n * front ≡ (at + 1) * front + rest * front = ap (λ k. k * front) (sym parts) ∙ add_times (at + 1) rest front in
    omega (arith, here, bound, a, b, lt)
  where
    add_times : (a b x : ℕ) → (a + b) * x ≡ a * x + b * x
    add_times a b x = omega arith

pub node_rows : (bytes : List ℕ) → IsWellformed bytes → length (image_in bytes).nodes ≡ rows_of bytes 8
node_rows bytes wellformed =
    let size = section_bytes bytes 8 (has_sections bytes wellformed) (omega arith) in
    omega (arith, size, node_count (bytes_of bytes 8))

pub split_rows : (bytes : List ℕ) → IsWellformed bytes → length (image_in bytes).splits ≡ rows_of bytes 4
split_rows bytes wellformed =
    let size = section_bytes bytes 4 (has_sections bytes wellformed) (omega arith) in
    omega (arith, size, length-rows_in 32 split_row (bytes_of bytes 4))

pub few_splits : (bytes : List ℕ) → IsWellformed bytes → length (image_in bytes).splits < 134217728
few_splits bytes wellformed =
    let has = has_sections bytes wellformed in
    let size = section_bytes bytes 4 has (omega arith) in
    let inside = (has.sections 4 (omega arith)).inside in
    omega (arith, size, inside, has.whole.0, has.whole.1, split_rows bytes wellformed)
