-- How far a search has come: the hits of the fronts that are done, and where it stands.
use Rattle.std.specs.Prelude.{◌≡◌, ◌≢◌, ℕ, zero, suc, ◌+◌, ◌<◌, ◌⊎◌, List, [], ◌∷◌, length, take, Some, None, slice_get}
use Rattle.yr_rows.specs.Nodes.{edge_of, link_of}
use Rattle.yr_image.specs.Image.{Image}
use Rattle.yr_machine.specs.Budget.{output_cost}
use Rattle.yr_search.specs.State.{State}
use Rattle.yr_search.specs.Taking.{TakesFronts}
use Rattle.yr_search.specs.Uppers.{own, upper, costs, LeadsFrom0}

-- these are the outputs after the text but for those of node 0
abbrev pub IsUpperAfter : Image → List ℕ → List ℕ → Type 0
IsUpperAfter image text outputs = (n : ℕ) × LeadsFrom0 image text n × (n < length image.nodes) × (outputs ≡ upper image n)

-- a front for each place up to p, each with its outputs
pub record AreFronts (image : Image) (file : List ℕ) (p : ℕ) (fronts : List (List ℕ)) : Type 0 where
  pub count : length fronts ≡ p + 1
  pub each : (k : ℕ) (outputs : List ℕ) → slice_get fronts k ≡ Some outputs → IsUpperAfter image (take k file) outputs

-- At place p the search stands at a node that does for the node of the walk: it is that node, or it is node 0, and the
-- node of the walk has no edge with the byte that stands at p and has node 0 as its failure node.
pub record Stands (image : Image) (file : List ℕ) (p node : ℕ) : Type 0 where
  pub real : ℕ
  pub leads : LeadsFrom0 image (take p file) real
  pub inside : real < length image.nodes
  pub like : (real ≡ node) ⊎ ((node ≡ 0) × (real ≢ 0) × (link_of image.nodes real ≡ 0)
      × ((b : ℕ) → slice_get file p ≡ Some b → edge_of image.nodes image.edges real b ≡ None))

-- how many outputs there are in all
abbrev pub total : List (List ℕ) → ℕ
total [] = 0
total (outputs ∷ fronts) = length outputs + total fronts

-- the hits of the fronts up to p are taken, but for those of node 0
pub record Walked (image : Image) (file : List ℕ) (p : ℕ) (old new : State) (count : ℕ) : Type 0 where
  pub fronts : List (List ℕ)
  pub are : AreFronts image file p fronts
  pub takes : TakesFronts image file 0 fronts old new
  pub counted : count ≡ total fronts

-- the same list, so many times
abbrev pub repeated : {X : Type 0} → ℕ → X → List X
repeated zero x = []
repeated (suc n) x = x ∷ repeated n x

-- the hits of the outputs of node 0, which each front has
abbrev pub root_fronts : Image → List ℕ → List (List ℕ)
root_fronts image file = repeated (length file + 1) (own image 0)

-- what a byte costs at most beside the outputs of node 0
abbrev pub front_cost : Image → (n : ℕ) → ℕ
front_cost image n = costs (output_cost image n) image.outputs
