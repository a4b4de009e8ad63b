-- The outputs at a node of an image's automaton: those of node 0, which every front has, and the others.
use Rattle.std.specs.Prelude.{ℕ, zero, suc, ◌+◌, ◌==◌, if◌then◌else◌, List, [], ◌∷◌, ◌++◌, slice_get}
use Rattle.std.specs.Option.{option_map_or}
use Rattle.yr_rows.specs.Walk.{Walks}
use Rattle.yr_rows.specs.Nodes.{edge_of, link_of, own_of}
use Rattle.yr_rows.specs.declared.nodes.NodeRow.{NodeRow}
use Rattle.yr_image.specs.Image.{Image}

-- the outputs of a node itself
abbrev pub own : Image → ℕ → List ℕ
own image n = own_of image.nodes image.outputs n

-- the outputs of n and of the nodes along at most k failure links, without those of node 0
abbrev pub upper_by : Image → (k n : ℕ) → List ℕ
upper_by image zero n = []
upper_by image (suc k) n = if n == 0 then [] else (own image n ++ upper_by image k (link_of image.nodes n))

-- the outputs at n without those of node 0
abbrev pub upper : Image → ℕ → List ℕ
upper image n = upper_by image n n

abbrev pub depth_of : Image → ℕ → ℕ
depth_of image n = option_map_or (λ (row : NodeRow). row.depth) (slice_get image.nodes n) 0

-- the text leads from node 0 to n
abbrev pub LeadsFrom0 : Image → List ℕ → ℕ → Type 0
LeadsFrom0 image text n = Walks (edge_of image.nodes image.edges) (link_of image.nodes) 0 text n

-- what these cost together
abbrev pub costs : (ℕ → ℕ) → List ℕ → ℕ
costs f [] = 0
costs f (x ∷ xs) = f x + costs f xs
