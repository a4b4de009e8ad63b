-- What a search may pass over, pairs of bytes at node 0 and nodes without outputs, and what it looks up.
use Rattle.std.specs.Prelude.{◌≡◌, ℕ, ◌+◌, ◌*◌, ◌<◌, ◌≤◌, Bool, false, List, [], length, Some, None, slice_get}
use Rattle.yr_rows.specs.Walk.{Asks}
use Rattle.yr_rows.specs.Nodes.{edge_of, link_of}
use Rattle.yr_image.specs.Image.{Image}
use Rattle.yr_search.specs.declared.skips.Skips.{Skips}
use Rattle.yr_search.specs.Uppers.{own, upper}

-- The pair of bytes is not live: where node 0 has an edge with the first, it leads to a node that has no outputs of its
-- own and no edge with the second.
abbrev pub IsPassed : Image → (b c : ℕ) → Type 0
IsPassed image b c = (x : ℕ) → edge_of image.nodes image.edges 0 b ≡ Some x
    → (x < length image.nodes) × (own image x ≡ []) × (edge_of image.nodes image.edges x c ≡ None)

-- the table says of pairs that they are not live only where they are not
pub record IsPairTable (image : Image) (table : List Bool) : Type 0 where
  pub long : length table ≡ 65536
  pub passed : (b c : ℕ) → c < 256 → slice_get table (b * 256 + c) ≡ Some false → IsPassed image b c

-- the flags say of nodes that they have no outputs but those of node 0 only where they have none
pub record AreFlags (image : Image) (flags : List Bool) : Type 0 where
  pub long : length flags ≡ length image.nodes
  pub none : (n : ℕ) → slice_get flags n ≡ Some false → upper image n ≡ []

-- a byte leads from node n to node x
abbrev pub LeadsOn : Image → (n b x : ℕ) → Type 0
LeadsOn image n b x = (k : ℕ) × Asks (edge_of image.nodes image.edges) (link_of image.nodes) k n b x × (x < length image.nodes)

-- the rows say where each byte leads from each of the first nodes, node 0 among them
pub record AreRows (image : Image) (rows : List ℕ) : Type 0 where
  pub root : 256 ≤ length rows
  pub leads : (n b x : ℕ) → b < 256 → slice_get rows (n * 256 + b) ≡ Some x → LeadsOn image n b x

pub record AreSkips (image : Image) (skips : Skips) : Type 0 where
  pub pairs : IsPairTable image skips.live.items
  pub flags : AreFlags image skips.flags.items
  pub rows : AreRows image skips.rows.items
