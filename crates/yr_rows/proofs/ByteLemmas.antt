-- Rows that bytes hold.
use Rattle.std.proofs.Common.{◌≡◌, ℕ, ◌+◌, ◌*◌, ◌/◌, ◌<◌, ◌≤◌, List, map, length, Some, ap, ◌∙◌, arith}
use Rattle.std.specs.Prelude.{slice_get}
use Rattle.std.specs.List.{range_with_len}
use Rattle.std.proofs.lemmas.Option.{slice_get-get_or}
use Rattle.std.proofs.lemmas.List.FromFn.{length-map-range_with_len, get_or-map-range_with_len}
use Rattle.yr_rows.specs.Nodes.{node_in, edge_in, number_in, nodes_of, edges_of, outputs_of}

-- what a list that is made by places has at a place
pub row_at : {X : Type 0} (f : ℕ → X) (n k : ℕ) → k < n → slice_get (map f (range_with_len 0 n)) k ≡ Some (f k)
row_at f n k lt =
    slice_get-get_or (map f (range_with_len 0 n)) k (f k) (omega (arith, lt, length-map-range_with_len f 0 n))
    ∙ ap Some (get_or-map-range_with_len f 0 n k k (f k) lt (omega arith))

-- how many rows the bytes hold
pub node_count : (bytes : List ℕ) → length (nodes_of bytes) ≡ length bytes / 24
node_count bytes = length-map-range_with_len (node_in bytes) 0 (length bytes / 24)

pub edge_count : (bytes : List ℕ) → length (edges_of bytes) ≡ length bytes / 8
edge_count bytes = length-map-range_with_len (edge_in bytes) 0 (length bytes / 8)

pub output_count : (bytes : List ℕ) → length (outputs_of bytes) ≡ length bytes / 4
output_count bytes = length-map-range_with_len (number_in bytes) 0 (length bytes / 4)

-- a row lies within the bytes
pub node_room : (bytes : List ℕ) (n : ℕ) → n < length (nodes_of bytes) → 24 * n + 24 ≤ length bytes
node_room bytes n lt = omega (arith, lt, node_count bytes)

pub edge_room : (bytes : List ℕ) (k : ℕ) → k < length (edges_of bytes) → 8 * k + 8 ≤ length bytes
edge_room bytes k lt = omega (arith, lt, edge_count bytes)

pub output_room : (bytes : List ℕ) (k : ℕ) → k < length (outputs_of bytes) → 4 * k + 4 ≤ length bytes
output_room bytes k lt = omega (arith, lt, output_count bytes)

pub node_is : (bytes : List ℕ) (n : ℕ) → n < length (nodes_of bytes) → slice_get (nodes_of bytes) n ≡ Some (node_in bytes n)
node_is bytes n lt = row_at (node_in bytes) (length bytes / 24) n (omega (arith, lt, node_count bytes))

pub edge_is : (bytes : List ℕ) (k : ℕ) → k < length (edges_of bytes) → slice_get (edges_of bytes) k ≡ Some (edge_in bytes k)
edge_is bytes k lt = row_at (edge_in bytes) (length bytes / 8) k (omega (arith, lt, edge_count bytes))

pub output_is : (bytes : List ℕ) (k : ℕ) → k < length (outputs_of bytes) → slice_get (outputs_of bytes) k ≡ Some (number_in bytes k)
output_is bytes k lt = row_at (number_in bytes) (length bytes / 4) k (omega (arith, lt, output_count bytes))
