-- One more row at the end of bytes.
use Rattle.std.proofs.Common.{◌≡◌, ℕ, ◌+◌, ◌*◌, ◌/◌, ◌^◌, ◌<◌, ◌≤◌, List, [], ◌∷◌, ◌++◌, map, length, length-append, get_or, sym, ap, ◌∙◌, arith}
use Rattle.std.specs.List.{range_with_len}
use Rattle.std.specs.Int.{to_le_bytes, w32}
use Rattle.std.proofs.lemmas.List.{get_or_append_left, get_or-append-add}
use Rattle.std.proofs.lemmas.List.FromFn.{length-map-range_with_len, get_or-map-range_with_len, map-range_with_len_more, fill_by_all}
use Rattle.std.proofs.lemmas.Nat.{from_le_bytes-to_le_bytes_4}
use Rattle.yr_rows.specs.declared.nodes.NodeRow.{NodeRow}
use Rattle.yr_rows.specs.declared.nodes.EdgeRow.{EdgeRow}
use Rattle.yr_rows.specs.Nodes.{number_in, node_in, edge_in, nodes_of, edges_of, outputs_of, AreWhole}

-- what stands before the end stays
pub number_before : (bytes more : List ℕ) (k : ℕ) → 4 * k + 4 ≤ length bytes → number_in (bytes ++ more) k ≡ number_in bytes k
number_before bytes more k fits =
    let a = get_or_append_left bytes more 0 (4 * k) (omega (arith, fits)) in
    let b = get_or_append_left bytes more 0 (4 * k + 1) (omega (arith, fits)) in
    let c = get_or_append_left bytes more 0 (4 * k + 2) (omega (arith, fits)) in
    let d = get_or_append_left bytes more 0 (4 * k + 3) (omega (arith, fits)) in
    omega (arith, a, b, c, d)

-- the number at the end
pub number_last : (bytes : List ℕ) (x k : ℕ) → length bytes ≡ 4 * k → x < 2 ^ 32 → number_in (bytes ++ to_le_bytes w32 x) k ≡ x
number_last bytes x k whole small =
    let new = to_le_bytes w32 x in
    let at : (j : ℕ) → get_or (bytes ++ new) (4 * k + j) 0 ≡ get_or new j 0 = λ j. ap (λ i. get_or (bytes ++ new) (i + j) 0) (sym whole) ∙ get_or-append-add bytes new j 0 in
    let first : get_or (bytes ++ new) (4 * k) 0 ≡ get_or new 0 0 = ap (λ i. get_or (bytes ++ new) i 0) (omega arith) ∙ at 0 in
    let back = from_le_bytes-to_le_bytes_4 x small in
    omega (arith, first, at 1, at 2, at 3, back)

-- the numbers of bytes stand in longer ones too
pub record Keeps (bytes longer : List ℕ) : Type 0 where
  pub within : length bytes ≤ length longer
  pub numbers : (k : ℕ) → 4 * k + 4 ≤ length bytes → number_in longer k ≡ number_in bytes k

keeps_more : (bytes more : List ℕ) → Keeps bytes (bytes ++ more)
keeps_more bytes more = record { within = omega (arith, length-append bytes more); numbers = λ k fits. number_before bytes more k fits }

keeps_on : (a b more : List ℕ) → Keeps a b → Keeps a (b ++ more)
keeps_on a b more keeps = record {
  within = omega (arith, keeps.within, length-append b more);
  numbers = λ k fits. number_before b more k (omega (arith, fits, keeps.within)) ∙ keeps.numbers k fits;
}

-- four more bytes, of a number
longer : (bytes : List ℕ) (x : ℕ) → length (bytes ++ to_le_bytes w32 x) ≡ length bytes + 4
longer bytes x = length-append bytes (to_le_bytes w32 x)

-- one more row
rows_more : {X : Type 0} (f g : ℕ → X) (n m : ℕ) (x : X) → m ≡ n + 1 → ((k : ℕ) → k < n → g k ≡ f k) → g n ≡ x → map g (range_with_len 0 m) ≡ map f (range_with_len 0 n) ++ x ∷ []
rows_more f g n m x count same new =
    let front : map f (range_with_len 0 n) ≡ map g (range_with_len 0 n) = fill_by_all g (map f (range_with_len 0 n)) n x (length-map-range_with_len f 0 n) (λ k lt. get_or-map-range_with_len f 0 n k k x lt (omega arith) ∙ sym (same k lt)) in
    ap (λ i. map g (range_with_len 0 i)) count ∙ map-range_with_len_more g 0 n n (omega arith) ∙ ap (λ l. l ++ g n ∷ []) (sym front) ∙ ap (λ y. map f (range_with_len 0 n) ++ y ∷ []) new

abbrev node : ℕ → ℕ → ℕ → ℕ → ℕ → ℕ → NodeRow
node a b c d e f = record { first_edge = a; edges = b; failure = c; depth = d; first_output = e; outputs = f }

same_node : (r s : NodeRow) → r.first_edge ≡ s.first_edge → r.edges ≡ s.edges → r.failure ≡ s.failure → r.depth ≡ s.depth → r.first_output ≡ s.first_output → r.outputs ≡ s.outputs → r ≡ s
same_node r s a b c d e f =
    ap (λ x. node x r.edges r.failure r.depth r.first_output r.outputs) a
    ∙ ap (λ x. node s.first_edge x r.failure r.depth r.first_output r.outputs) b
    ∙ ap (λ x. node s.first_edge s.edges x r.depth r.first_output r.outputs) c
    ∙ ap (λ x. node s.first_edge s.edges s.failure x r.first_output r.outputs) d
    ∙ ap (λ x. node s.first_edge s.edges s.failure s.depth x r.outputs) e
    ∙ ap (λ x. node s.first_edge s.edges s.failure s.depth s.first_output x) f

kept_node : (bytes longer : List ℕ) (n : ℕ) → Keeps bytes longer → 24 * n + 24 ≤ length bytes → node_in longer n ≡ node_in bytes n
kept_node bytes longer n keeps fits = same_node (node_in longer n) (node_in bytes n)
    (keeps.numbers (6 * n) (omega (arith, fits))) (keeps.numbers (6 * n + 1) (omega (arith, fits))) (keeps.numbers (6 * n + 2) (omega (arith, fits)))
    (keeps.numbers (6 * n + 3) (omega (arith, fits))) (keeps.numbers (6 * n + 4) (omega (arith, fits))) (keeps.numbers (6 * n + 5) (omega (arith, fits)))

-- the numbers of a row are small
pub record IsSmallNode (row : NodeRow) : Type 0 where
  pub first_edge : row.first_edge < 2 ^ 32
  pub edges : row.edges < 2 ^ 32
  pub failure : row.failure < 2 ^ 32
  pub depth : row.depth < 2 ^ 32
  pub first_output : row.first_output < 2 ^ 32
  pub outputs : row.outputs < 2 ^ 32

-- the bytes with one more node
abbrev pub with_node : List ℕ → NodeRow → List ℕ
with_node bytes row = bytes ++ to_le_bytes w32 row.first_edge ++ to_le_bytes w32 row.edges ++ to_le_bytes w32 row.failure ++ to_le_bytes w32 row.depth ++ to_le_bytes w32 row.first_output ++ to_le_bytes w32 row.outputs

module _ (bytes : List ℕ) (row : NodeRow) (small : IsSmallNode row) (whole : AreWhole 24 bytes) where
  abbrev s1 : List ℕ
  s1 = bytes ++ to_le_bytes w32 row.first_edge

  abbrev s2 : List ℕ
  s2 = s1 ++ to_le_bytes w32 row.edges

  abbrev s3 : List ℕ
  s3 = s2 ++ to_le_bytes w32 row.failure

  abbrev s4 : List ℕ
  s4 = s3 ++ to_le_bytes w32 row.depth

  abbrev s5 : List ℕ
  s5 = s4 ++ to_le_bytes w32 row.first_output

  room : 24 * (length bytes / 24) ≡ length bytes
  room = omega (arith, whole)

  l1 : length s1 ≡ length bytes + 4
  l1 = longer bytes row.first_edge

  l2 : length s2 ≡ length bytes + 8
  l2 = omega (arith, longer s1 row.edges, l1)

  l3 : length s3 ≡ length bytes + 12
  l3 = omega (arith, longer s2 row.failure, l2)

  l4 : length s4 ≡ length bytes + 16
  l4 = omega (arith, longer s3 row.depth, l3)

  l5 : length s5 ≡ length bytes + 20
  l5 = omega (arith, longer s4 row.first_output, l4)

  pub node_longer : length (with_node bytes row) ≡ length bytes + 24
  node_longer = omega (arith, longer s5 row.outputs, l5)

  k5 : Keeps s5 (with_node bytes row)
  k5 = keeps_more s5 (to_le_bytes w32 row.outputs)

  k4 : Keeps s4 (with_node bytes row)
  k4 = keeps_on s4 s5 (to_le_bytes w32 row.outputs) (keeps_more s4 (to_le_bytes w32 row.first_output))

  on3 : (a : List ℕ) → Keeps a s3 → Keeps a (with_node bytes row)
  on3 a keeps = keeps_on a s5 (to_le_bytes w32 row.outputs) (keeps_on a s4 (to_le_bytes w32 row.first_output) (keeps_on a s3 (to_le_bytes w32 row.depth) keeps))

  k3 : Keeps s3 (with_node bytes row)
  k3 = keeps_on s3 s5 (to_le_bytes w32 row.outputs) (keeps_on s3 s4 (to_le_bytes w32 row.first_output) (keeps_more s3 (to_le_bytes w32 row.depth)))

  k2 : Keeps s2 (with_node bytes row)
  k2 = on3 s2 (keeps_more s2 (to_le_bytes w32 row.failure))

  k1 : Keeps s1 (with_node bytes row)
  k1 = on3 s1 (keeps_on s1 s2 (to_le_bytes w32 row.failure) (keeps_more s1 (to_le_bytes w32 row.edges)))

  k0 : Keeps bytes (with_node bytes row)
  k0 = on3 bytes (keeps_on bytes s2 (to_le_bytes w32 row.failure) (keeps_on bytes s1 (to_le_bytes w32 row.edges) (keeps_more bytes (to_le_bytes w32 row.first_edge))))

  new_node : node_in (with_node bytes row) (length bytes / 24) ≡ row
  new_node =
      let m = length bytes / 24 in
      same_node (node_in (with_node bytes row) m) row
      (k1.numbers (6 * m) (omega (arith, l1, room)) ∙ number_last bytes row.first_edge (6 * m) (omega (arith, room)) small.first_edge)
      (k2.numbers (6 * m + 1) (omega (arith, l2, room)) ∙ number_last s1 row.edges (6 * m + 1) (omega (arith, l1, room)) small.edges)
      (k3.numbers (6 * m + 2) (omega (arith, l3, room)) ∙ number_last s2 row.failure (6 * m + 2) (omega (arith, l2, room)) small.failure)
      (k4.numbers (6 * m + 3) (omega (arith, l4, room)) ∙ number_last s3 row.depth (6 * m + 3) (omega (arith, l3, room)) small.depth)
      (k5.numbers (6 * m + 4) (omega (arith, l5, room)) ∙ number_last s4 row.first_output (6 * m + 4) (omega (arith, l4, room)) small.first_output)
      (number_last s5 row.outputs (6 * m + 5) (omega (arith, l5, room)) small.outputs)

  pub node_added : nodes_of (with_node bytes row) ≡ nodes_of bytes ++ row ∷ []
  node_added = rows_more (node_in bytes) (node_in (with_node bytes row)) (length bytes / 24) (length (with_node bytes row) / 24) row (omega (arith, node_longer))
      (λ k lt. kept_node bytes (with_node bytes row) k k0 (omega (arith, lt))) new_node

same_edge : (r s : EdgeRow) → r.byte ≡ s.byte → r.target ≡ s.target → r ≡ s
same_edge r s a b = ap (λ x. record { byte = x; target = r.target }) a ∙ ap (λ x. record { byte = s.byte; target = x }) b

-- the bytes with one more edge
abbrev pub with_edge : List ℕ → EdgeRow → List ℕ
with_edge bytes row = bytes ++ to_le_bytes w32 row.byte ++ to_le_bytes w32 row.target

pub edge_added : (bytes : List ℕ) (row : EdgeRow) → row.byte < 2 ^ 32 → row.target < 2 ^ 32 → AreWhole 8 bytes → edges_of (with_edge bytes row) ≡ edges_of bytes ++ row ∷ []
edge_added bytes row small_byte small_target whole =
    let m = length bytes / 8 in
    let all = with_edge bytes row in
    let first = bytes ++ to_le_bytes w32 row.byte in
    let room : 8 * m ≡ length bytes = omega (arith, whole) in
    let one = longer bytes row.byte in
    let two = longer first row.target in
    let keeps : Keeps bytes all = keeps_on bytes first (to_le_bytes w32 row.target) (keeps_more bytes (to_le_bytes w32 row.byte)) in
    let new : edge_in all m ≡ row = same_edge (edge_in all m) row
    (number_before first (to_le_bytes w32 row.target) (2 * m) (omega (arith, one, room)) ∙ number_last bytes row.byte (2 * m) (omega (arith, room)) small_byte)
    (number_last first row.target (2 * m + 1) (omega (arith, one, room)) small_target) in
    rows_more (edge_in bytes) (edge_in all) m (length all / 8) row (omega (arith, one, two))
    (λ k lt. same_edge (edge_in all k) (edge_in bytes k) (keeps.numbers (2 * k) (omega (arith, lt))) (keeps.numbers (2 * k + 1) (omega (arith, lt)))) new

pub output_added : (bytes : List ℕ) (x : ℕ) → x < 2 ^ 32 → AreWhole 4 bytes → outputs_of (bytes ++ to_le_bytes w32 x) ≡ outputs_of bytes ++ x ∷ []
output_added bytes x small whole =
    let m = length bytes / 4 in
    let all = bytes ++ to_le_bytes w32 x in
    rows_more (number_in bytes) (number_in all) m (length all / 4) x (omega (arith, longer bytes x))
    (λ k lt. number_before bytes (to_le_bytes w32 x) k (omega (arith, lt))) (number_last bytes x m (omega (arith, whole)) small)
