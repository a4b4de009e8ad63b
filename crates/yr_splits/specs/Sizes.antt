-- How many bytes of an image splits cost.
use Rattle.std.specs.Prelude.{ℕ, ◌+◌, ◌*◌, List, [], ◌∷◌, length}
use Rattle.yr_pattern.specs.Sizes.{size_of}
use Rattle.yr_atoms.specs.Splits.{Piece, Nothing, Literal, Shape, Split}
use Rattle.yr_splits.specs.Placed.{Placed}

-- the bytes of all words together
abbrev pub total_length : List (List ℕ) → ℕ
total_length [] = 0
total_length (word ∷ words) = length word + total_length words

-- a literal costs its bytes in the pool; a program its row, and for each move 16 bytes and those of a set
abbrev pub piece_cost : Piece → ℕ
piece_cost Nothing = 0
piece_cost (Literal bytes) = length bytes
piece_cost (Shape tree) = 24 + 48 * size_of tree

-- a split costs its row and its pieces, and of the automaton an output, and for each byte of its atom a node and an edge
abbrev pub row_cost : Split → ℕ
row_cost split = 32 + piece_cost split.before + piece_cost split.after

abbrev pub atom_cost : Split → ℕ
atom_cost split = 4 + 32 * length split.atom

-- all of them
abbrev pub rows_cost : List Placed → ℕ
rows_cost [] = 0
rows_cost (p ∷ placed) = row_cost p.split + rows_cost placed

abbrev pub atoms_cost : List Placed → ℕ
atoms_cost [] = 0
atoms_cost (p ∷ placed) = atom_cost p.split + atoms_cost placed
