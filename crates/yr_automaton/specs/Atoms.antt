-- Atoms as words.
use Rattle.std.specs.Prelude.{ℕ, List, map, take}
use Rattle.yr_base.specs.declared.atom.Atom.{Atom}

-- the bytes of an atom
abbrev pub word : Atom → List ℕ
word atom = take atom.len atom.bytes

-- the words of atoms, each at its atom's number
abbrev pub words_of : List Atom → List (List ℕ)
words_of atoms = map word atoms
