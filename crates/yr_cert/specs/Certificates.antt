-- What a certified image is, and what its calls tell.
use Rattle.std.specs.Prelude.{ℕ, List, Contains}
use Rattle.yr_base.specs.declared.atom.Atom.{Atom}
use Rattle.yr_automaton.specs.Atoms.{word}
use Rattle.yr_image.specs.Image.{Image}
use Rattle.yr_image.specs.Reading.{image_in}
use Rattle.yr_machine.specs.Verified.{bytes_of}
use Rattle.yr_cert.specs.Words.{own, IsWordOfSplit}
use Rattle.yr_cert.specs.declared.certified_image.CertifiedImage.{CertifiedImage}

-- the bytes of a certified image, and the image that they hold
abbrev pub certified_bytes : CertifiedImage → List ℕ
certified_bytes certified = bytes_of certified.image

abbrev pub certified_image : CertifiedImage → Image
certified_image certified = image_in (certified_bytes certified)

-- no node has an output row of the split
abbrev pub HasNoWord : Image → ℕ → Type 0
HasNoWord image split = (n : ℕ) → Contains (own image n) split → ⊥

-- the atom is the word of the node with the split's output row
abbrev pub IsAtomOf : Image → ℕ → Atom → Type 0
IsAtomOf image split atom = IsWordOfSplit image split (word atom)
