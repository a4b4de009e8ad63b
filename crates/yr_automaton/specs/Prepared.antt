-- What sorting the atoms gives: the keys of all prefixes, and the atoms in the order of their keys.
use Rattle.std.specs.Prelude.{◌≡◌, ℕ, ◌⊎◌, ◌+◌, ◌*◌, ◌<◌, ◌≤◌, List, map, length, take, All, Contains, Some, slice_get}
use Rattle.std.specs.List.Sorted.{IsNonDecreasingBy}
use Rattle.yr_base.specs.declared.atom.Atom.{Atom}
use Rattle.yr_rows.specs.Words.{times}
use Rattle.yr_automaton.specs.Atoms.{word}
use Rattle.yr_automaton.specs.Keys.{AllBytes, key_after, AreKeys}

-- the number of a prefix of an atom
abbrev pub IsPrefixKey : List Atom → ℕ → Type 0
IsPrefixKey atoms x = (i : ℕ) × (a : Atom) × (j : ℕ) × (slice_get atoms i ≡ Some a)
    × (j ≤ length (word a)) × (x ≡ key_after 0 (take j (word a)))

-- an atom's number beside its place
abbrev pub IsHome : List Atom → ℕ × ℕ → Type 0
IsHome atoms p = (a : Atom) × (slice_get atoms p.1 ≡ Some a) × (p.0 ≡ key_after 0 (word a))

-- the numbers of the prefixes of the first n atoms, and each atom's number with its place
pub record Collected (atoms : List Atom) (n : ℕ) (all : List ℕ) (numbered : List (ℕ × ℕ)) : Type 0 where
  pub count : length numbered ≡ n
  pub few : length all ≤ 4 * n
  pub ones : (i : ℕ) → i < n → times i (map (λ p. p.1) numbered) ≡ 1
  pub zeros : (i : ℕ) → n ≤ i → times i (map (λ p. p.1) numbered) ≡ 0
  pub homes : All (IsHome atoms) numbered
  pub bytes : (i : ℕ) (a : Atom) → i < n → slice_get atoms i ≡ Some a → AllBytes (word a) × (length (word a) ≤ 4)
  pub sound : (x : ℕ) → Contains all x → IsPrefixKey atoms x
  pub complete : (i j : ℕ) (a : Atom) → i < n → slice_get atoms i ≡ Some a → 0 < j → j ≤ length (word a)
      → Contains all (key_after 0 (take j (word a)))

-- the keys of all prefixes in order, and the atoms in the order of their keys
pub record Prepared (atoms : List Atom) (keys : List ℕ) (numbered : List (ℕ × ℕ)) : Type 0 where
  pub are : AreKeys keys
  pub few : length keys ≤ 4 * length atoms + 1
  pub known : (x : ℕ) → Contains keys x → (x ≡ 0) ⊎ (IsPrefixKey atoms x)
  pub complete : (i j : ℕ) (a : Atom) → slice_get atoms i ≡ Some a → j ≤ length (word a)
      → Contains keys (key_after 0 (take j (word a)))
  pub count : length numbered ≡ length atoms
  pub ones : (i : ℕ) → i < length atoms → times i (map (λ p. p.1) numbered) ≡ 1
  pub zeros : (i : ℕ) → length atoms ≤ i → times i (map (λ p. p.1) numbered) ≡ 0
  pub homes : All (IsHome atoms) numbered
  pub bytes : (i : ℕ) (a : Atom) → slice_get atoms i ≡ Some a → AllBytes (word a) × (length (word a) ≤ 4)
  pub sorted : IsNonDecreasingBy (λ p. p.0) numbered
