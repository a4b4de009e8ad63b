-- Letter case: the bytes of a class in either case, and the size of a pattern without regard to it.
use Rattle.std.proofs.Common.{◌≡◌, ℕ, ◌⊎◌, inl, inr, refl, sym, ap, ◌∙◌, arith}
use Rattle.std.specs.Prelude.{Bool, ◌||◌}
use Rattle.std.proofs.Math.Bool.{or-true}
use Rattle.std.proofs.lemmas.Bool.{or_cases}
use Rattle.std.proofs.lemmas.Bool.Decides.{nat_tests}
use Rattle.yr_base.specs.Bytes.{lowered, SameLetter}
use Rattle.yr_pattern.specs.Set.{Has, in_either_case, raised}
use Rattle.yr_pattern.specs.Tree.{Tree, Trees, Empty, One, Seq, Alt, Rep, Start, End, Edge, NotEdge, WideEdge, WideNotEdge, none, more}
use Rattle.yr_pattern.specs.Sizes.{members, size_of, sizes_of, choice_size, rep_size}
use Rattle.yr_pattern.specs.Fold.{fold_tree, fold_each}

lowered-lowered : (b : ℕ) → lowered (lowered b) ≡ lowered b
lowered-lowered b = grind (arith, nat_tests)

lowered-raised : (b : ℕ) → lowered (raised b) ≡ lowered b
lowered-raised b = grind (arith, nat_tests)

-- the letters that are equal but for case are two
letter_cases : (a b : ℕ) → lowered a ≡ lowered b → (a ≡ lowered b) ⊎ (a ≡ raised b)
letter_cases a b e = grind (arith, nat_tests)

pub letter_from_case : (bytes : ℕ → Bool) (b : ℕ) → Has (in_either_case bytes) b → (a : ℕ) × Has bytes a × SameLetter a b
letter_from_case bytes b h = elim (or_cases (bytes (lowered b)) (bytes (raised b)) h) [
  | inl g ↦ (lowered b, g, lowered-lowered b)
  | inr g ↦ (raised b, g, lowered-raised b)
]

pub case_from_letter : (bytes : ℕ → Bool) (b : ℕ) → ((a : ℕ) × Has bytes a × SameLetter a b) → Has (in_either_case bytes) b
case_from_letter bytes b h = elim (letter_cases h.0 b h.2) [
  | inl e ↦ ap (λ t. t || bytes (raised b)) (ap bytes (sym e) ∙ h.1)
  | inr e ↦ ap (λ t. bytes (lowered b) || t) (ap bytes (sym e) ∙ h.1) ∙ or-true (bytes (lowered b))
]

members-fold_each : (ts : Trees) → members (fold_each ts) ≡ members ts
members-fold_each none = refl
members-fold_each (more t ts) = omega (arith, members-fold_each ts)

mutual
  pub size_of-fold_tree : (t : Tree) → size_of (fold_tree t) ≡ size_of t
  size_of-fold_tree Empty = refl
  size_of-fold_tree (One bytes) = refl
  size_of-fold_tree (Seq ts) = sizes_of-fold_each ts
  size_of-fold_tree (Alt ts) = ap (λ n. choice_size n (sizes_of (fold_each ts))) (members-fold_each ts) ∙ ap (choice_size (members ts)) (sizes_of-fold_each ts)
  size_of-fold_tree (Rep inner min max) = ap (λ s. rep_size s min max) (size_of-fold_tree inner)
  size_of-fold_tree Start = refl
  size_of-fold_tree End = refl
  size_of-fold_tree Edge = refl
  size_of-fold_tree NotEdge = refl
  size_of-fold_tree WideEdge = refl
  size_of-fold_tree WideNotEdge = refl

  sizes_of-fold_each : (ts : Trees) → sizes_of (fold_each ts) ≡ sizes_of ts
  sizes_of-fold_each none = refl
  sizes_of-fold_each (more t ts) = omega (arith, sizes_of-fold_each ts, size_of-fold_tree t)
