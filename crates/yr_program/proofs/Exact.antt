-- A program accepts what its pattern spans, read forwards, and one of the pattern turned round, read backwards.
use Rattle.std.proofs.Common.{◌≡◌, ℕ, ◌+◌, ◌<◌, ◌≤◌, Bool, true, false, ◌↔◌, List, [], ◌∷◌, length, All, refl, ◌∙◌, subst, arith}
use Rattle.std.specs.Prelude.{slice_index}
use Rattle.yr_pattern.specs.Set.{no_byte, has_bit}
use Rattle.yr_pattern.specs.Tree.{Tree}
use Rattle.yr_pattern.specs.Sizes.{size_of}
use Rattle.yr_pattern.specs.Reverse.{reverse_tree}
use Rattle.yr_pattern.specs.Spans.{Spans, Forwards, Backwards, Walk}
use Rattle.yr_pattern.proofs.ReverseLemmas.{down_from_up, up_from_down, size_of-reverse_tree}
use Rattle.yr_rows.specs.Moves.{moves_in, sets_in, IsWellformedMove, AreWellformedMoves}
use Rattle.yr_rows.specs.Accepts.{Accepts, AcceptsBackwards, ReadsForwards, ReadsBackwards}
use Rattle.yr_program.specs.Acts.{Stop}
use Rattle.yr_program.specs.Code.{code_of, program_of}
use Rattle.yr_program.specs.Programs.{turned_if}
use Rattle.yr_program.specs.Written.{IsWritten}
use Rattle.yr_program.proofs.Codes.{reaches_from_walk, walk_from_reaches, length-program_of, length-code_of}
use Rattle.yr_program.proofs.Formed.{formed_program}
use Rattle.yr_program.proofs.RunLemmas.{accepts_from_reaches, reaches_from_accepts, has_byte, byte_had}
use Rattle.yr_program.proofs.WrittenLemmas.{written_length, written_sets, formed_rows, count_reads-append, few_reads}

-- no byte is one of no bytes
never : (b : ℕ) → no_byte b ≡ true → ⊥
never b h = cc h

module _ (moves sets : List ℕ) (file : List ℕ) where
  walk_up : (x : Tree) → IsWritten moves sets (program_of x) → (i j : ℕ) →
      Accepts (moves_in moves) (sets_in sets) file i j ↔ Walk (Forwards file) file x i j
  walk_up x w i j =
      let to : (bits : List ℕ) (a b : ℕ) → Forwards file (has_bit bits) a b → ReadsForwards file bits a b = λ bits a b h. (h.0, h.1, has_byte bits (slice_index file a) h.2) in
      let from : (bits : List ℕ) (a b : ℕ) → ReadsForwards file bits a b → Forwards file (has_bit bits) a b = λ bits a b h. (h.0, h.1, byte_had bits (slice_index file a) h.2) in
      let none : (a b : ℕ) → Forwards file no_byte a b → ⊥ = λ a b h. never (slice_index file a) h.2 in (
        λ h. walk_from_reaches (Forwards file) file none x i j
            (reaches_from_accepts (Forwards file) (ReadsForwards file) to from (sets_in sets) file (moves_in moves) (program_of x) w.says i j h),
        λ h. accepts_from_reaches (Forwards file) (ReadsForwards file) to from (sets_in sets) file (moves_in moves) (program_of x) w.says i j
            (reaches_from_walk (Forwards file) file none x i j h),
      )

  walk_down : (x : Tree) → IsWritten moves sets (program_of x) → (i j : ℕ) →
      AcceptsBackwards (moves_in moves) (sets_in sets) file i j ↔ Walk (Backwards file) file x j i
  walk_down x w i j =
      let to : (bits : List ℕ) (a b : ℕ) → Backwards file (has_bit bits) a b → ReadsBackwards file bits a b = λ bits a b h. (h.0, h.1, has_byte bits (slice_index file b) h.2) in
      let from : (bits : List ℕ) (a b : ℕ) → ReadsBackwards file bits a b → Backwards file (has_bit bits) a b = λ bits a b h. (h.0, h.1, byte_had bits (slice_index file b) h.2) in
      let none : (a b : ℕ) → Backwards file no_byte a b → ⊥ = λ a b h. never (slice_index file b) h.2 in (
        λ h. walk_from_reaches (Backwards file) file none x j i
            (reaches_from_accepts (Backwards file) (ReadsBackwards file) to from (sets_in sets) file (moves_in moves) (program_of x) w.says j i h),
        λ h. accepts_from_reaches (Backwards file) (ReadsBackwards file) to from (sets_in sets) file (moves_in moves) (program_of x) w.says j i
            (reaches_from_walk (Backwards file) file none x j i h),
      )

same_size : (x : Tree) (backwards : Bool) → size_of (turned_if backwards x) ≡ size_of x
same_size x false = refl
same_size x true = size_of-reverse_tree x

-- how many moves its program has
pub length-turned : (x : Tree) (backwards : Bool) → length (program_of (turned_if backwards x)) ≡ size_of x + 1
length-turned x backwards = omega (arith, length-program_of (λ s i j. ⊥) [] (λ i j h. h) (turned_if backwards x), same_size x backwards)

module _ (moves sets : List ℕ) (x : Tree) (backwards : Bool) (w : IsWritten moves sets (program_of (turned_if backwards x))) where
  pub exact_forwards : backwards ≡ false → (file : List ℕ) (i j : ℕ) → Accepts (moves_in moves) (sets_in sets) file i j ↔ Spans x file i j
  exact_forwards e file i j =
      let P : Bool → Type 0 = λ b. IsWritten moves sets (program_of (turned_if b x)) in walk_up moves sets file x (subst P e w) i j

  pub exact_backwards : backwards ≡ true → (file : List ℕ) (i j : ℕ) → AcceptsBackwards (moves_in moves) (sets_in sets) file i j ↔ Spans x file i j
  exact_backwards e file i j =
      let P : Bool → Type 0 = λ b. IsWritten moves sets (program_of (turned_if b x)) in
      let both = walk_down moves sets file (reverse_tree x) (subst P e w) i j in
      (λ h. up_from_down file x i j (both.0 h), λ h. both.1 (down_from_up file x i j h))

  pub exact_length : length (moves_in moves) ≡ size_of x + 1
  exact_length =
      written_length moves sets (program_of (turned_if backwards x)) w ∙ length-turned x backwards

  pub fewer_sets : length (sets_in sets) < length (moves_in moves)
  fewer_sets =
      let t = turned_if backwards x in
      let code = code_of t 0 (size_of t) in
      omega (arith, written_sets moves sets (program_of t) w, count_reads-append code (Stop ∷ []), few_reads code, length-code_of t 0 (size_of t), exact_length, same_size x backwards)

  pub exact_wellformed : size_of x ≤ 65535 → AreWellformedMoves (moves_in moves) (sets_in sets)
  exact_wellformed small =
      let t = turned_if backwards x in
      let n : size_of t + 1 ≡ length (moves_in moves) = omega (arith, exact_length, same_size x backwards) in
      let W : ℕ → Type 0 = λ k. All (IsWellformedMove k (length (sets_in sets))) (moves_in moves) in (
        omega (arith, exact_length),
        omega (arith, exact_length, small),
        subst W n (formed_rows (sets_in sets) (size_of t + 1) (moves_in moves) (program_of t) w.says (formed_program t)),
      )
