-- Words turned over.
use Rattle.std.proofs.Common.{◌≡◌, ℕ, zero, suc, ◌+◌, List, [], ◌∷◌, ◌++◌, append_assoc, length, length-append, take, drop, Option, Some, None, refl, sym, ap, ◌∙◌, subst, arith}
use Rattle.std.specs.Option.{option_and_then}
use Rattle.std.proofs.Math.Seq.{take-append_seam}
use Rattle.yr_rows.specs.Words.{path, EndsIn}
use Rattle.yr_automaton.proofs.SuffixLemmas.{onto, node_of, Begins}

pub onto_append : (r u w : List ℕ) → onto r (u ++ w) ≡ onto (onto r u) w
onto_append r [] w = refl
onto_append r (b ∷ u) w = onto_append (b ∷ r) u w

pub onto_split : (r w : List ℕ) → onto r w ≡ onto [] w ++ r
onto_split r [] = refl
onto_split r (b ∷ w) = onto_split (b ∷ r) w ∙ (sym (append_assoc (onto [] w) (b ∷ []) r) ∙ ap (λ x. x ++ r) (sym (onto_split (b ∷ []) w)))

pub onto_twice : (w : List ℕ) → onto [] (onto [] w) ≡ w
onto_twice [] = refl
onto_twice (b ∷ w) = ap (onto []) (onto_split (b ∷ []) w) ∙ onto_append [] (onto [] w) (b ∷ []) ∙ ap (λ x. b ∷ x) (onto_twice w)

pub length_onto : (r w : List ℕ) → length (onto r w) ≡ length r + length w
length_onto r [] = omega arith
length_onto r (b ∷ w) = omega (arith, length_onto (b ∷ r) w)

pub node_onto : (edge : ℕ → ℕ → Option ℕ) (w r : List ℕ) → node_of edge (onto r w) ≡ option_and_then (λ n. path edge n w) (node_of edge r)
node_onto edge [] r = same (node_of edge r) where
  same : (o : Option ℕ) → o ≡ option_and_then (λ n. Some n) o
  same (Some n) = refl
  same None = refl
node_onto edge (b ∷ w) r = node_onto edge w (b ∷ r) ∙ same (node_of edge r) where
  same : (o : Option ℕ) → option_and_then (λ n. path edge n w) (option_and_then (λ n. edge n b) o) ≡ option_and_then (λ n. path edge n (b ∷ w)) o
  same (Some n) = refl
  same None = refl

pub node_word : (edge : ℕ → ℕ → Option ℕ) (w : List ℕ) → node_of edge (onto [] w) ≡ path edge 0 w
node_word edge w = node_onto edge w []

pub word_node : (edge : ℕ → ℕ → Option ℕ) (r : List ℕ) → path edge 0 (onto [] r) ≡ node_of edge r
word_node edge r = sym (node_word edge (onto [] r)) ∙ ap (node_of edge) (onto_twice r)

pub begins_from_ends : (text a : List ℕ) → EndsIn text a → Begins (onto [] text) (onto [] a)
begins_from_ends text a e =
    let whole : onto [] text ≡ onto [] a ++ onto [] e.0 = ap (onto []) (sym e.1) ∙ onto_append [] e.0 a ∙ onto_split (onto [] e.0) a in (
      omega (arith, ap length whole, length-append (onto [] a) (onto [] e.0)),
      ap (take (length (onto [] a))) whole ∙ take-append_seam (onto [] a) (onto [] e.0),
    )

join_front : (n : ℕ) (r : List ℕ) → take n r ++ drop n r ≡ r
join_front zero r = refl
join_front (suc n) [] = refl
join_front (suc n) (b ∷ r) = ap (λ x. b ∷ x) (join_front n r)

-- a front of the reversed text is the text's end
pub ends_take : (text : List ℕ) (n : ℕ) → EndsIn text (onto [] (take n (onto [] text)))
ends_take text n =
    let r = onto [] text in
    let a = onto [] (take n r) in
    (onto [] (drop n r), sym (onto_split a (drop n r)) ∙ sym (onto_append [] (take n r) (drop n r)) ∙ ap (onto []) (join_front n r) ∙ onto_twice text)

pub ends_from_begins : (text a : List ℕ) → Begins (onto [] text) (onto [] a) → EndsIn text a
ends_from_begins text a b = subst (EndsIn text) (ap (onto []) b.1 ∙ onto_twice a) (ends_take text (length (onto [] a)))
