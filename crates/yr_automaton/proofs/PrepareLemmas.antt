-- What follows from prepared keys.
use Rattle.std.proofs.Common.{◌≡◌, ℕ, zero, suc, ◌+◌, ◌-◌, ◌*◌, ◌/◌, ◌%◌, ◌<◌, ◌≤◌, ◌⊎◌, inl, inr, List, [], ◌∷◌, map, length, length-take, take, take_all, get_or, Some, refl, sym, ap, ◌∙◌, subst, arith, Contains}
use Rattle.std.specs.Prelude.{slice_get, ◌==◌, if◌then◌else◌, sum_by}
use Rattle.std.specs.List.Sorted.{IsPermutation}
use Rattle.std.proofs.lemmas.List.Sums.{sum_by-cons}
use Rattle.std.proofs.lemmas.List.Sorted.{IsPermutation-map, sum_by-IsPermutation}
use Rattle.yr_rows.specs.Words.{times}
use Rattle.yr_base.specs.declared.atom.Atom.{Atom}
use Rattle.yr_automaton.specs.Keys.{AllBytes, key, key_after, IsParent, AreShort}
use Rattle.yr_rows.specs.Nodes.{Each}
use Rattle.yr_automaton.specs.Atoms.{word}
use Rattle.yr_automaton.specs.Prepared.{Prepared}
use Rattle.yr_automaton.proofs.SuffixLemmas.{onto}
use Rattle.yr_automaton.proofs.KeyLemmas.{same_digits, whole_is, key_onto, bytes_onto, bytes_take}
use Rattle.yr_automaton.proofs.ListLemmas.{has_at, get_some, rises_le}
use Rattle.yr_automaton.proofs.OntoLemmas.{length_onto}

last_key : (k : ℕ) (w : List ℕ) (j : ℕ) → AllBytes w → j < length w → (c : ℕ) × (c < 256) × (key_after k (take (suc j) w) ≡ key_after k (take j w) * 256 + c + 1)
last_key k [] j bytes lt = absurd (omega (arith, lt))
last_key k (b ∷ w) zero bytes lt = (b, bytes.0, refl)
last_key k (b ∷ w) (suc j) bytes lt = last_key (k * 256 + b + 1) w j bytes.1 (omega (arith, lt))

pub length_map : {X : Type 0} (f : X → ℕ) (xs : List X) → length (map f xs) ≡ length xs
length_map f [] = refl
length_map f (x ∷ xs) = ap suc (length_map f xs)

pub map_at : {X : Type 0} (f : X → ℕ) (xs : List X) (i : ℕ) (d : X) → get_or (map f xs) i (f d) ≡ f (get_or xs i d)
map_at f [] i d = refl
map_at f (x ∷ xs) zero d = refl
map_at f (x ∷ xs) (suc i) d = map_at f xs i d

module _ (atoms : List Atom) (keys : List ℕ) (numbered : List (ℕ × ℕ)) (p : Prepared atoms keys numbered) where
  pub closed : (x q b : ℕ) → Contains keys x → b < 256 → x ≡ q * 256 + b + 1 → Contains keys q
  closed x q b c lt e = elim (p.known x c) [
    | inl z ↦ absurd (omega (arith, z, e))
    | inr f ↦ from f.0 f.1 f.2 f.3 f.4 f.5
  ] where
    from : (i : ℕ) (a : Atom) (j : ℕ) → slice_get atoms i ≡ Some a → j ≤ length (word a) → x ≡ key_after 0 (take j (word a)) → Contains keys q
    from i a zero at le same = absurd (omega (arith, same, e))
    from i a (suc j) at le same =
        let l = last_key 0 (word a) j (p.bytes i a at).0 (omega (arith, le)) in
        let d = same_digits q b (key_after 0 (take j (word a))) l.0 lt l.1 (sym e ∙ same ∙ l.2) in
        subst (Contains keys) (sym d.0) (p.complete i j a at (omega (arith, le)))

  -- the reversed word of a key
  pub word_of : (x : ℕ) → Contains keys x → (r : List ℕ) × AllBytes r × (length r ≤ 4) × (key r ≡ x) × ((r ≡ []) ⊎ ((i : ℕ) × (a : Atom) × (j : ℕ) × (slice_get atoms i ≡ Some a) × (j ≤ length (word a)) × (r ≡ onto [] (take j (word a)))))
  word_of x c = elim (p.known x c) [
    | inl z ↦ ([], tt, omega arith, sym z, inl refl)
    | inr f ↦
        let w = take f.2 (word f.1) in
        let b = p.bytes f.0 f.1 f.3 in
        (onto [] w, bytes_onto [] w tt (bytes_take f.2 (word f.1) b.0), omega (arith, length_onto [] w, length-take f.2 (word f.1), b.1), key_onto [] w ∙ sym f.5, inr (f.0, f.1, f.2, f.3, f.4, refl))
  ]

  pub short : AreShort keys
  short n lt = let r = word_of (get_or keys n 0) (has_at keys n (get_or keys n 0) lt refl) in (r.0, r.1, r.2, r.3)

  pub homes_sorted : (i j : ℕ) → i ≤ j → j < length (map (λ q. q.0) numbered) → get_or (map (λ q. q.0) numbered) i 0 ≤ get_or (map (λ q. q.0) numbered) j 0
  homes_sorted i j le lt =
      omega (arith, map_at (λ (q : ℕ × ℕ). q.0) numbered i (0, 0), map_at (λ (q : ℕ × ℕ). q.0) numbered j (0, 0), p.sorted i j (0, 0) le (omega (arith, lt, length_map (λ (q : ℕ × ℕ). q.0) numbered)))

  pub home_at : (k : ℕ) → k < length numbered → (a : Atom) × (slice_get atoms (get_or (map (λ q. q.1) numbered) k 0) ≡ Some a) × (get_or (map (λ q. q.0) numbered) k 0 ≡ key_after 0 (word a))
  home_at k lt =
      let h = p.homes k (0, 0) lt in
      (h.0, ap (slice_get atoms) (map_at (λ (q : ℕ × ℕ). q.1) numbered k (0, 0)) ∙ h.1, map_at (λ (q : ℕ × ℕ). q.0) numbered k (0, 0) ∙ h.2)

  pub homes_known : (k : ℕ) → k < length (map (λ q. q.0) numbered) → Contains keys (get_or (map (λ q. q.0) numbered) k 0)
  homes_known k lt =
      let h = home_at k (omega (arith, lt, length_map (λ (q : ℕ × ℕ). q.0) numbered)) in
      let w = word h.0 in
      subst (Contains keys) (ap (key_after 0) (take_all (length w) w (omega arith)) ∙ sym h.2) (p.complete (get_or (map (λ q. q.1) numbered) k 0) (length w) h.0 h.1 (omega arith))

  module _ (parents : List ℕ) (count : length parents + 1 ≡ length keys) (each : Each (IsParent keys) parents) where
    pub parent_at : (k : ℕ) → k < length parents → get_or parents k 0 ≡ (get_or keys (k + 1) 0 - 1) / 256
    parent_at k lt = each k (get_or parents k 0) (get_some parents k 0 lt)

    pub parents_sorted : (i j : ℕ) → i ≤ j → j < length parents → get_or parents i 0 ≤ get_or parents j 0
    parents_sorted i j le lt =
        let up = rises_le keys p.are.rises (i + 1) (j + 1) (omega (arith, le)) (omega (arith, lt, count)) in
        omega (arith, parent_at i (omega (arith, le, lt)), parent_at j lt, up)

    pub parents_known : (k : ℕ) → k < length parents → Contains keys (get_or parents k 0)
    parents_known k lt =
        let x = get_or keys (k + 1) 0 in
        let inside : k + 1 < length keys = omega (arith, lt, count) in
        let pos : 0 < x = omega (arith, p.are.rises 0 (k + 1) (omega arith) inside, p.are.first) in
        subst (Contains keys) (sym (parent_at k lt)) (closed x ((x - 1) / 256) ((x - 1) % 256) (has_at keys (k + 1) x inside refl) (omega arith) (sym (whole_is x pos)))

times_sum : (i : ℕ) (xs : List ℕ) → times i xs ≡ sum_by (λ x. if x == i then 1 else 0) xs
times_sum i [] = refl
times_sum i (x ∷ xs) = ap (λ n. (if x == i then 1 else 0) + n) (times_sum i xs) ∙ sym (sum_by-cons (λ x. if x == i then 1 else 0) x xs)

pub times_permutation : (i : ℕ) (xs ys : List (ℕ × ℕ)) → IsPermutation xs ys → times i (map (λ p. p.1) ys) ≡ times i (map (λ p. p.1) xs)
times_permutation i xs ys moved =
    times_sum i (map (λ p. p.1) ys) ∙ sum_by-IsPermutation (λ x. if x == i then 1 else 0) (map (λ p. p.1) xs) (map (λ p. p.1) ys) (IsPermutation-map (λ p. p.1) xs ys moved) ∙ sym (times_sum i (map (λ p. p.1) xs))
