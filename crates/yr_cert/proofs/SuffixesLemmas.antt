-- The suffixes of a word, and the nodes that have them.
use Rattle.std.proofs.Common.{◌≡◌, ◌≢◌, ℕ, zero, suc, ◌+◌, ◌<◌, ◌≤◌, inl, inr, List, [], ◌∷◌, length, length-append, length-drop, take, drop, get_or, Option, Some, None, refl, sym, ap, ◌∙◌, subst, arith}
use Rattle.std.specs.Prelude.{slice_set, IsTrue, ◌==◌, ◌↔◌}
use Rattle.std.specs.Option.{option_and_then}
use Rattle.std.proofs.Math.Seq.{drop-append_seam, drop-length}
use Rattle.std.proofs.lemmas.Bool.{cases_lt, eqb-true}
use Rattle.std.proofs.lemmas.Bool.Decides.{nat_tests}
use Rattle.std.proofs.lemmas.List.{take-append-drop}
use Rattle.yr_rows.specs.declared.nodes.NodeRow.{NodeRow}
use Rattle.yr_rows.specs.declared.nodes.EdgeRow.{EdgeRow}
use Rattle.yr_rows.specs.Nodes.{AreWellformed, edge_of, link_of}
use Rattle.yr_rows.specs.Words.{path, IsWordOf, EndsIn, HasProperSuffix, HasOneParent}
use Rattle.yr_automaton.proofs.ListLemmas.{some_inside}
use Rattle.yr_automaton.proofs.SuffixLemmas.{onto}
use Rattle.yr_automaton.proofs.OntoLemmas.{onto_twice, node_word}
use Rattle.yr_base.specs.declared.atom.Atom.{Atom}
use Rattle.yr_automaton.specs.Atoms.{word}
use Rattle.yr_cert.specs.Words.{HasLongestSuffix}
use Rattle.yr_cert.specs.Faults.{LinksRight}
use Rattle.yr_cert.specs.Propositions.{same_suffix}
use Rattle.yr_cert.proofs.ShapeLemmas.{unique, deep}

-- what is left of a list from a place on
pub drop_step : (w : List ℕ) (k : ℕ) → k < length w → drop k w ≡ get_or w k 0 ∷ drop (k + 1) w
drop_step [] k lt = absurd (omega (arith, lt))
drop_step (b ∷ w) zero lt = refl
drop_step (b ∷ w) (suc k) lt =
    let one : suc (k + 1) ≡ suc k + 1 = omega arith in
    drop_step w k (omega (arith, lt)) ∙ ap (λ i. get_or w k 0 ∷ drop i (b ∷ w)) one

-- a byte is written before those that are left of a front
pub drop_written : (xs : List ℕ) (d k b : ℕ) → k < d → d ≤ length xs → drop k (take d (slice_set xs k b)) ≡ b ∷ drop (k + 1) (take d xs)
drop_written [] d k b lt le = absurd (omega (arith, lt, le))
drop_written (x ∷ xs) zero k b lt le = absurd (omega (arith, lt))
drop_written (x ∷ xs) (suc d) zero b lt le = refl
drop_written (x ∷ xs) (suc d) (suc k) b lt le =
    let one : suc (k + 1) ≡ suc k + 1 = omega arith in
    drop_written xs d k b (omega (arith, lt)) (omega (arith, le)) ∙ ap (λ i. b ∷ drop i (take (suc d) (x ∷ xs))) one

module _ (edge : ℕ → ℕ → Option ℕ) where
  -- a path by its first byte
  pub path_step : (w : List ℕ) (k node : ℕ) (next : Option ℕ) → k < length w → edge node (get_or w k 0) ≡ next → path edge node (drop k w) ≡ option_and_then (λ m. path edge m (drop (k + 1) w)) next
  path_step w k node next lt e = ap (path edge node) (drop_step w k lt) ∙ ap (option_and_then (λ m. path edge m (drop (k + 1) w))) e

  -- a path with one edge before it
  pub path_back : (bytes : List ℕ) (d k source at b n : ℕ) → k < d → d ≤ length bytes → edge source b ≡ Some at → path edge at (drop (k + 1) (take d bytes)) ≡ Some n
      → path edge source (drop k (take d (slice_set bytes k b))) ≡ Some n
  path_back bytes d k source at b n lt le leads is =
      ap (path edge source) (drop_written bytes d k b lt le) ∙ (ap (option_and_then (λ m. path edge m (drop (k + 1) (take d bytes)))) leads ∙ is)

  -- what is left from a place on is a proper suffix, and each of them is that
  proper_drop : (w : List ℕ) (j : ℕ) → 0 < j → j ≤ length w → HasProperSuffix w (drop j w)
  proper_drop w j pos le = ((take j w, take-append-drop j w), omega (arith, length-drop j w, pos, le))

  drop_of : (w other : List ℕ) (e : EndsIn w other) → other ≡ drop (length e.0) w
  drop_of w other e = sym (drop-append_seam e.0 other) ∙ ap (drop (length e.0)) e.1

  -- the first suffix that is a node's word is the longest
  pub longest_from : (w : List ℕ) (j n : ℕ) → 0 < j → j ≤ length w → path edge 0 (drop j w) ≡ Some n → ((k : ℕ) → 0 < k → k < j → path edge 0 (drop k w) ≡ None)
      → HasLongestSuffix edge w n
  longest_from w j n pos le is none = (drop j w, proper_drop w j pos le, is, no_longer) where
    no_longer : (other : List ℕ) (m : ℕ) → HasProperSuffix w other → IsWordOf edge other m → length other ≤ length (drop j w)
    no_longer other m proper found =
        let k = length proper.0.0 in
        let here : other ≡ drop k w = drop_of w other proper.0 in
        let long : k + length other ≡ length w = omega (arith, ap length proper.0.1, length-append proper.0.0 other) in
        elim (cases_lt k j) [
          | inl less ↦
              let both : None ≡ Some m = sym (none k (omega (arith, long, proper.1)) less) ∙ (ap (path edge 0) (sym here) ∙ found) in
              absurd (cc both)
          | inr ge ↦ omega (arith, ge, long, length-drop j w)
        ]

  -- none of them is but the empty one
  pub longest_empty : (w : List ℕ) → 0 < length w → ((k : ℕ) → 0 < k → k < length w → path edge 0 (drop k w) ≡ None) → HasLongestSuffix edge w 0
  longest_empty w pos none = longest_from w (length w) 0 pos (omega arith) (ap (path edge 0) (drop-length w)) none

  -- one node has it
  pub longest_node : (w : List ℕ) (m n : ℕ) → HasLongestSuffix edge w m → HasLongestSuffix edge w n → m ≡ n
  longest_node w m n x y =
      let same : x.0 ≡ y.0 = same_suffix w x.0 y.0 x.1.0 y.1.0 (omega (arith, x.3 y.0 n y.1 y.2, y.3 x.0 m x.1 x.2)) in
      let both : Some m ≡ Some n = sym x.2 ∙ (ap (path edge 0) same ∙ y.2) in
      cc both

-- the word of a node other than node 0 has a byte
pub some_bytes : (edge : ℕ → ℕ → Option ℕ) (atom : Atom) (n : ℕ) → IsWordOf edge (word atom) n → n ≢ 0 → 0 < atom.len
some_bytes edge atom n is other = elim (cases_lt 0 atom.len) [
  | inl pos ↦ pos
  | inr none ↦
      let zero_len : atom.len ≡ 0 = omega (arith, none) in
      let both : Some 0 ≡ Some n = sym (ap (λ k. path edge 0 (take k atom.bytes)) zero_len) ∙ is in
      let same : 0 ≡ n = cc both in
      absurd (other (sym same))
]

-- a test of equality that tells a fact
pub tells : (a b : ℕ) (P : Type 0) → (a ≡ b → P) → (P → a ≡ b) → IsTrue (a == b) ↔ P
tells a b P to from = (λ e. to (eqb-true a b e), λ p. grind (arith, nat_tests, from p))

-- a node with a word is there
pub word_inside : (nodes : List NodeRow) (edges : List EdgeRow) (outs : List ℕ) → 0 < length nodes → AreWellformed nodes edges outs → (w : List ℕ) (n : ℕ)
    → IsWordOf (edge_of nodes edges) w n → n < length nodes
word_inside nodes edges outs some formed w n is =
    let d = deep nodes edges outs some formed (onto [] w) n (node_word (edge_of nodes edges) w ∙ is) in
    some_inside nodes n d.0 d.1

module _ (nodes : List NodeRow) (edges : List EdgeRow) (outs : List ℕ) (some : 0 < length nodes) (formed : AreWellformed nodes edges outs) (parents : HasOneParent (length nodes) edges) where
  -- a node has one word
  unique_word : (w v : List ℕ) (n : ℕ) → IsWordOf (edge_of nodes edges) w n → IsWordOf (edge_of nodes edges) v n → w ≡ v
  unique_word w v n e f =
      let same = unique nodes edges outs some formed parents (onto [] w) (onto [] v) n (node_word (edge_of nodes edges) w ∙ e) (node_word (edge_of nodes edges) v ∙ f) in
      sym (onto_twice w) ∙ (ap (onto []) same ∙ onto_twice v)

  -- whether a node links right can be told by its word
  pub right_from : (w : List ℕ) (n m : ℕ) → IsWordOf (edge_of nodes edges) w n → HasLongestSuffix (edge_of nodes edges) w m → m ≡ link_of nodes n → LinksRight nodes edges n
  right_from w n m is longest e = λ v of.
      subst (λ x. HasLongestSuffix (edge_of nodes edges) x (link_of nodes n)) (unique_word w v n is of) (subst (λ i. HasLongestSuffix (edge_of nodes edges) w i) e longest)

  pub right_to : (w : List ℕ) (n m : ℕ) → IsWordOf (edge_of nodes edges) w n → HasLongestSuffix (edge_of nodes edges) w m → LinksRight nodes edges n → m ≡ link_of nodes n
  right_to w n m is longest right = longest_node (edge_of nodes edges) w m (link_of nodes n) longest (right w is)
