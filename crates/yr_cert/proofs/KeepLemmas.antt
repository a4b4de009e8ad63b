-- From the rows that were read to the image, and what is kept of it.
use Rattle.std.proofs.Common.{◌≡◌, ℕ, ◌≤◌, List, [], length, take, drop, Option, Some, None, refl, ◌∙◌, subst, arith}
use Rattle.std.specs.Prelude.{slice_get}
use Rattle.std.specs.Option.{option_map_or}
use Rattle.yr_base.specs.declared.atom.Atom.{Atom}
use Rattle.yr_rows.specs.declared.nodes.NodeRow.{NodeRow}
use Rattle.yr_rows.specs.declared.nodes.EdgeRow.{EdgeRow}
use Rattle.yr_rows.specs.Nodes.{edge_of, link_of, own_of}
use Rattle.yr_rows.specs.Words.{times, HasOneParent, LinksToLongestSuffix, HasOneOutput}
use Rattle.yr_automaton.proofs.ListLemmas.{at_has, has_at}
use Rattle.yr_image.specs.Image.{Image}
use Rattle.yr_cert.specs.Words.{edge, own}
use Rattle.yr_cert.specs.Faults.{IsLeast, HasNoParent, LinksWrong, IsTwice, IsFirstCertFault}
use Rattle.yr_cert.specs.Kept.{Keeps}
use Rattle.yr_cert.specs.Certificates.{HasNoWord, IsAtomOf}
use Rattle.yr_cert.specs.Tries.{AreNoted, AreHomes, SaysHome, nodes_in, edges_in, outputs_in, edge_in, link_in}
use Rattle.yr_cert.specs.declared.trie.Trie.{Trie}
use Rattle.yr_cert.specs.declared.home.Home.{Home}
use Rattle.yr_cert.specs.declared.home.Home.TheVariants.{NoOutput, OneOutput, ManyOutputs}
use Rattle.yr_cert.specs.declared.fault.CertFault.TheVariants.{Parent, Link, Twice}
use Rattle.yr_cert.proofs.NotedLemmas.{noted_all}
use Rattle.yr_cert.proofs.TimesLemmas.{present, times_has, times_part_most}

module _ (image : Image) (trie : Trie) (nodes : nodes_in trie ≡ image.nodes) (edges : edges_in trie ≡ image.edges) (outputs : outputs_in trie ≡ image.outputs)
    (splits : trie.splits ≡ length image.splits) where
  moved : (P : List NodeRow → List EdgeRow → List ℕ → Type 0) → P (nodes_in trie) (edges_in trie) (outputs_in trie) → P image.nodes image.edges image.outputs
  moved P p =
      subst (λ ns. P ns image.edges image.outputs) nodes (subst (λ es. P (nodes_in trie) es image.outputs) edges (subst (λ os. P (nodes_in trie) (edges_in trie) os) outputs p))

  pub parent_fault : (n : ℕ) → IsLeast (HasNoParent (nodes_in trie) (edges_in trie)) n → IsFirstCertFault image (Parent n)
  parent_fault n least = moved (λ ns es os. IsLeast (HasNoParent ns es) n) least

  one_parent : HasOneParent (length (nodes_in trie)) (edges_in trie) → HasOneParent (length image.nodes) image.edges
  one_parent one = moved (λ ns es os. HasOneParent (length ns) es) one

  linked : LinksToLongestSuffix (edge_in trie) (link_in trie) → LinksToLongestSuffix (edge_of image.nodes image.edges) (link_of image.nodes)
  linked links = moved (λ ns es os. LinksToLongestSuffix (edge_of ns es) (link_of ns)) links

  pub link_fault : HasOneParent (length (nodes_in trie)) (edges_in trie) → (n : ℕ) → IsLeast (LinksWrong (nodes_in trie) (edges_in trie)) n → IsFirstCertFault image (Link n)
  link_fault one n least = (one_parent one, moved (λ ns es os. IsLeast (LinksWrong ns es) n) least)

  pub twice_fault : HasOneParent (length (nodes_in trie)) (edges_in trie) → LinksToLongestSuffix (edge_in trie) (link_in trie) → (split : ℕ) → IsLeast (IsTwice trie.splits (outputs_in trie)) split
      → IsFirstCertFault image (Twice split)
  twice_fault one links split least = (one_parent one, linked links, subst (λ c. IsLeast (IsTwice c image.outputs) split) splits (moved (λ ns es os. IsLeast (IsTwice trie.splits os) split) least))

  pub keeps : (homes : List Home) → HasOneParent (length (nodes_in trie)) (edges_in trie) → LinksToLongestSuffix (edge_in trie) (link_in trie) → HasOneOutput (outputs_in trie)
      → AreHomes trie (length (outputs_in trie)) homes → Keeps image homes
  keeps homes one links once are = record {
    shape = record { parents = one_parent one; links = linked links; outputs = moved (λ ns es os. HasOneOutput os) once };
    long = are.long ∙ splits;
    each = moved (λ ns es os. AreNoted (SaysHome (edge_of ns es) (own_of ns os)) os (length os) homes) are.each;
  }

module _ (image : Image) (homes : List Home) (keep : Keeps image homes) where
  says : (m : ℕ) (home : Home) → slice_get homes m ≡ Some home → SaysHome (edge image) (own image) m (times m image.outputs) home
  says = noted_all (SaysHome (edge image) (own image)) image.outputs (length image.outputs) homes keep.each (omega arith)

  -- a node's own outputs are a part of all
  own_part : (s n : ℕ) → times s (own image n) ≤ times s image.outputs
  own_part s n = go (slice_get image.nodes n) where
    go : (o : Option NodeRow) → times s (option_map_or (λ (r : NodeRow). take r.outputs (drop r.first_output image.outputs)) o []) ≤ times s image.outputs
    go None = omega arith
    go (Some r) = times_part_most s r.outputs r.first_output image.outputs

  no_word : (s : ℕ) → times s image.outputs ≡ 0 → HasNoWord image s
  no_word s none = λ n has.
      let h = at_has (own image n) s has in
      omega (arith, none, own_part s n, present s (own image n) h.0 h.1 h.2)

  -- the word that is noted
  pub noted_word : (s : ℕ) (atom : Atom) → slice_get homes s ≡ Some (OneOutput atom) → IsAtomOf image s atom
  noted_word s atom at =
      let is = (says s (OneOutput atom) at).1 in
      let k = times_has s (own image is.0) is.2 in
      (is.0, is.1, has_at (own image is.0) k.0 s k.1 k.2)

  pub some_word : (s : ℕ) (atom : Atom) → slice_get homes s ≡ Some (OneOutput atom) → HasNoWord image s → ⊥
  some_word s atom at none = let is = noted_word s atom at in none is.0 is.2

  -- none is noted where there is none
  pub none_noted : (s : ℕ) (home : Home) → slice_get homes s ≡ Some home → ((atom : Atom) → home ≡ OneOutput atom → ⊥) → HasNoWord image s
  none_noted s NoOutput at other = no_word s (says s NoOutput at)
  none_noted s (OneOutput atom) at other = absurd (other atom refl)
  none_noted s ManyOutputs at other = absurd (omega (arith, says s ManyOutputs at, keep.shape.outputs s))
