-- The output rows of each split.
use Rattle.std.proofs.Common.{◌≡◌, ℕ, ◌+◌, ◌<◌, ◌≤◌, inl, inr, true, false, List, length, replicate, get_or, Option, Some, refl, ◌∙◌, arith}
use Rattle.std.specs.Prelude.{slice_get, slice_set}
use Rattle.std.proofs.lemmas.Bool.{cases_lt}
use Rattle.std.proofs.lemmas.List.{length-set, length-replicate}
use Rattle.yr_base.specs.declared.atom.Atom.{Atom}
use Rattle.yr_rows.specs.declared.nodes.NodeRow.{NodeRow}
use Rattle.yr_rows.specs.Nodes.{outputs_end}
use Rattle.yr_rows.specs.Words.{times, IsWordOf, HasOneOutput}
use Rattle.yr_automaton.specs.Atoms.{word}
use Rattle.yr_automaton.proofs.ListLemmas.{get_some}
use Rattle.yr_automaton.proofs.TimesLemmas.{times_none}
use Rattle.yr_cert.specs.Tries.{IsReadable, AreHomes, SaysHome, HasOutputAt, is_many_outputs, with_output, nodes_in, edges_in, outputs_in, edge_in, own_in}
use Rattle.yr_cert.specs.declared.trie.Trie.{Trie}
use Rattle.yr_cert.specs.declared.home.Home.{Home}
use Rattle.yr_cert.specs.declared.home.Home.TheVariants.{NoOutput, OneOutput, ManyOutputs}
use Rattle.yr_cert.proofs.NotedLemmas.{noted_next, noted_none, noted_all}
use Rattle.yr_cert.proofs.ParentLemmas.{output_here}

-- one output row more
home_more : (edge : ℕ → ℕ → Option ℕ) (own : ℕ → List ℕ) (s c : ℕ) (home : Home) (atom : Atom) → HasOutputAt edge own s (word atom) → SaysHome edge own s c home
    → SaysHome edge own s (c + 1) (with_output home atom)
home_more edge own s c NoOutput atom has says = (omega (arith, says), has)
home_more edge own s c (OneOutput other) atom has says = omega (arith, says.0)
home_more edge own s c ManyOutputs atom has says = omega (arith, says)

pub many_outputs : (edge : ℕ → ℕ → Option ℕ) (own : ℕ → List ℕ) (s c : ℕ) (home : Home) → SaysHome edge own s c home → is_many_outputs home ≡ true → 1 < c
many_outputs edge own s c NoOutput says e = absurd (cc e)
many_outputs edge own s c (OneOutput atom) says e = absurd (cc e)
many_outputs edge own s c ManyOutputs says e = says

pub few_outputs : (edge : ℕ → ℕ → Option ℕ) (own : ℕ → List ℕ) (s c : ℕ) (home : Home) → SaysHome edge own s c home → is_many_outputs home ≡ false → c ≤ 1
few_outputs edge own s c NoOutput says e = omega (arith, says)
few_outputs edge own s c (OneOutput atom) says e = omega (arith, says.0)
few_outputs edge own s c ManyOutputs says e = absurd (cc e)

module _ (trie : Trie) (readable : IsReadable trie) where
  -- one output row more of a node is noted
  pub homes_next : (n : ℕ) (row : NodeRow) (k s : ℕ) (homes : List Home) (old : Home) (atom : Atom) → slice_get (nodes_in trie) n ≡ Some row
      → row.first_output ≤ k → k < outputs_end row → slice_get (outputs_in trie) k ≡ Some s → IsWordOf (edge_in trie) (word atom) n
      → AreHomes trie k homes → slice_get homes s ≡ Some old → AreHomes trie (k + 1) (slice_set homes s (with_output old atom))
  homes_next n row k s homes old atom at low high here spelled are is = record {
    long = length-set homes s (with_output old atom) ∙ are.long;
    each = noted_next (SaysHome (edge_in trie) (own_in trie)) (outputs_in trie) k s homes old (with_output old atom) are.each here is
        (λ c. home_more (edge_in trie) (own_in trie) s c old atom (n, spelled, output_here (nodes_in trie) (edges_in trie) (outputs_in trie) readable.some readable.formed n row k s at low high here));
  }

  -- no output row is noted yet
  pub homes_none : (n : ℕ) → n ≡ trie.splits → AreHomes trie 0 (replicate n NoOutput)
  homes_none n e = record {
    long = length-replicate n NoOutput ∙ e;
    each = noted_none (SaysHome (edge_in trie) (own_in trie)) (outputs_in trie) n NoOutput (λ m. refl);
  }

  -- a number that is no split's has no output row
  pub one_output : ((s : ℕ) → s < trie.splits → times s (outputs_in trie) ≤ 1) → HasOneOutput (outputs_in trie)
  one_output few s = elim (cases_lt s trie.splits) [
    | inl lt ↦ few s lt
    | inr ge ↦ omega (arith, times_none s (outputs_in trie) (λ k lt e. omega (arith, ge, e, readable.splits k (get_or (outputs_in trie) k 0) (get_some (outputs_in trie) k 0 lt))))
  ]

  -- what is noted of all output rows
  pub all_homes : (homes : List Home) → AreHomes trie (length (outputs_in trie)) homes → (m : ℕ) (home : Home) → slice_get homes m ≡ Some home
      → SaysHome (edge_in trie) (own_in trie) m (times m (outputs_in trie)) home
  all_homes homes are = noted_all (SaysHome (edge_in trie) (own_in trie)) (outputs_in trie) (length (outputs_in trie)) homes are.each (omega arith)
