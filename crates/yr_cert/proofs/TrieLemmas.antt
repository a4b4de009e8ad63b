-- The rows that are read are those of the image.
use Rattle.std.proofs.Common.{◌≡◌, ℕ, List, length, sym, ap, ◌∙◌, subst, arith}
use Rattle.std.specs.Prelude.{slice_get}
use Rattle.yr_rows.specs.Nodes.{AreWellformed, AreWhole}
use Rattle.yr_image.specs.Reading.{image_in}
use Rattle.yr_image.specs.Sections.{bytes_of}
use Rattle.yr_machine.specs.Wellformed.{IsWellformed}
use Rattle.yr_machine.proofs.CallerLemmas.{has_sections}
use Rattle.yr_verifier.proofs.CountLemmas.{section_size}
use Rattle.yr_cert.specs.Tries.{IsReadable, nodes_in, edges_in, outputs_in}
use Rattle.yr_cert.specs.declared.trie.Trie.{Trie}
use Rattle.yr_cert.proofs.BytesLemmas.{rows_are_wellformed, some_nodes, outputs_name_splits}

module _ (bytes : List ℕ) (wellformed : IsWellformed bytes) where
  pub whole_nodes : (given : List ℕ) → given ≡ bytes_of bytes 8 → AreWhole 24 given
  whole_nodes given e = omega (arith, section_size bytes (has_sections bytes wellformed) 8 (omega arith), ap length e)

  pub whole_edges : (given : List ℕ) → given ≡ bytes_of bytes 9 → AreWhole 8 given
  whole_edges given e = omega (arith, section_size bytes (has_sections bytes wellformed) 9 (omega arith), ap length e)

  pub whole_outputs : (given : List ℕ) → given ≡ bytes_of bytes 10 → AreWhole 4 given
  whole_outputs given e = omega (arith, section_size bytes (has_sections bytes wellformed) 10 (omega arith), ap length e)

  pub readable : (trie : Trie) → nodes_in trie ≡ (image_in bytes).nodes → edges_in trie ≡ (image_in bytes).edges → outputs_in trie ≡ (image_in bytes).outputs
      → trie.nodes ≡ length (image_in bytes).nodes → trie.splits ≡ length (image_in bytes).splits → IsReadable trie
  readable trie nodes edges outputs count splits = record {
    count = count ∙ ap length (sym nodes);
    some = omega (arith, some_nodes bytes wellformed, ap length nodes);
    formed = subst (λ ns. AreWellformed ns (edges_in trie) (outputs_in trie)) (sym nodes)
        (subst (λ es. AreWellformed (image_in bytes).nodes es (outputs_in trie)) (sym edges)
        (subst (λ os. AreWellformed (image_in bytes).nodes (image_in bytes).edges os) (sym outputs) (rows_are_wellformed bytes wellformed)));
    splits = λ k split at. omega (arith, splits, outputs_name_splits bytes wellformed k split (ap (λ os. slice_get os k) (sym outputs) ∙ at));
  }
