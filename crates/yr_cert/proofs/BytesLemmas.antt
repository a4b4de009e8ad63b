-- The rows of a wellformed image.
use Rattle.std.proofs.Common.{◌≡◌, ℕ, ◌<◌, Bool, true, false, ◌&&◌, nat_le, nat_lt, length, List, Some, refl, subst, arith}
use Rattle.std.specs.Prelude.{slice_get}
use Rattle.std.specs.Option.{option_map_or}
use Rattle.std.proofs.lemmas.Bool.{ltb-true, leb-true}
use Rattle.yr_rows.specs.declared.nodes.EdgeRow.{EdgeRow}
use Rattle.yr_rows.specs.Nodes.{AreWellformed, IsEdge}
use Rattle.yr_image.specs.Reading.{image_in}
use Rattle.yr_image.specs.declared.fault.ImageFault.TheVariants.{TooShort, Magic, Version, Length, Section, Index, Node}
use Rattle.yr_image.specs.Sections.{HasSections, rows_of}
use Rattle.yr_machine.specs.Rows.{is_good_edge, is_good_output}
use Rattle.yr_machine.specs.Wellformed.{IsWellformed}
use Rattle.yr_verifier.proofs.CountLemmas.{nodes_counted}
use Rattle.yr_cert.specs.Shape.{IsTrie}
use Rattle.yr_cert.specs.Words.{IsCertified}
use Rattle.yr_cert.proofs.CertifiedLemmas.{certified}

and_first : (a b : Bool) → (a && b) ≡ true → a ≡ true
and_first true b e = refl
and_first false b e = absurd (cc e)

and_second : (a b : Bool) → (a && b) ≡ true → b ≡ true
and_second true b e = e
and_second false b e = absurd (cc e)

module _ (bytes : List ℕ) (wellformed : IsWellformed bytes) where
  has_sections : HasSections bytes
  has_sections = record {
    long_enough = wellformed TooShort;
    magic_bytes = wellformed Magic;
    version = wellformed Version;
    whole = wellformed Length;
    sections = λ k lt. wellformed (Section k) lt;
  }

  edge_is_good : (k : ℕ) (row : EdgeRow) → slice_get (image_in bytes).edges k ≡ Some row → IsEdge (image_in bytes).nodes row
  edge_is_good k row at =
      let test : EdgeRow → Bool = is_good_edge (image_in bytes) in
      let passes : option_map_or test (slice_get (image_in bytes).edges k) true ≡ true = wellformed (Index 9 k) in
      let good : (nat_le row.byte 255 && nat_lt row.target (length (image_in bytes).nodes)) ≡ true = subst (λ o. option_map_or test o true ≡ true) at passes in
      let byte = leb-true row.byte 255 (and_first (nat_le row.byte 255) (nat_lt row.target (length (image_in bytes).nodes)) good) in
      (omega (arith, byte), ltb-true row.target (length (image_in bytes).nodes) (and_second (nat_le row.byte 255) (nat_lt row.target (length (image_in bytes).nodes)) good))

  pub outputs_name_splits : (k split : ℕ) → slice_get (image_in bytes).outputs k ≡ Some split → split < length (image_in bytes).splits
  outputs_name_splits k split at =
      let test : ℕ → Bool = is_good_output (image_in bytes) in
      let passes : option_map_or test (slice_get (image_in bytes).outputs k) true ≡ true = wellformed (Index 10 k) in
      let good : nat_lt split (length (image_in bytes).splits) ≡ true = subst (λ o. option_map_or test o true ≡ true) at passes in
      ltb-true split (length (image_in bytes).splits) good

  pub rows_are_wellformed : AreWellformed (image_in bytes).nodes (image_in bytes).edges (image_in bytes).outputs
  rows_are_wellformed = record {
    each_node = λ n row at. (wellformed (Node n) row at).wellformed;
    each_edge = λ k row at. edge_is_good k row at;
  }

  pub some_nodes : 0 < length (image_in bytes).nodes
  some_nodes =
      let some : 0 < rows_of bytes 8 = (wellformed (Section 8) (omega arith)).nodes refl in
      omega (arith, nodes_counted bytes has_sections, some)

  pub certified_bytes : IsTrie (image_in bytes) → IsCertified (image_in bytes)
  certified_bytes = certified (image_in bytes) some_nodes rows_are_wellformed
