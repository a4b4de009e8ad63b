-- Rows that are not there pass.
use Rattle.std.proofs.Common.{◌≡◌, ℕ, ◌<◌, ◌≤◌, List, length, refl, ap, ◌∙◌, arith, Bool, true, false, cond, ◌&&◌, ◌||◌}
use Rattle.std.specs.Prelude.{slice_get, ◌==◌, nat_lt}
use Rattle.std.specs.Option.{option_map_or}
use Rattle.std.proofs.lemmas.Bool.{eqb-true, lt-ltb}
use Rattle.std.proofs.lemmas.Option.{slice_get_past}
use Rattle.yr_image.specs.Image.{Image}
use Rattle.yr_image.specs.Sections.{HasSections, rows_of}
use Rattle.yr_image.specs.Reading.{image_in, zeros_in}
use Rattle.yr_machine.specs.Rows.{row_passes, is_good_rule, is_good_note, is_good_external, is_good_string, is_good_split, is_good_edge, is_good_output, is_good_without_rules, index_passes}
use Rattle.yr_verifier.proofs.CountLemmas.{rules_counted, notes_counted, externals_counted, strings_counted, splits_counted, edges_counted, outputs_counted}

pub either : (b x y : Bool) → (b ≡ true → x ≡ true) → (b ≡ false → y ≡ true) → cond b x y ≡ true
either true x y p q = p refl
either false x y p q = q refl

or_true : (b c : Bool) → b ≡ true → (b || c) ≡ true
or_true b c e = ap (λ a. a || c) e

pub row_missing : {A : Type 0} (image : Image) (test : A → Bool) (rows : List A) (k : ℕ) → length rows ≤ k → row_passes image test rows k ≡ true
row_missing image test rows k le = ap (λ o. option_map_or test o true) (slice_get_past rows k le)

module _ (bytes : List ℕ) (fits : HasSections bytes) (section k : ℕ) (le : rows_of bytes section ≤ k) where
  -- a section has no row past its last one
  past : (n count : ℕ) → (section == n) ≡ true → count ≡ rows_of bytes n → count ≤ k
  past n count e c = let same : section ≡ n = eqb-true section n e in omega (arith, c, ap (rows_of bytes) same, le)

  pub index_beyond : 0 < k → index_passes (image_in bytes) (zeros_in bytes) section k ≡ true
  index_beyond some =
      let image = image_in bytes in
      let unused = option_map_or (λ sum. sum) (slice_get (zeros_in bytes) k) 0 in
      either (section == 0) _ _
      (λ e. ap (λ b. b && (nat_lt 0 k || is_good_without_rules image))
      (row_missing image (is_good_rule image k) image.rules k (past 0 _ e (rules_counted bytes fits))) ∙ or_true (nat_lt 0 k) _ (lt-ltb 0 k some))
      (λ _. either (section == 1) _ _ (λ e. row_missing image (is_good_note image) image.notes k (past 1 _ e (notes_counted bytes fits)))
      (λ _. either (section == 2) _ _ (λ e. row_missing image (is_good_external image) image.externals k (past 2 _ e (externals_counted bytes fits)))
      (λ _. either (section == 3) _ _ (λ e. row_missing image (is_good_string image k) image.strings k (past 3 _ e (strings_counted bytes fits)))
      (λ _. either (section == 4) _ _ (λ e. row_missing image (is_good_split image unused) image.splits k (past 4 _ e (splits_counted bytes fits)))
      (λ _. either (section == 9) _ _ (λ e. row_missing image (is_good_edge image) image.edges k (past 9 _ e (edges_counted bytes fits)))
      (λ _. either (section == 10) _ _ (λ e. row_missing image (is_good_output image) image.outputs k (past 10 _ e (outputs_counted bytes fits)))
      (λ _. refl)))))))

-- other sections have no check
pub index_other : (image : Image) (unused : List ℕ) (section k : ℕ) → 11 ≤ section → index_passes image unused section k ≡ true
index_other image unused section k le =
    let not : (n : ℕ) → n < 11 → (section == n) ≡ true → ⊥ = λ n lt e. omega (arith, eqb-true section n e, lt, le) in
    either (section == 0) _ _ (λ e. absurd (not 0 (omega arith) e))
    (λ _. either (section == 1) _ _ (λ e. absurd (not 1 (omega arith) e))
    (λ _. either (section == 2) _ _ (λ e. absurd (not 2 (omega arith) e))
    (λ _. either (section == 3) _ _ (λ e. absurd (not 3 (omega arith) e))
    (λ _. either (section == 4) _ _ (λ e. absurd (not 4 (omega arith) e))
    (λ _. either (section == 9) _ _ (λ e. absurd (not 9 (omega arith) e))
    (λ _. either (section == 10) _ _ (λ e. absurd (not 10 (omega arith) e)) (λ _. refl)))))))
