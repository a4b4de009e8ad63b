-- The fields of a split's row that are always 0 are read back as 0.
use Rattle.std.proofs.Common.{◌≡◌, ℕ, ◌/◌, List, [], ◌∷◌, ◌++◌, map, length, drop, All, refl, ap, ◌∙◌, arith}
use Rattle.std.specs.List.{flat_map}
use Rattle.std.proofs.Math.Seq.{drop-append_seam}
use Rattle.std.proofs.Math.Nat.{mul-div_cancel_left}
use Rattle.yr_rows.specs.Rows.{first_rows, rows_in}
use Rattle.yr_image.specs.declared.rows.SplitRow.{SplitRow}
use Rattle.yr_image.specs.Reading.{split_row, split_zeros}
use Rattle.yr_image.specs.Encoding.{split_bytes}
use Rattle.yr_image.specs.Fits.{FitsSplit}
use Rattle.yr_image.proofs.RowsBack.{length-rows}

zeros-back : (row : SplitRow) (rest : List ℕ) → split_zeros (split_bytes row ++ rest) ≡ 0
zeros-back row rest = refl

first_zeros : (rows : List SplitRow) → first_rows 32 split_zeros (length rows) (flat_map split_bytes rows) ≡ map (λ row. 0) rows
first_zeros [] = refl
first_zeros (row ∷ rows) =
    let rest = flat_map split_bytes rows in
    let dropped : drop 32 (split_bytes row ++ rest) ≡ rest = drop-append_seam (split_bytes row) rest in
    ap (λ z. z ∷ first_rows 32 split_zeros (length rows) (drop 32 (split_bytes row ++ rest))) (zeros-back row rest)
    ∙ ap (λ l. 0 ∷ first_rows 32 split_zeros (length rows) l) dropped
    ∙ ap (λ l. 0 ∷ l) (first_zeros rows)

pub rows_of_zeros : (rows : List SplitRow) → All FitsSplit rows → rows_in 32 split_zeros (flat_map split_bytes rows) ≡ map (λ row. 0) rows
rows_of_zeros rows fits =
    ap (λ n. first_rows 32 split_zeros (n / 32) (flat_map split_bytes rows)) (length-rows 32 split_row split_bytes FitsSplit (λ x f. refl) rows fits)
    ∙ ap (λ n. first_rows 32 split_zeros n (flat_map split_bytes rows)) (mul-div_cancel_left (length rows) (omega arith))
    ∙ first_zeros rows
