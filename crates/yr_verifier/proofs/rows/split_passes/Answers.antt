use Rattle.std.proofs.Common.{◌∙◌, sym, arith}
use Rattle.std.specs.Prelude.{slice_get}
use Rattle.std.specs.Option.{option_map_or}
use Rattle.std.proofs.lemmas.Bool.{le-leb}
use Rattle.yr_image.specs.Views.{image_of, shown_bytes}
use Rattle.yr_image.specs.Reading.{zeros_in}
use Rattle.yr_machine.specs.Rows.{is_good_split}
use Rattle.yr_verifier.proofs.CountLemmas.{splits_counted, zeros_counted}
use Rattle.yr_verifier.proofs.RowLemmas.{row_missing}
use Rattle.yr_verifier.proofs.rows.split_passes.Goals as goal

pub unused_of-requires : goal.unused_of-requires
unused_of-requires c =
    let view = c.args.view.now in
    omega (arith, c.if-k-count_splits.false, c.count_splits.ensures, splits_counted view.bytes.now view.fits, zeros_counted view.bytes.now view.fits)

pub returns-then-k-count_splits : goal.returns-then-k-count_splits
returns-then-k-count_splits c =
    let image = image_of c.args.view.now in
    let unused = option_map_or (λ sum. sum) (slice_get (zeros_in (shown_bytes c.args.view.now)) c.args.k) 0 in
    le-leb c.count_splits.result c.args.k c.if-k-count_splits.true
    ∙ sym (row_missing image (is_good_split image unused) image.splits c.args.k (omega (arith, c.if-k-count_splits.true, c.count_splits.ensures)))
