use Rattle.std.proofs.Common.{⊎_elim, subst, sym, arith}
use Rattle.std.proofs.lemmas.Bool.{cases_order}
use Rattle.yr_image.specs.Views.{image_of}
use Rattle.yr_verifier.specs.Windows.{IsOther}
use Rattle.yr_verifier.proofs.TableLemmas.{present, absent, absent_all}
use Rattle.yr_verifier.proofs.windows.first_in.Goals as goal
use Rattle.yr_verifier.proofs.windows.first_in.Goals.{in-Free, in-Nowhere}

pub returns-in-Taken : goal.returns-in-Taken
returns-in-Taken c =
    let met = c.in-Taken.ensures in
    let behind = c.loop-k.auto.k in (
      behind,
      c.loop-k-test.true,
      present (image_of c.args.view.now) c.args.key c.args.table.now c.args.window.from c.args.window.to c.loop-k.k met.0 c.requires.keeps behind met.1 met.2,
      c.loop-k.invariant,
    )

pub loop-k-preserved : goal.loop-k-preserved
loop-k-preserved c =
    let image = image_of c.args.view.now in
    let window = c.args.window in
    let k = c.loop-k.k in
    let here : IsOther image window.from window.to k =
    elim c.match-place_of.branch [
      | in-Free w ↦ let free = w.in-Free.ensures in absent image c.args.key c.args.table.now window.from window.to k c.requires.keeps w.in-Free.field-0 free.0 free.2 free.3
      | in-Nowhere w ↦ absent_all image c.args.key c.args.table.now window.from window.to k c.requires.keeps w.in-Nowhere.ensures
    ] in
    λ i low high.
    ⊎_elim (λ e. subst (IsOther image window.from window.to) (sym e) here)
    (⊎_elim (λ lt. c.loop-k.invariant i low lt) (λ gt. absurd (omega (arith, gt, high)))) (cases_order i k)
