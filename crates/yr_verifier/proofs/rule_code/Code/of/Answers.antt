use Rattle.std.proofs.Common.{sym, ap, ◌∙◌, ◌-◌, arith, min, take, drop}
use Rattle.yr_image.specs.Views.{image_of}
use Rattle.yr_verifier.proofs.CountLemmas.{code_counted}
use Rattle.yr_verifier.proofs.RangeLemmas.{range_clipped}
use Rattle.yr_verifier.proofs.rule_code.Code.of.Goals as goal

pub invariant_of-result : goal.invariant_of-result
invariant_of-result c =
    let all = code_counted c.args.view.bytes.now c.args.view.fits in
    record {
      inside = omega (arith, c.least-first.ensures, c.least-rows.ensures, c.rows-all.ensures, all);
      small = omega (arith, c.least-first.ensures, c.least-rows.ensures, c.rows-all.type_inv);
    }

pub returns-clause-shown : goal.returns-clause-shown
returns-clause-shown c =
    let code = (image_of c.args.view).code in
    let all = c.rows-all.result in
    ap (λ f. take c.least-rows.result (drop f code)) c.least-first.ensures
    ∙ ap (λ n. take n (drop (min c.args.first all) code)) (c.least-rows.ensures ∙ ap (λ f. min c.args.rows (all - f)) c.least-first.ensures)
    ∙ range_clipped c.args.first c.args.rows all code (code_counted c.args.view.bytes.now c.args.view.fits ∙ sym c.rows-all.ensures)
