use Rattle.std.proofs.Common.{◌≡◌, ◌+◌, ap, ◌∙◌, arith}
use Rattle.std.specs.Prelude.{◌==◌, Some}
use Rattle.yr_machine.specs.CodeWalk.{by_row, close, fails, finished, goes_on}
use Rattle.yr_verifier.specs.Rows.{rows_shown, image_shown}
use Rattle.yr_verifier.proofs.WalkLemmas.{fault_by, fault_end}
use Rattle.yr_verifier.proofs.checking.code_fault.Goals as goal

pub returns-in-Fails : goal.returns-in-Fails
returns-in-Fails c =
    let code = c.args.code.now in
    let walk = c.loop-place.walk in
    let p = c.loop-place.place in
    let last = ap (λ n. by_row (image_shown code) code.rule (rows_shown code) c.row.result (p + 1 == n) p (close p walk.kinds walk.blocks)) c.count-count.ensures in
    fault_by (image_shown code) code.rule (rows_shown code) p walk.kinds walk.blocks c.row.result fails _ c.row.ensures (c.in-Fails.ensures.verdict ∙ last) c.loop-place.invariant.rest

pub returns-in-Finished : goal.returns-in-Finished
returns-in-Finished c =
    let code = c.args.code.now in
    let walk = c.loop-place.walk in
    let p = c.loop-place.place in
    let last = ap (λ n. by_row (image_shown code) code.rule (rows_shown code) c.row.result (p + 1 == n) p (close p walk.kinds walk.blocks)) c.count-count.ensures in
    fault_by (image_shown code) code.rule (rows_shown code) p walk.kinds walk.blocks c.row.result finished _ c.row.ensures (c.in-Finished.ensures.verdict ∙ last) c.loop-place.invariant.rest

pub loop-place-preserved : goal.loop-place-preserved
loop-place-preserved c =
    let code = c.args.code.now in
    let walk = c.loop-place.walk in
    let next = c.pass.new.self in
    let p = c.loop-place.place in
    let last = ap (λ n. by_row (image_shown code) code.rule (rows_shown code) c.row.result (p + 1 == n) p (close p walk.kinds walk.blocks)) c.count-count.ensures in
    record {
      rest = fault_by (image_shown code) code.rule (rows_shown code) p walk.kinds walk.blocks c.row.result (goes_on next.kinds next.blocks) _ c.row.ensures
          (c.in-GoesOn.ensures.verdict ∙ last) c.loop-place.invariant.rest;
      agrees = c.in-GoesOn.ensures.agrees;
    }

pub returns : goal.returns
returns c =
    let code = c.args.code.now in
    let walk = c.loop-place.walk in
    let p = c.loop-place.place in
    let here : c.count-count.result ≡ p = omega (arith, c.loop-place-test.false, c.loop-place.auto.place-end) in
    ap Some here
    ∙ fault_end (image_shown code) code.rule (rows_shown code) p walk.kinds walk.blocks _ (omega (arith, here, c.count-count.ensures)) c.loop-place.invariant.rest
