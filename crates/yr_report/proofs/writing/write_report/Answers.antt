use Rattle.std.proofs.Common.{ℕ, List, ap₂}
use Rattle.yr_answer.specs.Truths.{truths_shown}
use Rattle.yr_image.specs.Reading.{image_in}
use Rattle.yr_machine.specs.Listing.{image_report}
use Rattle.yr_report.specs.Adding.{waiting}
use Rattle.yr_report.proofs.AddLemmas.{put-whole, put-part}
use Rattle.yr_report.proofs.writing.write_report.Goals as goal

pub returns-in-Ok-clause-report : goal.returns-in-Ok-clause-report
returns-in-Ok-clause-report g c =
    let report : List ℕ → List ℕ → List ℕ = λ bytes target. image_report (image_in bytes) (truths_shown c.args.results.now) c.args.matches.now.lists c.args.options target in
    put-whole (g.O.Sink.written c.args.out.now) (g.O.Sink.written c.put_report.new.out) (waiting c.new-line.result) (waiting c.put_report.new.line) _ _ c.new-line.ensures c.in-Ok.ensures.empty
    (ap₂ report c.view.ensures.bytes c.as_bytes.ensures.value) c.in-Ok.ensures.added

pub returns-in-Err-clause-report : goal.returns-in-Err-clause-report
returns-in-Err-clause-report g c =
    let report : List ℕ → List ℕ → List ℕ = λ bytes target. image_report (image_in bytes) (truths_shown c.args.results.now) c.args.matches.now.lists c.args.options target in (
      c.in-Err.ensures.added.0,
      put-part (g.O.Sink.written c.args.out.now) (g.O.Sink.written c.put_report.new.out) (waiting c.new-line.result) _ _ c.new-line.ensures
          (ap₂ report c.view.ensures.bytes c.as_bytes.ensures.value) c.in-Err.ensures.added.1,
    )
