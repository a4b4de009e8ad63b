use Rattle.std.proofs.Common.{◌≡◌, ◌∙◌, ℕ, List, [], ◌++◌, Bool, ap, ap₂, subst, sym, refl, append-nil}
use Rattle.yr_answer.specs.Truths.{truths_shown}
use Rattle.yr_answer.specs.declared.options.ReportOptions.{ReportOptions}
use Rattle.yr_base.specs.Told.{AddsPrefix, told_more, told_more-after, AddsPrefix-after}
use Rattle.yr_base.specs.declared.value.Truth.{Truth}
use Rattle.yr_image.specs.Reading.{image_in}
use Rattle.yr_machine.specs.Listing.{image_report}
use Rattle.yr_outcome.specs.Answers.{hits_line, options_of}
use Rattle.yr_machine.specs.Verified.{bytes_of}
use Rattle.yr_words.specs.Shown.{flags_shown}
use Rattle.yr_scan.proofs.ReportLemmas.{AddsPrefix-front}
use Rattle.yr_scan.proofs.reporting.put_scan.Goals as goal

pub returns-in-Failed-clause-puts : goal.returns-in-Failed-clause-puts
returns-in-Failed-clause-puts g c =
    let text : List Truth → ReportOptions → List ℕ = λ t o. image_report (image_in (bytes_of c.args.image.now)) (truths_shown t) c.args.scan.now.matches.lists o c.args.target.now in
    let same : text c.deref.result.now c.options.result ≡ text c.args.scan.now.truths.items (options_of (flags_shown c.args.flags)) = ap₂ text c.deref.ensures.value c.options.ensures in
    AddsPrefix-front _ _ (text c.args.scan.now.truths.items (options_of (flags_shown c.args.flags))) (hits_line (flags_shown c.args.flags) c.args.scan.now.matches.hits)
    (subst (λ t. AddsPrefix (g.O.Sink.written c.args.out.now) (g.O.Sink.written c.write_report.new.out) t) same c.in-Failed.ensures.report.1)

pub returns-in-Done-put_hits-clause-puts : goal.returns-in-Done-put_hits-clause-puts
returns-in-Done-put_hits-clause-puts g c =
    let text : List Truth → ReportOptions → List ℕ = λ t o. image_report (image_in (bytes_of c.args.image.now)) (truths_shown t) c.args.scan.now.matches.lists o c.args.target.now in
    let same : text c.deref.result.now c.options.result ≡ text c.args.scan.now.truths.items (options_of (flags_shown c.args.flags)) = ap₂ text c.deref.ensures.value c.options.ensures in
    let first : g.O.Sink.written c.write_report.new.out ≡ told_more (g.O.Sink.written c.args.out.now) (text c.args.scan.now.truths.items (options_of (flags_shown c.args.flags))) =
    c.in-Done.ensures.report ∙ ap (told_more (g.O.Sink.written c.args.out.now)) same in
    let last : g.O.Sink.written c.put_hits.new.out ≡ told_more (g.O.Sink.written c.write_report.new.out) (hits_line (flags_shown c.args.flags) c.args.scan.now.matches.hits) =
    c.in-Done-put_hits.ensures.puts ∙ ap (λ n. told_more (g.O.Sink.written c.write_report.new.out) (hits_line (flags_shown c.args.flags) n)) c.hits.ensures in
    told_more-after (g.O.Sink.written c.args.out.now) (g.O.Sink.written c.write_report.new.out) (g.O.Sink.written c.put_hits.new.out)
    (text c.args.scan.now.truths.items (options_of (flags_shown c.args.flags))) (hits_line (flags_shown c.args.flags) c.args.scan.now.matches.hits) _ first last refl

pub returns-in-Failed-put_hits-clause-puts : goal.returns-in-Failed-put_hits-clause-puts
returns-in-Failed-put_hits-clause-puts g c =
    let text : List Truth → ReportOptions → List ℕ = λ t o. image_report (image_in (bytes_of c.args.image.now)) (truths_shown t) c.args.scan.now.matches.lists o c.args.target.now in
    let same : text c.deref.result.now c.options.result ≡ text c.args.scan.now.truths.items (options_of (flags_shown c.args.flags)) = ap₂ text c.deref.ensures.value c.options.ensures in
    let report = text c.args.scan.now.truths.items (options_of (flags_shown c.args.flags)) in
    let line = hits_line (flags_shown c.args.flags) c.args.scan.now.matches.hits in
    let first : g.O.Sink.written c.write_report.new.out ≡ told_more (g.O.Sink.written c.args.out.now) report =
    c.in-Done.ensures.report ∙ ap (told_more (g.O.Sink.written c.args.out.now)) same in
    let last : AddsPrefix (g.O.Sink.written c.write_report.new.out) (g.O.Sink.written c.put_hits.new.out) line =
    subst (λ n. AddsPrefix (g.O.Sink.written c.write_report.new.out) (g.O.Sink.written c.put_hits.new.out) (hits_line (flags_shown c.args.flags) n)) c.hits.ensures c.in-Failed-put_hits.ensures.puts.1 in
    AddsPrefix-after (g.O.Sink.written c.args.out.now) (g.O.Sink.written c.write_report.new.out) (g.O.Sink.written c.put_hits.new.out)
    report line [] (report ++ line) first last (ap (λ l. report ++ l) (sym (append-nil line)))
