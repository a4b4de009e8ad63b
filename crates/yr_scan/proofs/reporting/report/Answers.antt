use Rattle.std.proofs.Common.{map}
use Rattle.yr_answer.specs.Truths.{truths_shown}
use Rattle.yr_values.specs.Values.{shown}
use Rattle.yr_machine.specs.Verified.{bytes_of}
use Rattle.yr_words.specs.Shown.{flags_shown}
use Rattle.yr_scan.proofs.ReportLemmas.{reported}
use Rattle.yr_scan.proofs.reporting.report.Goals as goal

pub returns-in-Ok-clause-answer : goal.returns-in-Ok-clause-answer
returns-in-Ok-clause-answer g c =
    reported (bytes_of c.args.image.now) c.args.file.now (map shown c.args.externals.now) (flags_shown c.args.flags) c.args.target.now
    c.in-Ok.scan.matches.lists c.in-Ok.scan.matches.hits (truths_shown c.in-Ok.scan.truths.items) c.in-Ok.ensures c.put_scan.result _ _ c.put_scan.ensures.puts
