use Rattle.std.proofs.Common.{map}
use Rattle.yr_values.specs.Values.{shown}
use Rattle.yr_machine.specs.Verified.{bytes_of}
use Rattle.yr_words.specs.Shown.{flags_shown}
use Rattle.yr_scan.proofs.ReportLemmas.{fits_report}
use Rattle.yr_scan.proofs.imaging.report_read.Goals as goal

pub returns-clause-fits : goal.returns-clause-fits
returns-clause-fits g c = λ setting files told there trace answer gives.
    fits_report setting files (bytes_of c.args.image.now) c.args.file.now (map shown c.args.values.now) (flags_shown c.args.flags) c.args.target.now answer gives
    (c.are_bytes.ensures, c.requires.small) told there trace _ _ c.report.result c.report.ensures.answer
