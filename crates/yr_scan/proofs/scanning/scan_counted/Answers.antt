use Rattle.std.proofs.Common.{map}
use Rattle.yr_values.specs.Values.{shown}
use Rattle.yr_machine.specs.Verified.{bytes_of}
use Rattle.yr_scan.proofs.ScanLemmas.{scanned}
use Rattle.yr_scan.proofs.scanning.scan_counted.Goals as goal

pub returns : goal.returns
returns g c =
    scanned c.some_programs_are_known.ensures (g.M.Modules.field_of c.args.modules.now) (g.M.Modules.call_of c.args.modules.now) (bytes_of c.args.image.now) c.args.file.now
    (map shown c.args.externals.now) c.in_ok-matches.matches c.evaluate.new.results c.in_ok-truths.truths.items c.in_ok-truths.truths.len _ _ c.in_ok-matches.ensures.found c.evaluate.ensures.evaluation
    c.in_ok-truths.ensures c.in_ok-truths.truths.ok.0
