use Rattle.std.proofs.Common.{map, IfOk}
use Rattle.yr_answer.specs.Truths.{truths_shown}
use Rattle.yr_values.specs.Values.{shown}
use Rattle.yr_machine.specs.Verified.{bytes_of}
use Rattle.yr_scan.specs.Scanned.{IsScanWith}
use Rattle.yr_scan.proofs.ScanLemmas.{from_joined, joined_fit}
use Rattle.yr_scan.proofs.scanning.scan_file.Goals as goal

pub scan_counted-requires-clause-modules : goal.scan_counted-requires-clause-modules
scan_counted-requires-clause-modules c =
    let m = c.modules_of-modules in
    joined_fit c.args.file.now m.result.file.now m.result.inner.inner m.result.inner.file.now m.ensures.file m.ensures.inner m.ensures.hashed

pub returns : goal.returns
returns c =
    let m = c.modules_of-modules in
    from_joined c.args.file.now m.result.file.now m.result.inner.inner m.result.inner.file.now m.ensures.file m.ensures.inner m.ensures.hashed
    (λ fields calls. IfOk c.scan_counted.result (λ scan. IsScanWith fields calls (bytes_of c.args.image.now) c.args.file.now (map shown c.args.externals.now)
    scan.matches.lists scan.matches.hits (truths_shown scan.truths.items))) c.scan_counted.ensures
