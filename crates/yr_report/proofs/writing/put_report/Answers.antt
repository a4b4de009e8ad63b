use Rattle.std.proofs.Common.{arith}
use Rattle.yr_report.proofs.writing.put_report.Goals as goal

pub put_report_with-requires-clause-shut : goal.put_report_with-requires-clause-shut
put_report_with-requires-clause-shut g c = record {
  sorted = λ k d low high. absurd (omega arith);
  same = λ name. c.some_false_global.ensures name c.if-some_false_global.false;
}
