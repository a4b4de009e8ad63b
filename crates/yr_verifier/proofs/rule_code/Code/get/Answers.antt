use Rattle.std.proofs.Common.{sym, arith}
use Rattle.std.proofs.lemmas.Option.{slice_get_past}
use Rattle.yr_verifier.specs.Rows.{rows_shown}
use Rattle.yr_verifier.proofs.rule_code.Code.get.Goals as goal

pub returns-else-place-count : goal.returns-else-place-count
returns-else-place-count c = sym (slice_get_past (rows_shown c.args.self.now) c.args.place (omega (arith, c.count.ensures, c.if-place-count.false)))
