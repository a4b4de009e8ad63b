use Rattle.std.proofs.Common.{◌-◌, arith}
use Rattle.yr_syntax.specs.Declaration.{string_of}
use Rattle.yr_checking.specs.Findings.{IsSoundString}
use Rattle.yr_checking.proofs.ListLemmas.{each_at}
use Rattle.yr_checking.proofs.strings.string_findings.Goals as goal

pub one_string-requires : goal.one_string-requires
one_string-requires c =
    each_at IsSoundString string_of c.args.strings.now (c.loop-i.i - 1) c.index-strings-i.result c.requires (omega (arith, c.loop-i-test.true, c.loop-i.auto.i)) c.index-strings-i.is
