use Rattle.std.proofs.Common.{◌-◌, arith}
use Rattle.yr_conditions.specs.UseViews.{use_of}
use Rattle.yr_checking.specs.Findings.{HasShortText}
use Rattle.yr_checking.proofs.ListLemmas.{each_at}
use Rattle.yr_checking.proofs.expressions.first_expression_findings.Goals as goal

pub expression_findings-requires : goal.expression_findings-requires
expression_findings-requires c =
    each_at HasShortText use_of c.args.uses.now (c.loop-i.i - 1) c.index-uses-i.result c.requires (omega (arith, c.loop-i-test.true, c.loop-i.auto.i)) c.index-uses-i.is
