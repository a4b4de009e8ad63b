use Rattle.yr_conditions.specs.Fixed.{the_readers}
use Rattle.yr_rules.specs.Rules.{string_of as checked_of}
use Rattle.yr_syntax.specs.Declaration.{string_of}
use Rattle.yr_checks.specs.Checked.{checked_string}
use Rattle.yr_checking.specs.Findings.{IsSoundString}
use Rattle.yr_checking.proofs.ListLemmas.{each_at, one_more}
use Rattle.yr_checking.proofs.strings.checked_strings.Goals as goal

pub read_checked-requires : goal.read_checked-requires
read_checked-requires c = each_at IsSoundString string_of c.args.strings.now c.loop-string.string-index c.string-item.result c.requires c.loop-string-test.true c.string-item.is

pub loop-string-preserved : goal.loop-string-preserved
loop-string-preserved c =
    one_more checked_of (checked_string the_readers c.args.rule) string_of c.loop-string.all.items c.push.new.self.items c.in_ok-read.read.string c.args.strings.now
    c.loop-string.string-index c.string-item.result c.in_ok-push.ensures.items c.in_ok-read.ensures.string c.loop-string-test.true c.string-item.is c.loop-string.invariant
