use Rattle.std.proofs.Common.{◌∙◌}
use Rattle.yr_lexer.proofs.FrameLemmas.{open-there, found-open, none-more, none-open}
use Rattle.yr_lexer.proofs.PathLemmas.{name-tested}
use Rattle.yr_lexer.proofs.gathering.is_open.Goals as goal

pub returns-then-eq : goal.returns-then-eq
returns-then-eq c =
    let there = open-there c.args.files.now c.args.frames.now c.args.name.now c.loop-frame.frame-index c.frame-item.result c.loop-frame-test.true c.frame-item.is c.requires in
    found-open c.args.files.now c.args.frames.now c.args.name.now c.loop-frame.frame-index c.frame-item.result c.loop-frame-test.true c.frame-item.is
    (name-tested c.args.files.now c.frame-item.result.file c.index-files-frame.result c.as_str.result.now c.args.name.now c.eq.result there c.index-files-frame.is c.as_str.ensures.value c.eq.ensures ∙ c.if-eq.true)

pub loop-frame-preserved : goal.loop-frame-preserved
loop-frame-preserved c =
    let there = open-there c.args.files.now c.args.frames.now c.args.name.now c.loop-frame.frame-index c.frame-item.result c.loop-frame-test.true c.frame-item.is c.requires in
    none-more c.args.files.now c.args.frames.now c.args.name.now c.loop-frame.frame-index c.frame-item.result c.loop-frame-test.true c.frame-item.is c.loop-frame.invariant
    (name-tested c.args.files.now c.frame-item.result.file c.index-files-frame.result c.as_str.result.now c.args.name.now c.eq.result there c.index-files-frame.is c.as_str.ensures.value c.eq.ensures ∙ c.if-eq.false)

pub returns : goal.returns
returns c = none-open _ c.args.frames.now c.args.name.now c.loop-frame.frame-index c.loop-frame-test.false c.loop-frame.invariant
